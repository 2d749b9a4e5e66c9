pub mod CivilLemmas
pub mod TaskLemmas
pub mod RunLemmas
pub mod ThereLemmas
