pub mod NameLemmas
pub mod WorkLemmas
pub mod TargetLemmas
