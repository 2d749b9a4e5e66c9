pub mod CountLemmas
pub mod LawLemmas
pub mod OrderLemmas
pub mod PositionLemmas
pub mod SoundLemmas
pub mod StandingLemmas
pub mod WithoutLemmas
