pub mod CountLemmas
pub mod HeldLemmas
pub mod KeyLemmas
pub mod SoundLemmas
pub mod UsageLemmas
