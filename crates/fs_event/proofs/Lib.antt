pub mod LineLemmas
mod ReadLaws
pub mod ReleaseLemmas
pub mod RingLemmas
