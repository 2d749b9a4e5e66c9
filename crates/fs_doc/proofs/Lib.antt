pub mod GivenLemmas
pub mod CoreLemmas
pub mod DialplanLemmas
pub mod RoundLemmas
pub mod Counts
pub mod WithinLemmas
pub mod GlobalLemmas
