pub mod PairsLemmas
pub mod SameLemmas
pub mod TallyLemmas
pub mod DigitLemmas
pub mod ExpansionLemmas
pub mod OutputLemmas
pub mod LawLemmas
pub mod GlobalLemmas
