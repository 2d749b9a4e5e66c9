pub mod AddressLemmas
pub mod LawLemmas
pub mod LineLemmas
pub mod WordLemmas
