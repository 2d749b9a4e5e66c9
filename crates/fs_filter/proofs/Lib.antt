pub mod AskedLemmas
pub mod ChunkLemmas
pub mod SubscriptionLemmas
pub mod SetLemmas
pub mod SieveLemmas
