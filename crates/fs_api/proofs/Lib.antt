pub mod CloseLemmas
pub mod EchoLemmas
pub mod RangeLemmas
