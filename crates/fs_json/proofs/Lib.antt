pub mod BackLemmas
pub mod OrderLemmas
pub mod ReadLemmas
pub mod ShownLemmas
pub mod WrittenLemmas
