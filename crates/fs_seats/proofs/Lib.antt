pub mod SeatLemmas
pub mod RowLemmas
pub mod HeldLemmas
pub mod EmptyLemmas
pub mod TableLemmas
pub mod NumberLemmas
pub mod LeastLemmas
