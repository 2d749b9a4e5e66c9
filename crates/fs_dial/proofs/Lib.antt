pub mod Cuts
pub mod Marks
pub mod PairLaws
pub mod BracketLaws
pub mod LegLaws
pub mod Whole
pub mod OffsetLaws
pub mod ValueLaws
