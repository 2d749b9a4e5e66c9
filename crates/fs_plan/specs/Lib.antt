pub mod Outcomes
pub mod Matching
pub mod Substitution
pub mod Inline
pub mod Hunting
pub mod Building
