pub mod Pairs
pub mod Variables
pub mod Parts
pub mod Scopes
pub mod Expansion
pub mod Laws
pub mod Pieces
pub mod Outputs
