pub mod Mirrors
pub mod Writings
pub mod Numbers
pub mod Blocks
pub mod LoadLines
pub mod ActLines
pub mod Lines
pub mod Bad
pub mod Faulty
mod Stops
