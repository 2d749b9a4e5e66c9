pub mod Counts
pub mod Opened
pub mod Numbered
pub mod Turns
pub mod Tenures
pub mod Passes
