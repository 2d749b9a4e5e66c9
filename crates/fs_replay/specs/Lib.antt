pub mod Texts
pub mod Bounds
pub mod Faults
pub mod Reading
