pub mod Values
pub mod Tags
pub mod Readings
pub mod Documents
pub mod Marks
pub mod Faults
pub mod Laws
