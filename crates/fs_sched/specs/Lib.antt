pub mod Civil
pub mod KnownMinutes
pub mod Laws
pub mod Ranges
pub mod Reading
pub mod Tasks
pub mod Times
