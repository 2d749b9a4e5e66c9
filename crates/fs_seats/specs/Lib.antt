pub mod Seats
pub mod Rows
pub mod Least
pub mod Sheets
pub mod Overlays
