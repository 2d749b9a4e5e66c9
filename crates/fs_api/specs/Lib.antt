pub mod Usages
pub mod Words
pub mod Originates
pub mod Transfers
pub mod Readings
pub mod Ranges
