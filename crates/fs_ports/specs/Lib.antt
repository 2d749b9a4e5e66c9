pub mod Counts
pub mod Ports
pub mod Doors
pub mod Clocks
pub mod Loads
pub mod Patterns
pub mod Memory
