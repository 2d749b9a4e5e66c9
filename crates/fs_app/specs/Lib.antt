pub mod Applications
