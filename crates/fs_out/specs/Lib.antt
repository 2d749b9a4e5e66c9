pub mod Greetings
pub mod Laws
pub mod Targets
