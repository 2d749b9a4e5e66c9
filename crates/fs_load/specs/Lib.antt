pub mod Calls
pub mod Document
