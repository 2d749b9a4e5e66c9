pub mod Lists
pub mod Opening
pub mod Quiets
pub mod Stages
pub mod Keeps
