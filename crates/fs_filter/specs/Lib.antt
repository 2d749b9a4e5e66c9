pub mod Asked
pub mod Chunks
pub mod Subscriptions
pub mod Laws
