pub mod Loading
pub mod Talking
pub mod Working
