pub mod Headers
pub mod Places
pub mod Reading
pub mod Rings
pub mod Texts
