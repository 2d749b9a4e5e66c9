pub mod Results
pub mod Bytes
pub mod Answers
pub mod Attributes
pub mod Tags
pub mod Markup
pub mod Entities
