pub mod Meant
pub mod Message
pub mod Tip
