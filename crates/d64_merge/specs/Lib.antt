pub mod Copies
pub mod Choices
pub mod Merged
pub mod Left
pub mod Laws
