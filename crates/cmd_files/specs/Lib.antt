pub mod Selections
pub mod Files
