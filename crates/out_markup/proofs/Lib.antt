pub mod Escapes
pub mod Markups
