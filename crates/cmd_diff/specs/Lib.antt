pub mod Changes
pub mod ChangeObject
pub mod ChangeText
pub mod Differences
pub mod Quiet
pub mod Laws
pub mod Comparisons
