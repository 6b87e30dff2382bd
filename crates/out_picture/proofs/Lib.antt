pub mod StateRules
pub mod Columns
pub mod FileRows
