pub mod Values
pub mod Pairs
pub mod Names
pub mod FailedDumps
pub mod Rows
