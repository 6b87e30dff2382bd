pub mod Owners
pub mod Findings
pub mod CheckRows
pub mod Doubts
pub mod Checks
pub mod FileLines
pub mod CheckText
pub mod Check
