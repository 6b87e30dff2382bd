pub mod Setup
pub mod Objects
pub mod Lines
pub mod Reports
pub mod Finishing
pub mod Merges
