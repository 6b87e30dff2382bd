pub mod Deleted
pub mod Orphans
pub mod Rows
pub mod Sources
