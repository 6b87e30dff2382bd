pub mod FilesOfEntries
pub mod Moves
pub mod Countdowns
