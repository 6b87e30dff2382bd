pub mod Untouched
pub mod LowestNumbers
pub mod Noted
pub mod NotLost
