pub mod Commands
pub mod Kept
pub mod LineStart
pub mod Prompt
pub mod Leaving
pub mod Observed
pub mod Unfit
pub mod Past
