pub mod Ranges
pub mod Joined
mod MergeRuns
