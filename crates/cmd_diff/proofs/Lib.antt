pub mod Keeping
pub mod Printed
pub mod Unchanged
mod ComparisonRuns
