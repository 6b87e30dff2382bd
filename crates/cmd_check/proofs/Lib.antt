pub mod EndedRows
pub mod FaultCounts
pub mod FileLines
