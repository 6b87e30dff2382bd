pub mod Kept
pub mod Counts
pub mod Agreements
pub mod Orders
pub mod OrderedBlocks
pub mod MergedOrders
pub mod MergedBlocks
pub mod EqualDumps
