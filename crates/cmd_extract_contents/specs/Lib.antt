pub mod Portions
pub mod RowPortions
pub mod Limits
pub mod ExtractLaws
pub mod HostFileNames
