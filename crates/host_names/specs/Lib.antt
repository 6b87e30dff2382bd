pub mod HostName
pub mod TakenNames
pub mod ImagePlace
pub mod Laws
pub mod Digest
pub mod Records
pub mod Paths
