pub mod Arrays
pub mod Objects
pub mod HostFields
