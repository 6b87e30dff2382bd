pub mod Console
pub mod Faults
pub mod NoJob
pub mod Outside
pub mod Reasons
pub mod RequestedJob
