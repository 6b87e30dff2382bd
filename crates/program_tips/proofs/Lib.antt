pub mod Arguments
pub mod Cuts
pub mod Lines
