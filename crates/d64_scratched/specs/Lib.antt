pub mod Scratched
pub mod Claims
pub mod LossLaws
