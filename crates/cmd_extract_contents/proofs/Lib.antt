pub mod Written
pub mod Fitting
