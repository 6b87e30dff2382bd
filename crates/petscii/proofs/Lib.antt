pub mod Digits
pub mod Tables
pub mod UnitForms
pub mod Units
pub mod Readings
mod AsciiTexts
