pub mod ControlNames
pub mod Spelling
pub mod TextForm
pub mod TextFault
