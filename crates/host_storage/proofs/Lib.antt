mod ReadBytes
pub mod ShownNames
pub mod PrintedNames
pub mod PlainTexts
