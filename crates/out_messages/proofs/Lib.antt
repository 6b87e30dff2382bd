mod FirstCharacters
pub mod OwnerTexts
pub mod Joins
pub mod FileTexts
pub mod FaultTexts
