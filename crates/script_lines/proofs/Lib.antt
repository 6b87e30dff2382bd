pub mod Finding
pub mod TwoDigits
pub mod LineCommands
pub mod Acts
pub mod BasicActs
pub mod TextArguments
mod LastParts
pub mod FoundFiles
pub mod FileTexts
pub mod ExecutedLines
