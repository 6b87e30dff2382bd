pub mod Tools
pub mod RefusalLine
pub mod RefusedText
pub mod ToolRuns
