pub mod Transcript
pub mod ScriptLaws
pub mod Runner
pub mod LineByLine
pub mod Beginnings
pub mod Scripts
pub mod ShellFaults
pub mod ShellRuns
