pub mod Transcripts
pub mod ScriptRuns
pub mod ScriptHistories
pub mod ScriptLines
pub mod LinesSoFar
pub mod RunEnds
pub mod ShellRuns
mod SessionFiles
