pub mod RunSteps
pub mod ListNames
pub mod ListSteps
pub mod ListStreams
pub mod Serving
pub mod SurveyRuns
mod RunEnds
pub mod Quiet
