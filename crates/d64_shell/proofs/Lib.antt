mod ProgramRuns
mod JobEnds
