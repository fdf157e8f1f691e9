pub mod HeaderRuns
