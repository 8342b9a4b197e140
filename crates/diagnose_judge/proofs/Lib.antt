pub mod Determined
pub mod Discoveries
pub mod Judgings
pub mod OwnRuns
pub mod Verdicts
