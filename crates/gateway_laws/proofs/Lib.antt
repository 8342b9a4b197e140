mod Tracks
pub mod Lists
pub mod TrueRuns
mod Taken
mod Alike
mod BulkTracks
mod BulkReads
pub mod BulkFronts
pub mod BulkTrueRuns
mod InTurn
pub mod BulkAsked
pub mod FrontsTaken
mod Repetitions
