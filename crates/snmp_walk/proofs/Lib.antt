pub mod Places
mod Steps
mod Changed
pub mod Asked
mod Each
mod After
mod Pushed
mod Bulk
mod Open
pub mod Runs
mod TurnLists
mod BulkReads
pub mod Zipped
mod BulkAnswers
mod Choices
mod BulkRequests
pub mod BulkGoing
mod BulkShows
mod BulkAfter
pub mod BulkRuns
mod Fronts
mod Names
mod Named
mod BulkNamed
