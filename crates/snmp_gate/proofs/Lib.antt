pub mod AskSteps
pub mod GroupSteps
pub mod Held
pub mod Ids
pub mod Outcomes
pub mod Pairs
pub mod Questions
pub mod SetMemory
pub mod Tags
pub mod Timers
pub mod ReadNames
mod Erring
mod Contextless
mod Whys
mod Repetitions
mod Knowing
mod Repeating
pub mod Contexts
pub mod Counts
pub mod Asked
pub mod Standing
pub mod Sending
pub mod Telling
pub mod More
pub mod Others
pub mod Causing
pub mod Histories
pub mod Granted
pub mod AsksKept
pub mod SetsKept
pub mod SetsGoing
pub mod GivingUp
pub mod SetsComing
pub mod Shares
pub mod Joining
pub mod Coming
pub mod Endings
pub mod AskingWell
pub mod Same
pub mod Keeping
pub mod Running
mod Short
pub mod Dues
pub mod Bounded
pub mod Todos
pub mod AtOnce
pub mod Through
pub mod Untaken
pub mod SetRooms
pub mod Leaving
mod Unsealed
pub mod Told
