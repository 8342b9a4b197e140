pub mod Tellings
pub mod Beginnings
pub mod Dumps
mod LogLines
pub mod Refusals
mod LogEntries
