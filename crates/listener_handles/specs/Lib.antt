pub mod Events
pub mod Rules
pub mod Listeners
pub mod Calls
