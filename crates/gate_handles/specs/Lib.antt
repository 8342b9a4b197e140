pub mod Events
pub mod Notes
pub mod Gates
pub mod Lines
pub mod Calls
pub mod Told
pub mod Forwards
