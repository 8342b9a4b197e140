pub mod Messages
pub mod Faults
pub mod Writes
