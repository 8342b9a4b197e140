pub mod Versions
pub mod Layout
pub mod Message
pub mod Reading
pub mod Faults
pub mod Refusals
pub mod Spelling
pub mod Fronts
