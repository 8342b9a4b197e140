pub mod Made
pub mod Runs
pub mod Steps
pub mod Takings
