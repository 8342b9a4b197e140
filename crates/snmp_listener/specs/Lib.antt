pub mod Wanted
pub mod Told
pub mod Acknowledging
pub mod Counting
pub mod Listening
pub mod Runs
