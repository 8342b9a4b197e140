pub mod Clocks
pub mod Judging
pub mod Runs
