pub mod Rows
pub mod Determined
pub mod Replays
pub mod Placed
