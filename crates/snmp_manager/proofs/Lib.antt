pub mod Takes
pub mod Learned
mod Written
mod Sent
pub mod Pieces
pub mod Reports
pub mod Lists
pub mod Worlds
pub mod Origins
pub mod Runs
