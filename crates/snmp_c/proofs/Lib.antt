pub mod Keeps
pub mod Made
