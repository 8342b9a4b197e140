pub mod Transfer
pub mod Digits
pub mod Causes
