pub mod User
pub mod Credentials
pub mod Users
pub mod Rows
pub mod Index
pub mod Cache
