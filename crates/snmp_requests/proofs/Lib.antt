pub mod Alone
pub mod Asking
pub mod Hearing
pub mod Maps
pub mod Outstandings
pub mod Tokens
