pub mod Copies
pub mod Exchanges
pub mod Routes
