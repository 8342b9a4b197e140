pub mod Refusing
pub mod Handling
