mod Added
pub mod Told
pub mod Addresses
pub mod Tops
pub mod Contexts
pub mod Fits
pub mod Refused
pub mod Unique
pub mod Unrefused
