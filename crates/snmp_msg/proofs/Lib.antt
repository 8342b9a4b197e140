pub mod Pdus
pub mod Canonicals
pub mod Variables
pub mod Written
pub mod Values
