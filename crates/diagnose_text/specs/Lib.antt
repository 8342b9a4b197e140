pub mod Datagrams
pub mod Engines
pub mod Facts
pub mod Following
pub mod Printing
pub mod Wanted
