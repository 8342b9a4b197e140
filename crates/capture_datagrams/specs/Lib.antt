pub mod Datagrams
pub mod Dumped
pub mod Forms
pub mod LogPrints
pub mod Logs
pub mod Packets
pub mod Printout
pub mod Texts
