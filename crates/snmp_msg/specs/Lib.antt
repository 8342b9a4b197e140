pub mod Values
pub mod Variables
pub mod PduTypes
pub mod Pdu
pub mod Canonical
pub mod Refusals
