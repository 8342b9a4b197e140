pub mod AgentHandles
pub mod Begun
pub mod Codes
pub mod ForwardServed
pub mod GateServed
pub mod Hidden
pub mod Notified
pub mod Served
