pub mod Answering
pub mod DeviceRequestRuns
pub mod DeviceRequests
pub mod Outstanding
pub mod RequestRuns
