pub mod Instrumentation
pub mod Code
pub mod Next
pub mod Bulk
pub mod Distinct
