pub mod Next
pub mod Opening
pub mod Walk
