pub mod Tags
pub mod Somes
pub mod Taking
pub mod Rising
pub mod Remembering
pub mod Telling
pub mod Once
pub mod Counted
