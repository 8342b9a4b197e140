pub mod Device
pub mod Tracks
pub mod Dialogues
pub mod Bulk
pub mod BulkTracks
pub mod Requests
pub mod Alike
