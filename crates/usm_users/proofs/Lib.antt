pub mod Indexing
pub mod Loaded
pub mod Named
pub mod Caching
