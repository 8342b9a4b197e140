pub mod Order
pub mod Fresh
pub mod Beginnings
pub mod Arcs
pub mod Names
pub mod Views
pub mod Walks
