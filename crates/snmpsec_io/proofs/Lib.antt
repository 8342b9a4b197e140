pub mod Pieces
pub mod Fills
mod Shown
