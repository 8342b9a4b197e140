pub mod Told
pub mod Helds
pub mod NextNames
pub mod ManyAsks
pub mod ScopedLengths
pub mod Sequences
pub mod Whole
pub mod Fits
