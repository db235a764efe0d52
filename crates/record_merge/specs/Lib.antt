pub mod Merging
pub mod Stops
pub mod Whole
pub mod Writes
