pub mod Bearings
pub mod CodeLines
pub mod Names
pub mod Pages
pub mod Promises
pub mod Rows
pub mod Seen
pub mod Sheet
