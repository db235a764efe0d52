pub mod Entries
pub mod Overlays
pub mod Reading
pub mod Steps
