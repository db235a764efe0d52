pub mod Counts
pub mod Entries
pub mod Escapes
pub mod Fields
pub mod Heads
pub mod Listings
