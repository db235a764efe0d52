pub mod Likes
pub mod Makings
pub mod Merges
pub mod Owned
pub mod Swaps
pub mod Tables
pub mod Texts
