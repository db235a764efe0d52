pub mod Addresses
pub mod Categories
pub mod Characters
pub mod Choices
pub mod Days
pub mod Strings
pub mod Tasks
