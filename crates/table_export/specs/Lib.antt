pub mod Addresses
pub mod Exports
pub mod Tables
pub mod Tasks
