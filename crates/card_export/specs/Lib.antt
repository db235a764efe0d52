pub mod Cards
pub mod Exports
pub mod Labels
pub mod Properties
