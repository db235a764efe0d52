pub mod Lines
pub mod Properties
pub mod Records
pub mod Refusals
