pub mod Fates
pub mod Lines
pub mod Rules
pub mod Scripts
pub mod Words
