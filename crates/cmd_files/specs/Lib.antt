pub mod Backups
pub mod Besides
pub mod Emulations
pub mod Installs
pub mod Loads
pub mod Moves
pub mod Restores
pub mod Views
