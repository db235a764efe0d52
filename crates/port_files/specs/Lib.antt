pub mod Calls
pub mod Talks
pub mod Backups
pub mod Systems
