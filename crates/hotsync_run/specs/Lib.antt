pub mod Calls
pub mod Systems
