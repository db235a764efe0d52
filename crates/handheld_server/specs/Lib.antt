pub mod Acts
pub mod Faults
pub mod Keeping
pub mod Next
pub mod SaidThings
pub mod Servers
pub mod Writing
