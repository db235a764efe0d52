pub mod Comings
pub mod Cradles
pub mod MemPorts
pub mod Ways
