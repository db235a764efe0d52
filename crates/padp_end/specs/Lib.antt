pub mod Arrivals
pub mod Outgoings
pub mod Ends
pub mod Holding
pub mod Laws
pub mod Parts
