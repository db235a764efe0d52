pub mod Numbers
pub mod HelloText
pub mod HelloFaults
