pub mod Adding
pub mod BadFiles
pub mod Handhelds
pub mod Openings
pub mod Reading
pub mod Settled
