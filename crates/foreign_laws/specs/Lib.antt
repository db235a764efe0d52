pub mod Foreign
pub mod Endings
pub mod Twins
pub mod Alike
pub mod Sessions
pub mod Links
