pub mod Cables
pub mod Moments
pub mod Palms
pub mod Talking
