pub mod Carrying
pub mod Faults
pub mod Meetings
pub mod Merges
pub mod Places
pub mod Seeing
