pub mod Bounds
pub mod Changes
pub mod DeskFiles
pub mod Desks
pub mod Faults
pub mod Finds
pub mod Shelves
pub mod Views
