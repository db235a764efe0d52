pub mod Arguments
pub mod Cells
pub mod CellReading
pub mod Fields
pub mod Functions
pub mod Messages
pub mod Reading
pub mod Views
