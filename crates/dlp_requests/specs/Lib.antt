pub mod Faults
pub mod Forms
pub mod Groups
pub mod RequestReading
pub mod RequestTexts
pub mod RequestValues
pub mod Views
