pub mod AddedLaws
pub mod IdLaws
pub mod IndexLaws
pub mod KeptLaws
pub mod ListLaws
pub mod PlacedLaws
pub mod SettledLaws
pub mod WritingLaws
