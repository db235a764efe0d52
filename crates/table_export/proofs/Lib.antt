pub mod ReadLaws
pub mod RowLaws
pub mod TableLaws
pub mod TextLaws
