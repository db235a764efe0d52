pub mod CellLaws
pub mod EachLaws
pub mod ItemLaws
pub mod LooseLaws
pub mod MergeLaws
pub mod NumberLaws
