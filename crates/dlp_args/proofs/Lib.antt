pub mod ArgumentLaws
pub mod CellLaws
pub mod FrontLaws
pub mod FunctionLaws
pub mod NumberLaws
