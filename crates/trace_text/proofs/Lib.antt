pub mod BodyLaws
pub mod ListLaws
pub mod LogLaws
pub mod TraceLaws
