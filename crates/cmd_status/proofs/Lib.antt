pub mod PrintedLaws
pub mod PrintedNameLaws
pub mod UsageLaws
