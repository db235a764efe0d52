pub mod ChangeLaws
pub mod EntryLaws
pub mod FinishLaws
pub mod OverlayLaws
pub mod ReadLaws
pub mod StandLaws
pub mod StepLaws
