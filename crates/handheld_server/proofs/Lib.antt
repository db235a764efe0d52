pub mod HandleLaws
pub mod KeepLaws
pub mod ReadLaws
pub mod RecordLaws
pub mod ServeLaws
pub mod WriteLaws
