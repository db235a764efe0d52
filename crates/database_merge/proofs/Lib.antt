pub mod BlockLaws
pub mod CountLaws
pub mod LeftLaws
pub mod MeetingLaws
pub mod PlaceLaws
pub mod SeenLaws
pub mod SkipLaws
pub mod WriteLaws
