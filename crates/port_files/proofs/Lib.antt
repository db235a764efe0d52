pub mod CallLaws
pub mod KeepLaws
pub mod LeftLaws
pub mod TalkLaws
pub mod UnreadLaws
