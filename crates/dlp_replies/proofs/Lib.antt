pub mod ListLaws
pub mod EntryLaws
pub mod EntryTexts
pub mod EntryWritten
pub mod IdLaws
pub mod ReplyLaws
pub mod WriteLaws
pub mod OwnLaws
