mod AddLaws
pub mod BackupLaws
pub mod FileBounds
mod NameLaws
mod ReadLaws
