pub mod BoundLaws
pub mod EntryLaws
pub mod IdLaws
pub mod RecordLaws
pub mod ResourceLaws
pub mod TellingLaws
