pub mod BackupFolders
pub mod BackupNames
pub mod FoundFiles
