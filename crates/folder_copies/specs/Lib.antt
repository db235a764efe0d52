pub mod CopiedFolders
pub mod Copies
