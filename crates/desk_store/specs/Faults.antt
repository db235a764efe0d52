-- What a fault of a desktop's folder makes of a call.
use Rattle.hs_folders.specs.declared.faults.FolderFault.{FolderFault}
use Rattle.hs_folders.specs.declared.faults.FolderFault.TheVariants as folder
use Rattle.desk_store.specs.declared.fault.CommitFault.{CommitFault}
use Rattle.desk_store.specs.declared.fault.CommitFault.TheVariants as commit
use Rattle.desk_store.specs.declared.fault.DeskOpenFault.{DeskOpenFault}
use Rattle.desk_store.specs.declared.fault.DeskOpenFault.TheVariants as opening

-- of an opening: a folder that failed, or want of memory
abbrev pub open_fault_of : FolderFault → DeskOpenFault
open_fault_of folder.Failed = opening.DeskFault
open_fault_of folder.Missing = opening.NoMemory
open_fault_of folder.NoMemory = opening.NoMemory

-- of a commit, likewise
abbrev pub commit_fault_of : FolderFault → CommitFault
commit_fault_of folder.Failed = commit.DeskFault
commit_fault_of folder.Missing = commit.NoMemory
commit_fault_of folder.NoMemory = commit.NoMemory
