-- Why an object is refused before a session, and which one a refusal blames.
use Rattle.std.specs.Prelude.{◌≡◌, ◌⊎◌, ⊤, ℕ, Bool, true, false, List, Option, Some, IfSome}
use Rattle.std.specs.FinMap as finmap
use Rattle.hs_folders.specs.FileMaps.{FileMap}
use Rattle.pdb_values.specs.Databases.{DatabaseValue}
use Rattle.pdb_values.specs.declared.user.UserInfo.{UserInfo}
use Rattle.folder_files.specs.FileNames.{desktop_info_file, device_info_file}
use Rattle.handheld_files.specs.Openings as handheld
use Rattle.handheld_files.specs.declared.fault.OpenFault.{OpenFault}
use Rattle.desk_journal.specs.Overlays.{finished}
use Rattle.desk_store.specs.Desks as desktop
use Rattle.desk_store.specs.declared.fault.DeskOpenFault.{DeskOpenFault}
use Rattle.trace_text.specs.declared.frame.End.TheVariants as end
use Rattle.cmd_status.specs.FolderFaults.{desktop_status, handheld_status}
use Rattle.cmd_status.specs.declared.status.FileSide.TheVariants as side
use Rattle.cmd_status.specs.declared.status.Status.{Status}
use Rattle.cmd_status.specs.declared.status.Status.TheVariants.{BadScript, TooLong, BadFile, TooMany, HandheldFolder, DesktopFolder, SourceRead, TraceWrite}
use Rattle.cmd_status.specs.declared.status.Status.TheVariants.{NoMemory, WrongSide, InUse, CannotInstall}

-- files with the information file of a desktop
abbrev pub is_desktop : FileMap → Bool
is_desktop files = finmap.contains_key files desktop_info_file

-- files with the information file of a handheld
abbrev pub is_handheld : FileMap → Bool
is_handheld files = finmap.contains_key files device_info_file

-- a refusal of the handheld's folder that no file of it shows: it failed, it is in use, or memory
-- ran out
abbrev pub IsHandheldFailure : Status → Type 0
IsHandheldFailure refusal =
    (refusal ≡ HandheldFolder) ⊎ (refusal ≡ InUse end.Handheld) ⊎ (refusal ≡ NoMemory)

-- the handheld's folder is a desktop's, whatever else is in it
pub record IsWrongHandheld (held : Option FileMap) (refusal : Status) : Type 0 where
  pub is : refusal ≡ WrongSide end.Handheld
  pub side : IfSome held (λ files. is_desktop files ≡ true)

-- the handheld's folder, which is no desktop's, shows why it was not opened
pub record HandheldShows (held : Option FileMap) (refusal : Status) : Type 0 where
  pub side : IfSome held (λ files. is_desktop files ≡ false)
  pub fault : OpenFault
  pub is : refusal ≡ handheld_status fault
  pub shown : IfSome held (handheld.ShowsOpenFault fault)

-- the handheld's folder was not opened
abbrev pub HandheldRefuses : Option FileMap → Status → Type 0
HandheldRefuses held refusal =
    IsHandheldFailure refusal ⊎ IsWrongHandheld held refusal ⊎ HandheldShows held refusal

-- the handheld's folder is no desktop's, and stands for databases and a user
pub record HasHandheld (held : Option FileMap) : Type 0 where
  pub side : IfSome held (λ files. is_desktop files ≡ false)
  pub databases : List DatabaseValue
  pub user : UserInfo
  pub holds : IfSome held (λ files. handheld.HoldsAll files databases user)

-- a refusal of the desktop's folder that no file of it shows
abbrev pub IsDesktopFailure : Status → Type 0
IsDesktopFailure refusal =
    (refusal ≡ DesktopFolder) ⊎ (refusal ≡ InUse end.Desktop) ⊎ (refusal ≡ NoMemory)

-- the desktop's folder is a handheld's, as it is found, before a journal in it is finished
pub record IsWrongDesktop (kept : Option FileMap) (refusal : Status) : Type 0 where
  pub is : refusal ≡ WrongSide end.Desktop
  pub side : IfSome kept (λ files. is_handheld files ≡ true)

-- the desktop's folder, which is no handheld's, shows, its journal finished, why it was not opened
pub record DesktopShows (kept : Option FileMap) (refusal : Status) : Type 0 where
  pub side : IfSome kept (λ files. is_handheld files ≡ false)
  pub fault : DeskOpenFault
  pub is : refusal ≡ desktop_status fault
  pub shown : IfSome kept (λ files. desktop.ShowsDeskFault (finished files) fault)

-- the desktop's folder was not opened
abbrev pub DesktopRefuses : Option FileMap → Status → Type 0
DesktopRefuses kept refusal =
    IsDesktopFailure refusal ⊎ IsWrongDesktop kept refusal ⊎ DesktopShows kept refusal

-- the desktop's folder is no handheld's and, its journal finished, stands for a desktop
pub record HasDesktop (kept : Option FileMap) : Type 0 where
  pub side : IfSome kept (λ files. is_handheld files ≡ false)
  pub readable : IfSome kept (λ files. desktop.IsReadable (finished files))

-- one of those that opening a trace gives cause for
abbrev pub IsTraceRefusal : Status → Type 0
IsTraceRefusal refusal = (refusal ≡ TraceWrite) ⊎ (refusal ≡ NoMemory)

-- the words name a trace, and it was not opened
pub record TraceRefuses (path : Option (List ℕ)) (refusal : Status) : Type 0 where
  pub name : List ℕ
  pub named : path ≡ Some name
  pub is : IsTraceRefusal refusal

-- one that blames the source, the script of a run or the file of a look or of an install, which is
-- judged before a folder is touched
abbrev pub BlamesSource : Status → Type 0
BlamesSource TooLong = ⊤
BlamesSource (BadScript _) = ⊤
BlamesSource SourceRead = ⊤
BlamesSource (BadFile side.Source _ _ _) = ⊤
BlamesSource (CannotInstall _) = ⊤
BlamesSource _ = ⊥

-- one that blames the handheld, whose folder is opened and judged before the desktop's is touched
abbrev pub BlamesHandheld : Status → Type 0
BlamesHandheld (BadFile side.Handheld _ _ _) = ⊤
BlamesHandheld (TooMany end.Handheld) = ⊤
BlamesHandheld HandheldFolder = ⊤
BlamesHandheld (InUse end.Handheld) = ⊤
BlamesHandheld (WrongSide end.Handheld) = ⊤
BlamesHandheld _ = ⊥

-- one that refuses the desktop's folder before any of its files is read
abbrev pub LeavesDesktopUnread : Status → Type 0
LeavesDesktopUnread (InUse end.Desktop) = ⊤
LeavesDesktopUnread (WrongSide end.Desktop) = ⊤
LeavesDesktopUnread _ = ⊥
