-- The folder for the files of a backup, which is none that is synchronised.
use Rattle.std.specs.Prelude.{◌≡◌, ◌⊎◌, Bool, ◌||◌, true, false, List, Option, IfSome, String, bytes_eq, string_bytes}
use Rattle.std.specs.FinMap as finmap
use Rattle.std.specs.List.{list_any}
use Rattle.std.specs.declared.alloc.Global.{Global}
use Rattle.hs_folders.specs.FileMaps.{FileMap}
use Rattle.folder_files.specs.FileNames.{desktop_info_file, device_info_file, journal_file}
use Rattle.cmd_status.specs.declared.status.Status.{Status}
use Rattle.cmd_status.specs.declared.status.Status.TheVariants.{NotBackupFolder}
use Rattle.call_parts.specs.Refusals.{IsDesktopFailure, is_desktop, is_handheld}

-- files of a folder that is synchronised: the information file of a side, or a desktop's journal
abbrev pub is_synced : FileMap → Bool
is_synced files = is_desktop files || (is_handheld files || finmap.contains_key files journal_file)

-- names that list such a file
abbrev pub lists_synced : List (String Global) → Bool
lists_synced names =
    list_any (λ other. bytes_eq desktop_info_file (string_bytes other)) names
    || (list_any (λ other. bytes_eq device_info_file (string_bytes other)) names
    || list_any (λ other. bytes_eq journal_file (string_bytes other)) names)

-- the folder for the files is one that is synchronised
pub record IsSyncedFolder (kept : Option FileMap) (refusal : Status) : Type 0 where
  pub is : refusal ≡ NotBackupFolder
  pub synced : IfSome kept (λ files. is_synced files ≡ true)

-- the folder for the files was not taken
abbrev pub FilesRefuse : Option FileMap → Status → Type 0
FilesRefuse kept refusal = IsDesktopFailure refusal ⊎ IsSyncedFolder kept refusal

-- it tells no files of a folder that is synchronised
abbrev pub StandsApart : Option FileMap → Type 0
StandsApart kept = IfSome kept (λ files. is_synced files ≡ false)
