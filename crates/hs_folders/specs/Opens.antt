-- What opening a folder answered.
use Rattle.std.specs.Prelude.{⊤, Result, Ok, Err}
use Rattle.hs_folders.specs.declared.faults.FolderOpenFault.{FolderOpenFault}
use Rattle.hs_folders.specs.declared.faults.FolderOpenFault.TheVariants.{InUse, Failed, NoMemory}

-- The folder is to blame: it failed, or somebody else has it open.
abbrev pub IsBlamedOpen : {A : Type 0} → Result A FolderOpenFault → Type 0
IsBlamedOpen (Ok opened) = ⊥
IsBlamedOpen (Err InUse) = ⊤
IsBlamedOpen (Err Failed) = ⊤
IsBlamedOpen (Err NoMemory) = ⊥
