-- Why a file's bytes are bad, and the status that says so.
use Rattle.std.specs.Prelude.{◌≡◌, ⊤, ℕ, List, Some, string_bytes}
use Rattle.std.specs.declared.alloc.Global.{Global}
use Rattle.pdb_files.specs.BadKinds.{bad_file}
use Rattle.pdb_files.specs.declared.bad_kind.BadKind.{BadKind}
use Rattle.pdb_files.specs.declared.fault.FileFault.{FileFault}
use Rattle.cmd_status.specs.declared.status.FileSide.{FileSide}
use Rattle.cmd_status.specs.declared.status.Status.{Status}
use Rattle.cmd_status.specs.declared.status.Status.TheVariants.{BadFile, NoMemory}

-- the status of a bad file, unless memory ran out
abbrev pub IsBadStatus : FileSide → List ℕ → BadKind → ℕ → Status → Type 0
IsBadStatus side name kind place (BadFile on file found at) =
    (on ≡ side) × (string_bytes {Z = Global} file ≡ name) × (found ≡ kind) × (at ≡ place)
IsBadStatus side name kind place NoMemory = ⊤
IsBadStatus side name kind place _ = ⊥

-- the status that stands for a refusal of the file, unless memory ran out
abbrev pub StandsFor : FileSide → List ℕ → FileFault → Status → Type 0
StandsFor side name rule (BadFile on file kind place) =
    (on ≡ side) × (string_bytes {Z = Global} file ≡ name) × (bad_file rule ≡ Some (kind, place))
StandsFor side name rule NoMemory = ⊤
StandsFor side name rule _ = ⊥
