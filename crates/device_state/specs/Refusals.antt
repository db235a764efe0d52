-- Why nothing is made of bytes.
use Rattle.std.specs.Prelude.{◌≡◌, ⊤, List, ℕ}
use Rattle.hs_folders.specs.FileMaps.{FileMap}
use Rattle.device_state.specs.Lists.{IsFileList, NamedFile, held_of, list_text}
use Rattle.device_state.specs.declared.files.ListFault.{ListFault}
use Rattle.device_state.specs.declared.files.ListFault.TheVariants as list
use Rattle.padp_link.specs.declared.parts.PartsFault.{PartsFault}
use Rattle.padp_link.specs.declared.parts.PartsFault.TheVariants as parts
use Rattle.handheld_files.specs.Openings.{ShowsOpenFault}
use Rattle.handheld_files.specs.declared.fault.OpenFault.{OpenFault}
use Rattle.handheld_files.specs.declared.fault.OpenFault.TheVariants as opening
use Rattle.device_stream.specs.declared.parts.TalkParts.{TalkParts}
use Rattle.device_state.specs.States.{SaysState, state_text}
use Rattle.device_state.specs.declared.fault.StateFault.{StateFault}
use Rattle.device_state.specs.declared.fault.StateFault.TheVariants.{Form, BadFiles, NoMemory}

-- the fault of parts that are none, and of a list that is none
abbrev pub of_parts : PartsFault → StateFault
of_parts parts.Form = Form
of_parts parts.NoMemory = NoMemory

abbrev pub of_list : ListFault → StateFault
of_list list.Form = Form
of_list list.NoMemory = NoMemory

-- the files of a folder are why a handheld doesn't open it
abbrev pub IsOfFiles : OpenFault → Type 0
IsOfFiles opening.Keeper = ⊥
IsOfFiles opening.TooMany = ⊤
IsOfFiles (opening.BadFile name kind place) = ⊤
IsOfFiles opening.NoMemory = ⊥

-- no handheld holds these files: there are too many databases, or a file is bad
pub record HoldsBadFiles (held : FileMap) : Type 0 where
  pub fault : OpenFault
  pub of_files : IsOfFiles fault
  pub shown : ShowsOpenFault fault held

-- these are the files of a list, and no handheld holds them
pub record ListsBadFiles (bytes : List ℕ) : Type 0 where
  pub files : List NamedFile
  pub are_files : IsFileList files
  pub is : bytes ≡ list_text files
  pub bad : HoldsBadFiles (held_of files)

-- why there is no handheld with the files of a list
abbrev pub RefusesList : List ℕ → StateFault → Type 0
RefusesList bytes Form = (files : List NamedFile) → IsFileList files → ¬ (bytes ≡ list_text files)
RefusesList bytes BadFiles = ListsBadFiles bytes
RefusesList bytes NoMemory = ⊤

-- bytes are a handheld's but for its files, which none holds
pub record StatesBadFiles (state : List ℕ) : Type 0 where
  pub parts : TalkParts
  pub held : List ℕ
  pub files : List NamedFile
  pub are_files : IsFileList files
  pub is : state ≡ state_text parts held files
  pub bad : HoldsBadFiles (held_of files)

-- bytes say no state
abbrev pub IsNoState : List ℕ → Type 0
IsNoState state =
    (parts : TalkParts) (held : List ℕ) (files : List NamedFile)
    → ¬ SaysState state parts held files

-- why bytes are no handheld
abbrev pub RefusesState : List ℕ → StateFault → Type 0
RefusesState state Form = IsNoState state
RefusesState state BadFiles = StatesBadFiles state
RefusesState state NoMemory = ⊤

-- why there are no files in bytes: what the files are is no reason
abbrev pub SaysNone : List ℕ → StateFault → Type 0
SaysNone state Form = IsNoState state
SaysNone state BadFiles = ⊥
SaysNone state NoMemory = ⊤
