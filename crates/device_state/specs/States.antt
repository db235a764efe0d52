-- A handheld between two calls, as bytes.
use Rattle.std.specs.Prelude.{◌≡◌, true, List, ℕ, ◌++◌, codes, length, Option, Some}
use Rattle.std.specs.FinMap as finmap
use Rattle.hs_folders.specs.FileMaps.{FileMap}
use Rattle.device_state.specs.Lists.{IsFileList, NamedFile, held_of, list_text}
use Rattle.device_state.specs.Strings.{string_text}
use Rattle.device_state.specs.Opened.{AreNamed}
use Rattle.device_state.specs.Texts.{talk_text}
use Rattle.pdb_values.specs.Databases.{DatabaseValue}
use Rattle.pdb_values.specs.declared.user.UserInfo.{UserInfo}
use Rattle.handheld_files.specs.Handhelds.{StandFor}
use Rattle.handheld_files.specs.Openings.{Stands}
use Rattle.device_stream.specs.Alikeness.{Alike}
use Rattle.device_stream.specs.Hands.{Hand}
use Rattle.device_stream.specs.Parts.{are_talk_parts, hand_of}
use Rattle.device_stream.specs.Talks.{TalkValue}
use Rattle.device_stream.specs.declared.parts.TalkParts.{TalkParts}

-- what such bytes begin with
abbrev pub mark : List ℕ
mark = codes "HSD1"

-- the mark, what the talk holds beside its folder, the bytes that are no whole packet yet, and the
-- files of the folder
abbrev pub state_text : TalkParts → List ℕ → List NamedFile → List ℕ
state_text parts held files =
    mark ++ (talk_text parts ++ (string_text held ++ list_text files))

-- Bytes say these parts of a talk, these bytes held, and these files. What is open under the eight
-- handles has names of databases, as all handles have.
pub record SaysState (state : List ℕ) (parts : TalkParts) (held : List ℕ)
    (files : List NamedFile) : Type 0 where
  pub are_parts : are_talk_parts parts ≡ true
  pub eight : length parts.handles ≡ 8
  pub named : AreNamed parts.handles
  pub are_files : IsFileList files
  pub is : state ≡ state_text parts held files

-- Bytes are a handheld that is this hand between two packets, and holds these bytes of the next
-- one: the files stand for the hand's databases and user, and a talk of the parts is alike it.
pub record IsState (state : List ℕ) (hand : Hand) (held : List ℕ) : Type 0 where
  pub parts : TalkParts
  pub files : List NamedFile
  pub says : SaysState state parts held files
  pub stands : StandFor (finmap.get (held_of files)) hand.device.databases hand.device.user
  pub alike : Alike hand (hand_of hand.device parts)

-- the folder of a talk stands for its hand's databases and user
abbrev pub StandsByHand : {F : Type 0} → (F → Option FileMap) → TalkValue F → Type 0
StandsByHand contents talk =
    Stands (contents talk.folder) talk.hand.device.databases talk.hand.device.user

-- a folder that tells these files has those of a list, and they stand for these databases and user
pub record IsOpenedList (bytes : List ℕ) (told : Option FileMap) (databases : List DatabaseValue)
    (user : UserInfo) : Type 0 where
  pub files : List NamedFile
  pub are_files : IsFileList files
  pub is : bytes ≡ list_text files
  pub told_is : told ≡ Some (held_of files)
  pub stands : StandFor (finmap.get (held_of files)) databases user
