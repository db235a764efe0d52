-- What a call makes of a handheld.
use Rattle.std.specs.Prelude.{◌≡◌, ℕ, Bool, false, List, [], ◌∷◌, ◌++◌, Option}
use Rattle.std.specs.FinMap as finmap
use Rattle.device_state.specs.Lists.{IsFileList, NamedFile, held_of, list_text}
use Rattle.handheld_files.specs.Handhelds.{StandFor}
use Rattle.padp_end.specs.Outgoings.{said_text}
use Rattle.palm_device.specs.Devices.{Device}
use Rattle.palm_device.specs.Handles.{no_handles}
use Rattle.device_stream.specs.Hands.{Hand, wake_said, woken}
use Rattle.device_stream.specs.declared.talk_end.TalkEnd.{TalkEnd}
use Rattle.device_stream.specs.declared.parts.TalkParts.{TalkParts}
use Rattle.device_state.specs.Hearing.{HearsBytes, HearsSilence}
use Rattle.device_state.specs.States.{IsState, SaysState}

-- A handheld begins that has the files of a list: its talk is woken over what these stand for, with
-- nothing open, and says its wake.
pub record Begins (list state said : List ℕ) : Type 0 where
  pub files : List NamedFile
  pub are_files : IsFileList files
  pub list_is : list ≡ list_text files
  pub device : Device
  pub stands : StandFor (finmap.get (held_of files)) device.databases device.user
  pub closed : device.handles ≡ no_handles
  pub is : IsState state (woken device) []
  pub said_is : said ≡ said_text wake_said

-- what a hand that holds bytes makes of further ones; none are a tick of silence
abbrev pub HearsAny : Hand → List ℕ → List ℕ → List ℕ → Hand → List ℕ → Bool → Type 0
HearsAny old held [] said new left spent = HearsSilence old said new spent × (left ≡ held)
HearsAny old held (byte ∷ bytes) said new left spent =
    HearsBytes old (held ++ byte ∷ bytes) said new left × (spent ≡ false)

-- A handheld goes on: the bytes are one, it hears what comes, and the next bytes are what it is
-- then. It says whether its talk is over, and whether the piece that waits had its ten tries.
pub record GoesOn (state bytes next said : List ℕ) (over : Option TalkEnd)
    (spent : Bool) : Type 0 where
  pub old : Hand
  pub held : List ℕ
  pub was : IsState state old held
  pub new : Hand
  pub left : List ℕ
  pub hears : HearsAny old held bytes said new left spent
  pub is : IsState next new left
  pub over_is : over ≡ new.over

-- the list of the files that bytes say
pub record HasFiles (state bytes : List ℕ) : Type 0 where
  pub parts : TalkParts
  pub held : List ℕ
  pub files : List NamedFile
  pub says : SaysState state parts held files
  pub list_is : bytes ≡ list_text files
