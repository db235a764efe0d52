-- What a request leaves of the folder that a server keeps.
use Rattle.std.specs.Prelude.{◌≡◌, ℕ, Bool, true, false, List, ◌==◌, ◌&&◌, Option, Result, OnErr, OnOk, IsErrOf, MatchBool}
use Rattle.std.specs.FinMap as finmap
use Rattle.std.specs.Option.{option_map}
use Rattle.std.specs.Str.{bytes_eq}
use Rattle.hs_folders.specs.FileMaps.{FileMap}
use Rattle.hs_folders.specs.Moments.{Moments, OneChange}
use Rattle.pdb_values.specs.NamedDatabases.{database_of}
use Rattle.folder_files.specs.InfoFiles.{device_text}
use Rattle.folder_files.specs.FileNames.{device_info_file}
use Rattle.handheld_files.specs.Openings.{Stands}
use Rattle.dlp_requests.specs.Forms as form
use Rattle.dlp_requests.specs.Forms.{number_of}
use Rattle.dlp_replies.specs.Frames.{reply_text}
use Rattle.dlp_replies.specs.ReplyValues as reply
use Rattle.dlp_commands.specs.DeviceSteps.{first_byte}
use Rattle.handheld_store.specs.Files.{FollowsName}
use Rattle.handheld_store.specs.Stores.{StoreValue}
use Rattle.handheld_server.specs.declared.fault.ServeFault.{ServeFault}
use Rattle.handheld_server.specs.declared.fault.ServeFault.TheVariants.{Keeper}

-- The folder stands for the databases and the user afterwards where it did before, and the store is
-- sound. After a fault the
-- databases and the user are as before, and the whole store is, or it is not sound. The folder
-- changed once at most.
pub record Keeps {F A : Type 0} (contents : F → Option FileMap) (moments : F → Moments)
    (paths : F → Option (List (List ℕ))) (faults : F → ℕ)
    (old new : StoreValue F) (answer : Result A ServeFault) : Type 0 where
  pub stands : Stands (contents old.folder) old.databases old.user
      → OnOk answer (Stands (contents new.folder) new.databases new.user)
  pub sound : OnOk answer (new.sound ≡ true)
  pub stays : OnErr answer (new.sound ≡ true → new ≡ old)
  pub held : OnErr answer (new ≡ record old { folder = new.folder; sound = new.sound })
  pub change : OneChange contents moments paths faults old.folder new.folder answer
      (IsErrOf answer Keeper)

-- the information file says the user, and neither another file nor a database changed
pub record TouchesUser {F : Type 0} (contents : F → Option FileMap)
    (old new : StoreValue F) : Type 0 where
  pub file : contents new.folder
      ≡ option_map (λ (held : FileMap). finmap.insert held device_info_file (device_text new.user))
      (contents old.folder)
  pub databases : new.databases ≡ old.databases

-- One database changed at most, and its file went with it: where it has the same value all files
-- are as before, byte for byte.
-- Neither another file nor another database changed, nor the user.
pub record TouchesOne {F : Type 0} (contents : F → Option FileMap)
    (old new : StoreValue F) : Type 0 where
  pub name : List ℕ
  pub file : FollowsName contents name old new
  pub others : (other : List ℕ) → bytes_eq name other ≡ false
      → database_of other new.databases ≡ database_of other old.databases
  pub user : new.user ≡ old.user

-- the information file where the user was written, whether that is another one or not, and else the
-- file of one database
abbrev pub Touches : {F : Type 0} → (F → Option FileMap) → Bool → StoreValue F
    → StoreValue F → Type 0
Touches contents written old new =
    MatchBool written (TouchesUser contents old new) (TouchesOne contents old new)

-- a function is WriteUserInfo, by its byte, and its reply says that it was done
abbrev pub wrote_by : ℕ → List ℕ → Bool
wrote_by number answer =
    (number == number_of form.WriteUserInfo) && bytes_eq answer (reply_text reply.WriteUserInfo)

-- the same of a request
abbrev pub wrote_user : List ℕ → List ℕ → Bool
wrote_user request answer = wrote_by (first_byte request) answer
