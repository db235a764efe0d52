-- What became of a handheld's folder while its device took steps.
use Rattle.std.specs.Prelude.{◌≡◌, ℕ, ◌≤◌, true, false, List, [], ◌∷◌, ◌++◌, Option}
use Rattle.std.specs.FinMap as finmap
use Rattle.std.specs.Option.{option_map}
use Rattle.hs_folders.specs.FileMaps.{FileMap}
use Rattle.hs_folders.specs.Moments.{Moments, EachMomentSince}
use Rattle.palm_device.specs.Devices.{Device}
use Rattle.folder_files.specs.FileNames.{is_handheld_file}
use Rattle.handheld_files.specs.Openings.{Stands}
use Rattle.handheld_store.specs.Stores.{StoreValue}
use Rattle.handheld_server.specs.Keeping.{Touches, wrote_user}
use Rattle.handheld_server.specs.Servers.{ServerValue}
use Rattle.dlp_commands.specs.DeviceRuns.{Exchange, Ran}
use Rattle.dlp_commands.specs.DeviceSteps.{DeviceStep}

-- what a folder told stands for a device that the first of these exchanges lead to from this one
pub record StoodAfterSome (first : Device) (exchanges : List Exchange)
    (told : Option FileMap) : Type 0 where
  pub before : List Exchange
  pub after : List Exchange
  pub is : exchanges ≡ before ++ after
  pub device : Device
  pub ran : Ran first before device
  pub stands : Stands told device.databases device.user

-- a store of this device in a folder that told these files
abbrev pub stored : Option FileMap → Device → StoreValue (Option FileMap)
stored told device = record {
  folder = told;
  databases = device.databases;
  user = device.user;
  sound = true;
}

-- The files went with the device: each exchange was one step of it, and touched the one file that
-- goes with this step and no other.
abbrev pub FilesRan : Option FileMap → Device → List Exchange → Option FileMap → Device → Type 0
FilesRan told device [] later new = (later ≡ told) × (new ≡ device)
FilesRan told device (exchange ∷ exchanges) later new =
    (between : Device) × (mid : Option FileMap)
    × DeviceStep device exchange.request exchange.reply between
    × Touches (λ files. files) (wrote_user exchange.request exchange.reply) (stored told device)
    (stored mid between) × FilesRan mid between exchanges later new

-- files of names that a handheld doesn't read keep their bytes
abbrev pub OthersStay : Option FileMap → Option FileMap → Type 0
OthersStay told later =
    (name : List ℕ) → is_handheld_file name ≡ false
    → option_map (λ held. finmap.get held name) later
    ≡ option_map (λ held. finmap.get held name) told

-- The device took the steps of these exchanges, and the files went with them; a request that failed
-- is none of them. The folder stands for the device where it stood for the one before; at each
-- moment since it stood for the device after some of the steps.
pub record ServedSince {F : Type 0} (contents : F → Option FileMap) (moments : F → Moments)
    (paths : F → Option (List (List ℕ))) (faults : F → ℕ)
    (old new : ServerValue F) (exchanges : List Exchange) : Type 0 where
  pub ran : Ran old.device exchanges new.device
  pub files : FilesRan (contents old.folder) old.device exchanges (contents new.folder) new.device
  pub others : OthersStay (contents old.folder) (contents new.folder)
  pub stands : Stands (contents old.folder) old.device.databases old.device.user
      → Stands (contents new.folder) new.device.databases new.device.user
  pub moments_since : Stands (contents old.folder) old.device.databases old.device.user
      → EachMomentSince (StoodAfterSome old.device exchanges) (moments old.folder)
      (moments new.folder)
  pub same_paths : paths new.folder ≡ paths old.folder
  pub later : faults old.folder ≤ faults new.folder
