-- What becomes of the folder of a side in a call.
use Rattle.std.specs.Prelude.{◌≡◌}
use Rattle.hs_folders.specs.Moments.{EachMomentSince}
use Rattle.palm_device.specs.Devices.{Device}
use Rattle.dlp_commands.specs.DeviceRuns.{DeviceRun, exchanged}
use Rattle.handheld_files.specs.Openings.{Stands}
use Rattle.line_world.specs.Folders.{FilesRan, OthersStay, StoodAfterSome}
use Rattle.device_stream.specs.Hands.{Hand}
use Rattle.desk_journal.specs.Overlays.{FinishesAs}
use Rattle.call_parts.specs.Told.{FolderTold}

-- a folder was only read
pub record StaysAsItWas (before after : FolderTold) : Type 0 where
  pub contents : after.contents ≡ before.contents
  pub moments : after.moments ≡ before.moments

-- the desktop's folder stands for what it stood for, at each moment, once its journal is finished;
-- one that was left may have been
pub record StandsAsItDid (before after : FolderTold) : Type 0 where
  pub stands : FinishesAs before.contents after.contents
  pub each_moment : EachMomentSince (FinishesAs before.contents) before.moments after.moments

-- Each request that a hand performed was one step of the handheld, with its reply. The folder
-- stands for the handheld after the last step, and at each moment it stood for the handheld after
-- some of them; its files went with the steps, each of which touched one file at most.
pub record WentWith (device : Device) (hand : Hand) (before after : FolderTold) : Type 0 where
  pub ran : DeviceRun device hand.performed hand.replies hand.device
  pub stands : Stands after.contents hand.device.databases hand.device.user
  pub moments : EachMomentSince
      (StoodAfterSome device (exchanged hand.performed hand.replies)) before.moments after.moments
  pub files : FilesRan before.contents device (exchanged hand.performed hand.replies)
      after.contents hand.device
  pub others : OthersStay before.contents after.contents
