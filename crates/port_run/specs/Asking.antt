-- What a session over a cable asked, whatever stands behind the port: what its inquiries ask, by the
-- replies so far.
use Rattle.std.specs.Prelude.{◌≡◌, List, Option, Result}
use Rattle.std.specs.Global.{Vec}
use Rattle.hs_folders.specs.FileMaps.{FileMap}
use Rattle.hs_folders.specs.declared.folder.Folder.{Ghosts as FolderMembers}
use Rattle.dlp_commands.specs.declared.link.Link.{Ghosts}
use Rattle.desk_store.specs.Shelves.{SlotValue}
use Rattle.desk_store.specs.Views.{DeskValue}
use Rattle.port_link.specs.Calls.{Heard, LinkValue, Since}
use Rattle.port_link.specs.Causes.{downs_of}
use Rattle.port_link.specs.Standing.{talk_of}
use Rattle.session_parts.specs.declared.report.DbReport.{DbReport}
use Rattle.session_parts.specs.declared.stop.Stop.{Stop}
use Rattle.session_plan.specs.declared.wishes.Wishes.{Wishes}
use Rattle.sync_session.specs.ByReplies.{AsksSession}
use Rattle.run_words.specs.Cables.{Cable}
use Rattle.call_parts.specs.Told.{FolderTold}
use Rattle.port_run.specs.Links.{fault_of_link}
use Rattle.port_run.specs.Wishes.{AsksFor}

-- what a link over a port says of itself
abbrev pub link_members : Ghosts LinkValue
link_members = record {
  downs = λ link. downs_of (fault_of_link link);
  begun = λ link. link.begun;
  fault = fault_of_link;
  talk = talk_of;
  since = Since;
  heard = Heard;
}

-- what a folder tells, as members of its trait
abbrev pub folder_members : FolderMembers FolderTold
folder_members = record {
  contents = λ folder. folder.contents;
  moments = λ folder. folder.moments;
  paths = λ folder. folder.paths;
  faults = λ folder. folder.faults;
}

-- The session for which the words ask, with a desktop of these slots whose folder tells these files:
-- what was asked over a link that was the first before it and is the last behind it, the plan, the
-- commit and the answer are by the replies.
pub record AsksCable (cable : Cable) (slots : List SlotValue) (held : Option FileMap)
    (first last : LinkValue) (after : FolderTold) (answer : Result (Vec DbReport) Stop)
    : Type 0 where
  pub wishes : Wishes
  pub asked : AsksFor cable wishes
  pub desk : DeskValue FolderTold
  pub slots_are : desk.slots ≡ slots
  pub held_is : desk.folder.contents ≡ held
  pub session : AsksSession link_members folder_members wishes first desk
      (record { link = last; folder = after; end = answer })
