-- What stands on a handheld at each front of the requests of an install.
use Rattle.std.specs.Prelude.{List, Option, map}
use Rattle.std.specs.List.{AllByRecursion}
use Rattle.hs_folders.specs.FileMaps.{FileMap}
use Rattle.pdb_values.specs.Databases.{DatabaseValue}
use Rattle.palm_device.specs.Bounds.{IsBoundedDatabase}
use Rattle.palm_device.specs.Devices.{Device}
use Rattle.desktop_session.specs.Acts.{text}
use Rattle.session_parts.specs.Rests.{IsAtRest}
use Rattle.install_backup.specs.declared.mark.Mark.{Mark}
use Rattle.install_backup.specs.InstallActs.{install_acts}
use Rattle.install_backup.proofs.StayLaws.{others_stay, user_marked}
use Rattle.install_backup.proofs.TurnLaws.{fronts_stand}
use Rattle.cmd_files.specs.Besides.{StandsBeside}
use Rattle.call_parts.specs.Sessions.{StandsAtFront}

pub stands_beside : {device : Device} {databases : List DatabaseValue} (mark : Mark) → IsAtRest device → AllByRecursion IsBoundedDatabase databases
    → (told : Option FileMap) → StandsAtFront device (map text (install_acts mark device.user databases)) told → StandsBeside mark device databases told
stands_beside {device} {databases} mark rests bounded told at = record {
  reached = at.reached;
  stands = at.stands;
  user = user_marked mark device at.reached databases at.writes at.given rests.closed bounded at.front;
  others = λ name none. others_stay mark device at.reached databases at.writes at.given name rests.closed bounded at.front none;
  in_turn = λ room. fronts_stand mark device at.reached databases at.writes at.given rests bounded room at.front;
}
