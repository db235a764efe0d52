-- What is known of a session, told from an earlier time on.
use Rattle.std.proofs.Common.{List, subst}
use Rattle.std.specs.Prelude.{Option}
use Rattle.hs_folders.specs.FileMaps.{FileMap}
use Rattle.hs_folders.specs.Moments.{EachMomentSince, Moments}
use Rattle.palm_device.specs.Devices.{Device}
use Rattle.line_script.specs.Rules.{RuleValue}
use Rattle.line_world.specs.Folders.{FilesRan, OthersStay, StoodAfterSome}
use Rattle.call_parts.specs.LineRuns.{LineRan, exchanges_in}
use Rattle.call_parts.specs.Stays.{StaysAsItWas}
use Rattle.call_parts.specs.Sessions.{Agenda, Spoke, StandsAtFront}
use Rattle.call_parts.specs.Told.{FolderTold}
use Rattle.call_parts.specs.declared.report.Report.{Report}
use Rattle.cmd_status.specs.declared.status.Status.{Status}

-- the line's part, told from an earlier time on
abbrev line_from : (rules : List RuleValue) (device : Device) (first before after : FolderTold) (report : Report) → StaysAsItWas first before
    → LineRan rules device before after report → LineRan rules device first after report
line_from rules device first before after report stays line = record {
  proper = line.proper;
  told = line.told;
  answered = line.answered;
  log = line.log;
  acked = line.acked;
  last = line.last;
  ran = line.ran;
  stands = line.stands;
  files = subst (λ (t : Option FileMap). FilesRan t device (exchanges_in report) after.contents line.last) stays.contents line.files;
  others = subst (λ (t : Option FileMap). OthersStay t after.contents) stays.contents line.others;
  moments = subst (λ (m : Moments). EachMomentSince (StoodAfterSome device (exchanges_in report)) m after.moments) stays.moments line.moments;
  given = line.given;
  writes = line.writes;
  to_handheld = line.to_handheld;
  to_desktop = line.to_desktop;
}

-- what was said, told from an earlier time on
pub spoke_from : {agenda : Agenda} {first before after : FolderTold} {status : Status} {report : Report} → StaysAsItWas first before
    → Spoke agenda before after status report → Spoke agenda first after status report
spoke_from {agenda} {first} {before} {after} {report = report} stays spoke = record {
  line = line_from agenda.rules agenda.device first before after report stays spoke.line;
  issued = spoke.issued;
  why = spoke.why;
  dealt = spoke.dealt;
  stopped = spoke.stopped;
  front = spoke.front;
  fronts = subst (λ (m : Moments). EachMomentSince (StandsAtFront agenda.device agenda.asked) m after.moments) stays.moments spoke.fronts;
}
