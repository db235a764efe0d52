-- A call with a session that nothing disturbs: what it is given, and how it ends.
use Rattle.std.specs.Prelude.{◌≡◌, ◌⊎◌, ◌≤◌, ℕ, false, List, Option, Some, IsSome}
use Rattle.hs_folders.specs.Causes.{Rose}
use Rattle.hs_folders.specs.FileMaps.{FileMap}
use Rattle.pdb_files.specs.declared.bad_kind.BadKind.{BadKind}
use Rattle.palm_device.specs.Devices.{most_databases}
use Rattle.handheld_files.specs.Openings.{IsFirstBad, database_count}
use Rattle.trace_text.specs.Fates.{is_stop}
use Rattle.trace_text.specs.Tallies.{IsFairUpTo}
use Rattle.line_script.specs.Rules.{RuleValue}
use Rattle.line_script.specs.Scripts.{fate_by}
use Rattle.line_world.specs.Stops.{EndsBy}
use Rattle.desk_journal.specs.Overlays.{finished}
use Rattle.desk_store.specs.Desks.{IsReadable}
use Rattle.call_parts.specs.LineRuns.{frames_in}
use Rattle.call_parts.specs.Refusals.{is_desktop, is_handheld}
use Rattle.call_parts.specs.Scripts.{IsScripted}
use Rattle.cmd_status.specs.Told.{SinkTold}
use Rattle.call_parts.specs.Told.{CallTold}
use Rattle.call_parts.specs.declared.report.Report.{Report}
use Rattle.call_parts.specs.declared.report.SessionEnd.TheVariants.{Ended}
use Rattle.cmd_status.specs.declared.status.Status.{Status}
use Rattle.cmd_status.specs.declared.status.Status.TheVariants.{Done, NoMemory, Undetected}
use Rattle.std.specs.FinMap as finmap
use Rattle.line_steps.specs.declared.harm.Stop.TheVariants as stop

-- the source tells its bytes where the words name it, and they are a script
pub record IsGoodScript (path left : Option (List ℕ)) : Type 0 where
  pub told : IsSome path → IsSome left
  pub rules : List RuleValue
  pub scripted : IsScripted path left rules

-- the handheld's folder tells its files: none is a desktop's information file, there are not too
-- many of databases, and none is bad
pub record IsGoodHandheld (told : Option FileMap) : Type 0 where
  pub held : FileMap
  pub is : told ≡ Some held
  pub side : is_desktop held ≡ false
  pub few : database_count held ≤ most_databases
  pub good : (name : List ℕ) (kind : BadKind) (place : ℕ)
      → ¬ (IsFirstBad (finmap.keys held) held name kind place)

-- the desktop's folder does: none is a handheld's information file, and all are good once a journal
-- that was left is finished
pub record IsGoodDesktop (told : Option FileMap) : Type 0 where
  pub held : FileMap
  pub is : told ≡ Some held
  pub side : is_handheld held ≡ false
  pub readable : IsReadable (finished held)

-- no count of faults rose in the call
pub record NoneFailed (before after : CallTold) (out out_after : SinkTold) : Type 0 where
  pub reading : ¬ (Rose before.source.faults after.source.faults)
  pub handheld : ¬ (Rose before.palm.faults after.palm.faults)
  pub desktop : ¬ (Rose before.desk.faults after.desk.faults)
  pub tracing : ¬ (Rose before.trace.faults after.trace.faults)
  pub printing : ¬ (Rose out.faults out_after.faults)

-- a script under which the line is fair up to the last of so many frames, and is neither unplugged
-- nor aborted
pub record IsKindScript (rules : List RuleValue) (frames : ℕ) : Type 0 where
  pub fair : IsFairUpTo frames (fate_by rules)
  pub goes_on : (number : ℕ) → is_stop (fate_by rules number) ≡ false

-- both folders tell good files
pub record AreGood (told : CallTold) : Type 0 where
  pub handheld : IsGoodHandheld told.palm.contents
  pub desktop : IsGoodDesktop told.desk.contents

-- It was done whole; or memory ran out; or what the line made of the last frame holds a packet.
abbrev pub EndsWell : Status → Report → Type 0
EndsWell status report =
    ((status ≡ Done) × (report.end ≡ Ended))
    ⊎ (status ≡ NoMemory)
    ⊎ ((number : ℕ) × (status ≡ Undetected number) × EndsBy stop.Undetected (frames_in report))
