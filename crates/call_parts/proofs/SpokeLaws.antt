-- What is known of every session over a world, by how it ended.
use Rattle.std.proofs.lemmas.Grind.{common_steps}
use Rattle.std.proofs.Common.{arith, ◌≡◌, ◌⊎◌, ◌∙◌, ap, inl, inr, sym, subst, ℕ, List, [], length}
use Rattle.std.specs.Prelude.{Option, None, Some, Result, Err, IfErr, IsErrOf, OnOk}
use Rattle.std.specs.Global.{Vec}
use Rattle.hs_folders.specs.Causes.{Rose}
use Rattle.hs_folders.specs.FileMaps.{FileMap}
use Rattle.hs_folders.specs.Moments.{Moments}
use Rattle.handheld_files.specs.Openings.{Stands}
use Rattle.trace_text.specs.Tallies.{IsFairUpTo}
use Rattle.trace_text.specs.TraceLines.{FrameValue}
use Rattle.trace_text.specs.declared.frame.End.{End}
use Rattle.line_script.specs.Rules.{RuleValue}
use Rattle.line_script.specs.Scripts.{fate_by}
use Rattle.line_world.specs.Causes.{BearsOut, down_end}
use Rattle.line_world.specs.Logs.{LogValue, no_log}
use Rattle.line_world.specs.Worlds.{WorldSince, WorldValue}
use Rattle.line_world.specs.declared.down.Down.{Down}
use Rattle.line_world.specs.declared.down.Down.TheVariants as down
use Rattle.desktop_session.specs.Says.{IsPrefix}
use Rattle.desktop_session.specs.declared.fault.SessionFault.TheVariants as session_fault
use Rattle.session_parts.specs.declared.report.DbReport.{DbReport}
use Rattle.session_parts.specs.declared.stop.Stop.{Stop}
use Rattle.session_parts.specs.declared.stop.Stop.TheVariants as stop
use Rattle.call_parts.specs.Causes.{ByEnd, EndsAs, IsLineDown, IsUnsaid, cause_in, numbers_by, stop_status}
use Rattle.call_parts.specs.Closings.{Closes, IsLeft, left_end, left_in}
use Rattle.call_parts.specs.LineRuns.{frames_in, log_in}
use Rattle.call_parts.specs.Reports.{IsNotStarted}
use Rattle.call_parts.specs.Sessions.{IsTalk, KeptSilent, Spoke}
use Rattle.call_parts.specs.Told.{FolderTold, SidesTold, folder_told}
use Rattle.call_parts.specs.Whole.{DealtWith}
use Rattle.call_parts.proofs.FrontLaws.{front_of}
use Rattle.call_parts.proofs.FrontMoments.{fronts_at_moments}
use Rattle.call_parts.proofs.LineLaws.{line_answered, line_ran}
use Rattle.call_parts.proofs.StopLaws.{tells_stop}
use Rattle.call_parts.proofs.WholeLaws.{SaidOf, dealt_with, some_issued}
use Rattle.call_parts.specs.declared.left.Left.{Left}
use Rattle.call_parts.specs.declared.report.Report.{Report}
use Rattle.call_parts.specs.declared.report.SessionEnd.{SessionEnd}
use Rattle.call_parts.specs.declared.report.SessionEnd.TheVariants.{Ended, Stopped}
use Rattle.cmd_status.specs.declared.status.Status.{Status}
use Rattle.cmd_status.specs.declared.status.Status.TheVariants.{HandheldFolder, DesktopFolder, NoMemory}

-- a session stopped not for a refusal, and not for a reply that can't be read
abbrev pub IsUnrefusedStop : Stop → Type 0
IsUnrefusedStop (stop.Session (session_fault.Refused function code)) = ⊥
IsUnrefusedStop (stop.Session (session_fault.BadReply function broken)) = ⊥
IsUnrefusedStop other = Unit {0}

abbrev pub IsUnrefusedEnd : Result (Vec DbReport) Stop → Type 0
IsUnrefusedEnd answer = IfErr answer IsUnrefusedStop

-- a status says how far the session came and why it stopped; the frames bear it out
pub record Shown (status : Status) (end : SessionEnd) (numbers : List ℕ) (cause : Option Down) (frames : List FrameValue) : Type 0 where
  pub ends : EndsAs status end
  pub caused : BearsOut (cause_in status numbers) frames
  pub up : down_end cause ≡ None → IsLineDown status → ⊥
  pub faulted : (numbers ≡ []) ⊎ ((end : End) × BearsOut (Some (down.LineDown end numbers)) frames)
  pub keeper : status ≡ HandheldFolder → cause ≡ Some down.Keeper

-- what the status says of a session that is left so
module _ (answer : Result (Vec DbReport) Stop) (cause : Option Down) (left : Left) where
  pub shown_left : (frames : List FrameValue) → IsUnrefusedEnd answer → IsLeft answer cause left → BearsOut cause frames
      → Shown left.status left.end left.faulted.items cause frames
  shown_left frames never is borne = grind (arith, common_steps)

  -- the handheld's folder is blamed for its own failure alone
  pub left_keeper : IsLeft answer cause left → left.status ≡ HandheldFolder → cause ≡ Some down.Keeper
  left_keeper is e = grind (arith, common_steps)

  -- nothing is said of it yet
  pub left_unsaid : IsLeft answer cause left → IsUnsaid left.status
  left_unsaid is = grind (arith, common_steps)

  -- a session that stopped is left so
  pub left_stopped : {stopped : Stop} {status : Status} → answer ≡ Err stopped → status ≡ stop_status cause stopped
      → (left.status ≡ status) ⊎ (left.status ≡ NoMemory) → left.end ≡ Stopped → left.databases.items ≡ []
      → left.faulted.items ≡ numbers_by left.status cause → IsLeft answer cause left
  left_stopped is status_is left_status end databases faulted = grind arith

  -- the desktop's folder is blamed for its own failure alone
  pub left_desk : IsLeft answer cause left → left.status ≡ DesktopFolder → IsErrOf answer stop.DeskFault
  left_desk is e = grind (arith, common_steps)

  -- a session that stopped tells nothing of databases
  pub left_none : IsLeft answer cause left → left.end ≡ Stopped → left.databases.items ≡ []
  left_none is e = grind (arith, common_steps)

-- a session that is left had begun
pub by_left : (answer : Result (Vec DbReport) Stop) {end : SessionEnd} (Not : Type 0) {Began : Type 0} → end ≡ left_end answer → Began
    → ByEnd end Not Began
by_left answer Not is began = grind (arith, common_steps)

-- a session that ended is one that answered
pub ended_ok : (answer : Result (Vec DbReport) Stop) {end : SessionEnd} {P : Type 0} → end ≡ left_end answer → OnOk answer P → end ≡ Ended → P
ended_ok answer is ok ended = grind (arith, common_steps)

-- what is known of a session over a world that was fresh, of which this is all that is asked, by what
-- its calls answered
pub spoke : {F : Type 0} {contents : F → Option FileMap} {moments : F → Moments} {paths : F → Option (List (List ℕ))} {faults : F → ℕ}
    (asked : List (List ℕ)) {old new : WorldValue F} {answer : Result (Vec DbReport) Stop} {status : Status} {report : Report}
    → Stands (contents old.server.folder) old.server.device.databases old.server.device.user → old.log ≡ no_log
    → WorldSince contents moments paths faults old new → IsUnrefusedEnd answer → Closes new answer status report → SaidOf asked old new answer status
    → Spoke (record { rules = old.script; device = old.server.device; asked = asked }) (folder_told contents moments paths faults old.server.folder)
    (folder_told contents moments paths faults new.server.folder) status report
spoke {contents} {moments} {paths} {faults} asked {old} {new} {answer} {status} {report} stands silent since never closes of =
    let tells = closes.tells in
    let shown = shown_left answer new.cause (left_in status report) new.frames never closes.left closes.borne_out in
    let before = folder_told contents moments paths faults old.server.folder in
    let line = line_ran silent stands since tells in
    let bears : BearsOut (cause_in status report.faulted.items) (frames_in report) =
    subst (λ (f : List FrameValue). BearsOut (cause_in status report.faulted.items) f) (sym tells.frames) shown.caused in
    let begins : IsPrefix (log_in report).issued asked = subst (λ (l : LogValue). IsPrefix l.issued asked) (sym tells.said) of.begins in
    let dealt : DealtWith asked status report line.answered =
    subst (λ (n : ℕ). DealtWith asked status report n) (sym (line_answered silent stands since tells))
    (dealt_with asked old new silent closes of line.ran.same shown.up shown.keeper shown.ends bears) in
    record {
      line = line;
      issued = begins;
      why = record {
        ends = shown.ends;
        caused = bears;
        stops = tells_stop status (record {
          ends = shown.ends;
          caused = bears;
          dealt = dealt;
          some = some_issued silent closes of;
          acked = line.acked;
        });
        fair = λ calm fallen. shown.up (closes.fair (subst (λ (f : List FrameValue). IsFairUpTo (length f) (fate_by new.script)) tells.frames
            (subst (λ (rules : List RuleValue). IsFairUpTo (length (frames_in report)) (fate_by rules)) (sym since.same_script) calm))) fallen;
        faulted = subst (λ (f : List FrameValue). (report.faulted.items ≡ [])
            ⊎ ((end : End) × BearsOut (Some (down.LineDown end report.faulted.items)) f)) (sym tells.frames) shown.faulted;
      };
      dealt = dealt;
      stopped = left_none answer new.cause (left_in status report) closes.left;
      front = front_of old.server.device asked line begins;
      fronts = fronts_at_moments old.server.device asked before line begins;
    }

-- the handheld's folder is blamed for its own failure alone
pub palm_blamed : {F : Type 0} {contents : F → Option FileMap} {moments : F → Moments} {paths : F → Option (List (List ℕ))} {faults : F → ℕ}
    {old new : WorldValue F} {answer : Result (Vec DbReport) Stop} {status : Status} {report : Report} → old.cause ≡ None
    → WorldSince contents moments paths faults old new → Closes new answer status report → status ≡ HandheldFolder
    → Rose (faults old.server.folder) (faults new.server.folder)
palm_blamed {new} {answer} {status} {report} calm since closes e =
    elim (since.keeper (left_keeper answer new.cause (left_in status report) closes.left e)) [ inl was ↦ absurd (none_is_some (sym calm ∙ was)) | inr rose ↦ rose ]
  where
    none_is_some : {A : Type 0} {a : A} → None ≡ Some a → ⊥
    none_is_some e = cc

-- a session that kept silent for want of memory
pub kept_silent : {Had : Status → Report → Type 0} (before after : SidesTold) {status : Status} {report : Report} → status ≡ NoMemory
    → IsNotStarted report → after.palm ≡ before.palm → after.desk ≡ before.desk → IsTalk Had before after status report
kept_silent {Had} before after {status} {report} memory is palm_same desk_same = record {
  shown = subst (λ (e : SessionEnd). ByEnd e (KeptSilent before after status report) (Had status report))
      (sym is.end) (record { memory = memory; report_is = is; handheld = palm_same; desktop = desk_same });
  blames = record { handheld = λ e. cc; desktop = λ e. cc };
  paths = record {
    handheld = ap (λ (t : FolderTold). t.paths) palm_same;
    desktop = ap (λ (t : FolderTold). t.paths) desk_same;
  };
}
