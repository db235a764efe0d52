-- A call that nothing disturbs is done whole, whatever its command is.
use Rattle.std.proofs.Common.{◌≡◌, ◌⊎◌, ℕ, List, [], inl, inr, refl, length}
use Rattle.line_script.specs.Scripts.{fate_by}
use Rattle.line_steps.specs.declared.harm.Stop.TheVariants as stop
use Rattle.line_world.specs.Causes.{BearsOut}
use Rattle.line_world.specs.Stops.{EndsBy}
use Rattle.cmd_status.specs.Printed.{IsPrinted}
use Rattle.cmd_status.specs.Told.{SinkTold}
use Rattle.call_parts.specs.Causes.{EndsAs, IsLineDown, cause_in}
use Rattle.call_parts.specs.LineRuns.{frames_in}
use Rattle.call_parts.specs.SessionCalls.{BlamesByCount, MayHaveSession, SentNothing, SessionCommand}
use Rattle.call_parts.specs.Sessions.{Agenda, Spoke}
use Rattle.call_parts.specs.Told.{CallTold, FolderTold}
use Rattle.call_parts.specs.Undisturbed.{EndsWell, IsKindScript, NoneFailed}
use Rattle.call_parts.proofs.UndisturbedLaws.{BlamesNone, always_fair, by_end_well, never_aborted, never_unplugged}
use Rattle.call_parts.specs.declared.report.Report.{Report}
use Rattle.cmd_status.specs.declared.status.Status.{Status}
use Rattle.cmd_status.specs.declared.status.Status.TheVariants.{HandheldFolder, DesktopFolder}
use Rattle.cmd_status.specs.declared.status.Status.TheVariants.{Done, TraceWrite, OutWrite, NoMemory, LineDown, Unplugged, Aborted, Undetected}
use Rattle.cmd_status.specs.declared.status.Status.TheVariants.{OtherUser, TooManyUsers, Limit, NewHandheld}

-- ---- a session

-- it stopped for what it found: another user, one too many, a limit, or a new handheld
abbrev pub IsOwnStop : Status → Type 0
IsOwnStop (OtherUser handheld desktop) = Unit {0}
IsOwnStop TooManyUsers = Unit {0}
IsOwnStop (Limit name) = Unit {0}
IsOwnStop (NewHandheld name) = Unit {0}
IsOwnStop other = ⊥

-- what is known of it over a kind line, where no object failed
record RanWell (status : Status) (report : Report) : Type 0 where
  pub ends : EndsAs status report.end
  pub caused : BearsOut (cause_in status report.faulted.items) (frames_in report)
  pub blames : BlamesNone status
  pub up : ¬ (IsLineDown status)
  pub unplugged : EndsBy stop.Unplugged (frames_in report) → ⊥
  pub aborted : EndsBy stop.Aborted (frames_in report) → ⊥
  pub own : IsOwnStop status → ⊥

ends_well : (status : Status) {report : Report} → RanWell status report → EndsWell status report
ends_well Done ran = inl (refl, ran.ends)
ends_well NoMemory ran = inr (inl refl)
ends_well TraceWrite ran = absurd (ran.blames.trace refl)
ends_well OutWrite ran = absurd (ran.blames.out refl)
ends_well HandheldFolder ran = absurd (ran.blames.handheld refl)
ends_well DesktopFolder ran = absurd (ran.blames.desktop refl)
ends_well (LineDown end) ran = absurd (ran.up tt)
ends_well (Unplugged number) ran = absurd (ran.unplugged ran.caused.1)
ends_well (Aborted number) ran = absurd (ran.aborted ran.caused.1)
ends_well (Undetected number) ran = inr (inr (number, refl, ran.caused.1))
ends_well (OtherUser handheld desktop) ran = absurd (ran.own tt)
ends_well TooManyUsers ran = absurd (ran.own tt)
ends_well (Limit name) ran = absurd (ran.own tt)
ends_well (NewHandheld name) ran = absurd (ran.own tt)
ends_well _ ran = absurd ran.ends

-- a session over a kind line that stopped for nothing of its own is done whole
pub session_well : {agenda : Agenda} {before after : FolderTold} {status : Status} {report : Report} → Spoke agenda before after status report
    → IsKindScript agenda.rules (length (frames_in report)) → BlamesNone status → (IsOwnStop status → ⊥) → EndsWell status report
session_well {agenda} {status = status} {report} spoke kind blames own = ends_well status {report = report} (record {
  ends = spoke.why.ends;
  caused = spoke.why.caused;
  blames = blames;
  up = spoke.why.fair kind.fair;
  unplugged = never_unplugged (fate_by agenda.rules) (frames_in report) spoke.line.proper.numbered kind.goes_on;
  aborted = never_aborted (fate_by agenda.rules) (frames_in report) spoke.line.proper.numbered kind.goes_on;
  own = own;
})

-- a line that loses nothing is kind
pub kind_line : (frames : ℕ) → IsKindScript [] frames
kind_line frames = record { fair = always_fair frames; goes_on = λ number. refl }

-- ---- a call

-- where no object failed none is blamed
pub none_blamed : {before after : CallTold} {out out_after : SinkTold} {status : Status} {IsText : List ℕ → Type 0} → BlamesByCount before after status
    → IsPrinted IsText out out_after status → NoneFailed before after out out_after → BlamesNone status
none_blamed blames printed failed = record {
  source = λ e. failed.reading (blames.source e);
  handheld = λ e. failed.handheld (blames.folders.handheld e);
  desktop = λ e. failed.desktop (blames.folders.desktop e);
  handheld_in_use = λ e. failed.handheld (blames.handheld_in_use e);
  desktop_in_use = λ e. failed.desktop (blames.desktop_in_use e);
  trace = λ e. failed.tracing (blames.trace e);
  out = λ e. failed.printing (printed.failed e);
}

sent_well : {status : Status} (report : Report) {Judged : Type 0} → (Judged → status ≡ NoMemory) → (status ≡ NoMemory) ⊎ Judged → EndsWell status report
sent_well report judged (inl memory) = inr (inl memory)
sent_well report judged (inr refused) = inr (inl (judged refused))

-- it is done whole, where nothing that is judged refuses it but for want of memory, and its session is
pub call_well : (command : SessionCommand) (before after : CallTold) {out out_after : SinkTold} {status : Status} {report : Report}
    {IsText : List ℕ → Type 0} → MayHaveSession command before after status report → IsPrinted IsText out out_after status
    → NoneFailed before after out out_after → (BlamesNone status → command.Judged before status → status ≡ NoMemory)
    → (BlamesNone status → command.Had before after status report → EndsWell status report) → EndsWell status report
call_well command before after {status = status} {report} has printed failed judged session =
    let blames : BlamesNone status = none_blamed has.blames printed failed in
    by_end_well report.end (SentNothing command before after status report) (command.Had before after status report) (EndsWell status report)
    (λ sent. sent_well report (judged blames) sent.judged) (session blames) has.shown
