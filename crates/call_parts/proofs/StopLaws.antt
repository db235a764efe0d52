-- Where the last frame ends the run, the status names it.
use Rattle.std.proofs.Common.{arith, ◌≡◌, ◌<◌, ap, inl, inr, refl, ℕ, List, length}
use Rattle.std.specs.Prelude.{Some}
use Rattle.line_steps.specs.declared.harm.Stop.{Stop}
use Rattle.line_world.proofs.StopLaws.{goes-on, stops-so}
use Rattle.line_world.specs.Causes.{BearsOut}
use Rattle.line_world.specs.Stops.{EndsBy, stop_cause}
use Rattle.line_world.specs.Worlds.{EndsAcknowledged}
use Rattle.line_world.specs.declared.down.Down.TheVariants as down
use Rattle.call_parts.proofs.WholeLaws.{goes_on}
use Rattle.call_parts.specs.Causes.{EndsAs, cause_in, down_status}
use Rattle.call_parts.specs.LineRuns.{frames_in, log_in}
use Rattle.call_parts.specs.Stops.{TellsStop}
use Rattle.call_parts.specs.Whole.{DealtWith, StopsAnswered}
use Rattle.call_parts.specs.declared.report.Report.{Report}
use Rattle.call_parts.specs.declared.report.SessionEnd.TheVariants.{Ended}
use Rattle.cmd_status.specs.declared.status.Status.{Status}
use Rattle.cmd_status.specs.declared.status.Status.TheVariants.{Done, Usage, BadWord, BadScript, TooLong, BadFile, TooMany, HandheldFolder, DesktopFolder, SourceRead}
use Rattle.cmd_status.specs.declared.status.Status.TheVariants.{TraceWrite, OutWrite, NoMemory, LineDown, Unplugged, Aborted, Undetected, OtherUser}
use Rattle.cmd_status.specs.declared.status.Status.TheVariants.{TooManyUsers, Limit, NewHandheld, WrongSide, InUse, CannotExport, BadRecord, BadText, Overfull, BadTrace, NotProper, BadCategories, CannotInstall, NotBackupFolder, SameDatabase}
use Rattle.cmd_status.specs.declared.status.Status.TheVariants.{StreamEnded, StreamAborted, BadHello, Refused, BadReply}
use Rattle.cmd_status.specs.declared.status.Status.TheVariants.{PortFailed, NoHandheld, LineSilent, LineEndless, PeerAborted, PeerBeganAnew}

-- all that is known of a status and the frames behind it
pub record Spoken (asked : List (List ℕ)) (status : Status) (report : Report) (answered : ℕ) : Type 0 where
  pub ends : EndsAs status report.end
  pub caused : BearsOut (cause_in status report.faulted.items) (frames_in report)
  pub dealt : DealtWith asked status report answered
  pub some : StopsAnswered status → 0 < length (log_in report).issued
  pub acked : 0 < answered → length (log_in report).issued ≡ answered → EndsAcknowledged (log_in report) (frames_in report)

module _ {asked : List (List ℕ)} {report : Report} {answered : ℕ} where
  -- a session that ended went over whole
  none_ended : {status : Status} {why : Stop} → Spoken asked status report answered → report.end ≡ Ended → EndsBy why (frames_in report) → ⊥
  none_ended it ended by = goes_on by ((it.dealt.whole ended).acked.acked)

  -- one that stopped behind the answers to some requests ends with an acknowledgement
  none_answered : {status : Status} {why : Stop} → Spoken asked status report answered → StopsAnswered status → EndsBy why (frames_in report) → ⊥
  none_answered it stops by =
      let same = it.dealt.all (inr stops) in
      goes_on by ((it.acked (omega (arith, it.some stops, same)) same).acked)

  pub tells_stop : (status : Status) → Spoken asked status report answered → TellsStop status (frames_in report)
  tells_stop Done it why by = absurd (none_ended it it.ends by)
  tells_stop TraceWrite it why by = absurd (none_ended it it.ends by)
  tells_stop OutWrite it why by = absurd (none_ended it it.ends by)
  tells_stop NoMemory it why by = inr refl
  tells_stop Usage it why by = absurd it.ends
  tells_stop (BadWord command kind word) it why by = absurd it.ends
  tells_stop (BadScript line) it why by = absurd it.ends
  tells_stop TooLong it why by = absurd it.ends
  tells_stop (BadFile side name kind place) it why by = absurd it.ends
  tells_stop (TooMany side) it why by = absurd it.ends
  tells_stop (WrongSide side) it why by = absurd it.ends
  tells_stop (InUse side) it why by = absurd it.ends
  tells_stop SourceRead it why by = absurd it.ends
  tells_stop (CannotExport name form) it why by = absurd it.ends
  tells_stop (BadRecord index place) it why by = absurd it.ends
  tells_stop (BadText line flaw) it why by = absurd it.ends
  tells_stop (Overfull what) it why by = absurd it.ends
  tells_stop (BadTrace line) it why by = absurd it.ends
  tells_stop (NotProper rule) it why by = absurd it.ends
  tells_stop (BadCategories name) it why by = absurd it.ends
  tells_stop (CannotInstall name) it why by = absurd it.ends
  tells_stop NotBackupFolder it why by = absurd it.ends
  tells_stop (SameDatabase first second) it why by = absurd it.ends
  tells_stop StreamEnded it why by = absurd it.ends
  tells_stop StreamAborted it why by = absurd it.ends
  tells_stop BadHello it why by = absurd it.ends
  tells_stop PortFailed it why by = absurd it.ends
  tells_stop NoHandheld it why by = absurd it.ends
  tells_stop LineSilent it why by = absurd it.ends
  tells_stop LineEndless it why by = absurd it.ends
  tells_stop PeerAborted it why by = absurd it.ends
  tells_stop PeerBeganAnew it why by = absurd it.ends
  tells_stop (Refused function code) it why by = absurd it.ends
  tells_stop (BadReply function) it why by = absurd it.ends
  tells_stop (OtherUser handheld desktop) it why by = absurd (none_answered it tt by)
  tells_stop TooManyUsers it why by = absurd (none_answered it tt by)
  tells_stop (Limit name) it why by = absurd (none_answered it tt by)
  tells_stop (NewHandheld name) it why by = absurd (none_answered it tt by)
  tells_stop DesktopFolder it why by = absurd (none_answered it tt by)
  tells_stop (LineDown end) it why by = absurd (goes-on by it.caused.0.go)
  tells_stop HandheldFolder it why by = absurd (goes-on by it.caused)
  tells_stop (Unplugged number) it why by =
      let same : Some (down.Unplugged number) ≡ Some (stop_cause why (length (frames_in report))) = stops-so it.caused.0 it.caused.1 by refl in
      inl (ap down_status same)
  tells_stop (Aborted number) it why by =
      let same : Some (down.Aborted number) ≡ Some (stop_cause why (length (frames_in report))) = stops-so it.caused.0 it.caused.1 by refl in
      inl (ap down_status same)
  tells_stop (Undetected number) it why by =
      let same : Some (down.Undetected number) ≡ Some (stop_cause why (length (frames_in report))) = stops-so it.caused.0 it.caused.1 by refl in
      inl (ap down_status same)
