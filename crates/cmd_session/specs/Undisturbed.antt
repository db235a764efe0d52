-- A run that nothing disturbs: it is done whole, unless memory runs out or the line makes a packet
-- of what it damages.
use Rattle.std.specs.Prelude.{◌≡◌, ◌≢◌, List, length, None}
use Rattle.pdb_values.specs.declared.slot.Slot.TheVariants.{Full, Refused}
use Rattle.line_script.specs.Rules.{RuleValue}
use Rattle.run_words.specs.Runs.{Run}
use Rattle.session_plan.specs.Limits.{first_over}
use Rattle.session_plan.specs.Losses.{first_loss}
use Rattle.sync_session.specs.Outcomes.{slot_in}
use Rattle.session_plan.specs.Tasks.{Meeting}
use Rattle.call_parts.specs.LineRuns.{frames_in}
use Rattle.cmd_session.specs.Meetings.{Meets}
use Rattle.call_parts.specs.Scripts.{IsScripted}
use Rattle.cmd_status.specs.Told.{SinkTold}
use Rattle.call_parts.specs.Told.{CallTold}
use Rattle.call_parts.specs.declared.report.Report.{Report}
use Rattle.call_parts.specs.Undisturbed.{IsGoodScript, NoneFailed, IsKindScript, AreGood}

-- ---- what has to be given

-- the desktop has a slot for the handheld's user, or may add one, no limit would be passed, and the
-- session would cost it no live row
pub record MayMeet (meeting : Meeting) : Type 0 where
  pub known : slot_in meeting ≢ Refused
  pub room : slot_in meeting ≢ Full
  pub within : first_over meeting ≡ None
  pub keeps : first_loss meeting ≡ None

-- A good script, no object that failed, a kind line, and two sides that may meet.
pub record IsCalm (run : Run) (before after : CallTold) (out out_after : SinkTold)
    (report : Report) : Type 0 where
  pub script : IsGoodScript run.script before.source.left
  pub none_failed : NoneFailed before after out out_after
  pub line : (rules : List RuleValue) → IsScripted run.script before.source.left rules
      → IsKindScript rules (length (frames_in report))
  pub sides : (meeting : Meeting) → Meets run before meeting → MayMeet meeting

-- Good files on both sides, and nothing else that disturbs it.
pub record IsUndisturbed (run : Run) (before after : CallTold) (out out_after : SinkTold)
    (report : Report) : Type 0 where
  pub folders : AreGood before
  pub calm : IsCalm run before after out out_after report
