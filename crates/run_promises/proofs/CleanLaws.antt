-- A run by a script of no lines: each frame goes through, so nothing is said twice and the line stops nothing.
use Rattle.std.proofs.Common.{◌≡◌, ◌+◌, ℕ, Bool, true, false, List, [], ◌∷◌, length, inl, refl, subst, ap, arith}
use Rattle.std.specs.Prelude.{Option, None, Some, if◌then◌else◌}
use Rattle.std.specs.List.{AllByRecursion}
use Rattle.trace_text.specs.declared.frame.End.{End}
use Rattle.trace_text.specs.Fates.{FateValue, Untouched}
use Rattle.trace_text.specs.Faults.{RepeatsHaveFaults, faulted, is_faulty, newest}
use Rattle.trace_text.specs.Frames.{add_frame, course_of, fragment_in, is_abort, past_behind, past_of, sent_in}
use Rattle.trace_text.specs.Past.{PastFrame, is_repeat}
use Rattle.trace_text.specs.Proper.{AreNumbered}
use Rattle.trace_text.specs.TraceLines.{FrameValue}
use Rattle.line_script.specs.Lines.{lines_of}
use Rattle.line_script.specs.Rules.{RuleValue}
use Rattle.line_script.specs.Scripts.{AreRuleLines, fate_by}
use Rattle.line_steps.specs.declared.harm.Stop.{Stop}
use Rattle.line_world.specs.Causes.{BearsOut}
use Rattle.line_world.specs.Stops.{EndsBy}
use Rattle.palm_device.specs.Devices.{Device}
use Rattle.run_words.specs.Runs.{Run}
use Rattle.call_parts.specs.Causes.{IsLineDown, cause_in}
use Rattle.run_promises.specs.Clean.{AreSaidOnce, GoesThrough, HasNoLines, IsLineStop}
use Rattle.call_parts.specs.LineRuns.{frames_in}
use Rattle.cmd_session.specs.Runs.{HasRun, SessionRan, run_command}
use Rattle.call_parts.specs.SessionCalls.{SentNothing}
use Rattle.call_parts.specs.Scripts.{IsScripted}
use Rattle.call_parts.specs.Sessions.{Spoke}
use Rattle.call_parts.specs.Told.{CallTold, FolderTold}
use Rattle.call_parts.specs.declared.report.Report.{Report}
use Rattle.cmd_status.specs.declared.status.Status.{Status}
use Rattle.cmd_status.specs.declared.status.Status.TheVariants.{LineDown, Unplugged, Aborted, Undetected}
use Rattle.cmd_session.proofs.MakeLines.{no_stop}
use Rattle.run_promises.proofs.UnstoppedRuns.{refused_not_stopped}
use Rattle.call_parts.proofs.RetoldLaws.{by_end_both}
use Rattle.call_parts.proofs.UndisturbedLaws.{last_fate, always_fair}

-- ---- nothing is said twice

go_through : (number : ℕ) (frames : List FrameValue) → AreNumbered number (fate_by []) frames
    → AllByRecursion (λ (frame : FrameValue). frame.fate ≡ Untouched) frames
go_through number [] are = tt
go_through number (frame ∷ later) are = (are.1, go_through (number + 1) later are.3)

abbrev IsWell : PastFrame → Type 0
IsWell frame = faulted frame ≡ false

past_is_well : (past : List PastFrame) (frames : List FrameValue) → AllByRecursion IsWell past
    → AllByRecursion (λ (frame : FrameValue). frame.fate ≡ Untouched) frames → AllByRecursion IsWell (past_behind past frames)
past_is_well past [] well through = well
past_is_well past (frame ∷ later) well through = past_is_well (add_frame frame past) later (by (is_abort (fragment_in frame).kind)) through.1
  where
    by : (b : Bool) → AllByRecursion IsWell (if b then past else sent_in frame ∷ past)
    by true = well
    by false = (ap (λ (f : FateValue). is_faulty (course_of f)) through.0, well)

none_faulted : (past : List PastFrame) → AllByRecursion IsWell past → newest faulted past ≡ 0
none_faulted [] well = refl
none_faulted (frame ∷ past) well = grind (arith, length past, none_faulted past well.1)

said_once : (past : List PastFrame) → AllByRecursion IsWell past → RepeatsHaveFaults past → AreSaidOnce past
said_once [] well repeats = tt
said_once (frame ∷ past) well repeats = (λ X. by X (is_repeat X frame past) refl, said_once past well.1 repeats.1)
  where
    by : (X : End) (b : Bool) → is_repeat X frame past ≡ b → b ≡ false
    by X true is = (let some = (repeats.0 X is).0 in let none = none_faulted past well.1 in absurd (omega (arith, some, none)))
    by X false is = refl

-- ---- the line stops nothing

none_ends : {why : Stop} {frames : List FrameValue} → AreNumbered 1 (fate_by []) frames → EndsBy why frames → ⊥
none_ends {why} are ends =
    let found = last_fate 1 (fate_by []) ends.before ends.last (subst (AreNumbered 1 (fate_by [])) ends.is are) in
    no_stop ends.last.bytes why (inl found.1) ends.stops

stands : (status : Status) (numbers : List ℕ) (frames : List FrameValue) → ¬ IsLineDown status → BearsOut (cause_in status numbers) frames
    → AreNumbered 1 (fate_by []) frames → ¬ IsLineStop status
stands (LineDown end) numbers frames up caused are = λ is. up tt
stands (Unplugged number) numbers frames up caused are = λ is. none_ends are caused.1
stands (Aborted number) numbers frames up caused are = λ is. none_ends are caused.1
stands (Undetected number) numbers frames up caused are = λ is. none_ends are caused.1
stands _ numbers frames up caused are = λ is. is

-- ---- a script of no lines

no_rule : (rules : List RuleValue) (lines : List (List ℕ)) → AreRuleLines 0 [] lines → AreRuleLines 0 rules lines → rules ≡ []
no_rule [] lines none are = refl
no_rule (rule ∷ rules) [] none are = absurd are
no_rule (rule ∷ rules) (line ∷ later) none are = absurd none

no-rules : (path left : Option (List ℕ)) {rules : List RuleValue} → HasNoLines path left → IsScripted path left rules → rules ≡ []
no-rules None left none is = is
no-rules (Some path) None none is = absurd none
no-rules (Some path) (Some bytes) {rules} none is = no_rule rules (lines_of bytes) none.reads.1 is.reads.1

-- ---- a session over a line that does no frame harm

pub spoke_through : {device : Device} {asked : List (List ℕ)} {before after : FolderTold} {status : Status} {report : Report}
    → Spoke (record { rules = []; device = device; asked = asked }) before after status report → GoesThrough status report
spoke_through {status = status} {report} spoke =
    let numbered = spoke.line.proper.numbered in
    record {
      once = said_once (past_of (frames_in report)) (past_is_well [] (frames_in report) tt (go_through 1 (frames_in report) numbered)) spoke.line.proper.faults;
      stands = stands status report.faulted.items (frames_in report) (spoke.why.fair (always_fair (length (frames_in report)))) spoke.why.caused numbered;
    }

-- ---- a run

module _ {run : Run} {before after : CallTold} {status : Status} {report : Report} where
  session_through : HasNoLines run.script before.source.left → SessionRan run before after status report → GoesThrough status report
  session_through without ran =
      grind (
        arith,
        no-rules run.script before.source.left without ran.scripted,
        length (frames_in report),
        always_fair (length (frames_in report)),
        said_once (past_of (frames_in report)),
        past_is_well [] (frames_in report) tt,
        go_through 1 (frames_in report),
        stands,
        stands status report.faulted.items (frames_in report),
      )

  silent_through : SentNothing (run_command run) before after status report → GoesThrough status report
  silent_through sent = grind (arith, stands, refused_not_stopped run before status)

  pub goes_through_whole : HasNoLines run.script before.source.left → HasRun run before after status report → GoesThrough status report
  goes_through_whole without has =
      by_end_both report.end {A = SentNothing (run_command run) before after status report} {B = SessionRan run before after status report} {C = GoesThrough status report}
      silent_through (session_through without) has.shown
