-- A run whose session ended leaves the same on both sides.
use Rattle.std.proofs.Common.{◌≡◌, sym, subst}
use Rattle.desk_store.specs.Shelves.{SlotValue}
use Rattle.session_plan.specs.Merges.{merged_device}
use Rattle.session_plan.specs.Tasks.{Meeting}
use Rattle.front_laws.specs.Meetings.{holding}
use Rattle.front_laws.specs.Equal.{HasEqualSides}
use Rattle.front_laws.proofs.EqualLaws.{holds-equal}
use Rattle.cmd_session.specs.Ends.{EndedSession}
use Rattle.cmd_session.specs.Meetings.{Meets}
use Rattle.cmd_session.specs.Runs.{SessionRan}
use Rattle.run_promises.specs.Equal.{AreEqualBehind}
use Rattle.run_promises.specs.Headline.{EndsEqual}
use Rattle.run_promises.specs.RunCalls.{IsAnsweredRun, RunCall}
use Rattle.call_parts.specs.declared.report.SessionEnd.TheVariants.{Ended}
use Rattle.run_promises.proofs.AgainCalls.{ran-of, session_in}
use Rattle.run_promises.proofs.AgainLaws.{given_in, got-of}
use Rattle.front_laws.proofs.SlotLaws.{merged-picked, picked-near}

pub equal-behind : (call : RunCall) (session : SessionRan call.run call.before call.after call.status call.report)
    → EndsEqual session.meeting call
equal-behind call session end name active shown =
    let ran = ran-of call session in
    let m = ran.meeting in
    let given = given_in ran in
    subst (λ (slot : SlotValue). HasEqualSides (holding (merged_device m given) slot name))
    (sym (merged-picked m given (picked-near m m.wishes.user ran.picked)))
    (holds-equal m given name ran.left.sound active shown (got-of ran (ran.left.ended end) name active))

pub ends-equal : (call : RunCall) → IsAnsweredRun call → call.report.end ≡ Ended
    → (meeting : Meeting) × Meets call.run call.before meeting
    × EndedSession meeting call.after.palm call.after.desk call.report × AreEqualBehind meeting call
ends-equal call is end =
    let session = session_in call end is in
    (session.meeting, session.meets, session.talked.left.ended end, equal-behind call session end)
