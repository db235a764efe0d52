-- What the answer of a session between both sides says of its requests.
use Rattle.std.proofs.Common.{◌≡◌, ◌⊎◌, ◌<◌, ◌≤◌, arith, inl, inr, length, subst, ℕ, List, [], ◌∷◌}
use Rattle.std.specs.Prelude.{IfErr, IfOk, OnOk, Option, Some, Result, Ok, Err, map}
use Rattle.std.specs.Global.{Vec}
use Rattle.std.specs.List.{flat_map}
use Rattle.std.proofs.lemmas.List.{length-append, length-map}
use Rattle.dlp_commands.specs.declared.link.LinkFault.{LinkFault}
use Rattle.line_world.specs.Worlds.{WorldValue, world_talk}
use Rattle.line_world.specs.declared.down.Down.{Down}
use Rattle.desktop_session.specs.Acts.{text}
use Rattle.desktop_session.specs.Requests.{ending}
use Rattle.desktop_session.specs.Says.{IsPrefix}
use Rattle.desktop_session.specs.declared.fault.SessionFault.TheVariants as session_fault
use Rattle.session_parts.specs.declared.report.DbReport.{DbReport}
use Rattle.session_parts.specs.declared.stop.Stop.{Stop}
use Rattle.session_parts.specs.declared.stop.Stop.TheVariants as stop
use Rattle.session_plan.specs.Skips.{active}
use Rattle.session_plan.specs.Tasks.{Meeting}
use Rattle.sync_session.proofs.IdsLaws.{text-session}
use Rattle.sync_session.specs.News.{purge_acts}
use Rattle.sync_session.specs.Outcomes.{IsEnded, IsStopOf, Tellings}
use Rattle.sync_session.specs.Sessions.{after_commit, before_commit, before_writes, end_mark, requests, session}
use Rattle.call_parts.specs.Causes.{stop_status}
use Rattle.call_parts.specs.Closings.{left_status}
use Rattle.call_parts.specs.Whole.{StopsAnswered}
use Rattle.front_laws.proofs.RequestLaws.{before-longer, parts-are}
use Rattle.call_parts.proofs.WholeLaws.{SaidOf, SaidShort, SaidWhole}
use Rattle.cmd_status.specs.declared.status.Status.{Status}
use Rattle.cmd_status.specs.declared.status.Status.TheVariants.{NoMemory}
use Rattle.call_parts.proofs.SaidLaws.{never_down}

-- ---- the session's requests

more-requests : (meeting : Meeting) → length (map text (before_writes meeting)) < length (requests meeting)
more-requests meeting =
    grind (arith, parts-are meeting [], length-append (map text (before_commit meeting [])) (map text (after_commit meeting)), before-longer meeting [])

pub two-first : (meeting : Meeting) → 2 ≤ length (map text (before_writes meeting))
unfolding before_writes
two-first meeting = omega arith

some-after : (meeting : Meeting) → 0 < length (map text (after_commit meeting))
unfolding after_commit
some-after meeting =
    grind (arith, length-map (after_commit meeting) text, length-append (flat_map (purge_acts meeting) (active meeting)) (end_mark meeting ∷ ending ∷ []))

before-all : (meeting : Meeting) (given : List ℕ) → length (map text (before_commit meeting given)) < length (requests meeting)
before-all meeting given =
    grind (arith, parts-are meeting given, length-append (map text (before_commit meeting given)) (map text (after_commit meeting)), some-after meeting)

-- ---- what was answered

module _ (meeting : Meeting) (cause : Option Down) where
  stop_said : {F : Type 0} (fault : WorldValue F → Option LinkFault) (old new : WorldValue F) (why : Stop)
      → IsStopOf (λ (world : WorldValue F). Some (world_talk world)) fault meeting old new why → StopsAnswered (stop_status cause why)
      → SaidShort (requests meeting) old new
  stop_said fault old new (stop.Session session_fault.Down) stops is = absurd (never_down cause is)
  stop_said fault old new (stop.Session (session_fault.OtherUser handheld desktop)) stops is =
      grind (arith, [], two-first meeting, more-requests meeting)
  stop_said fault old new (stop.Session session_fault.TooManyUsers) stops is = grind (arith, [], two-first meeting, more-requests meeting)
  stop_said fault old new (stop.Session (session_fault.Refused function code)) stops is = absurd is
  stop_said fault old new (stop.Session (session_fault.BadReply function broken)) stops is = absurd is
  stop_said fault old new (stop.Session session_fault.NoMemory) stops is = absurd is
  stop_said fault old new (stop.Limit name) stops is = grind (arith, two-first meeting, more-requests meeting)
  stop_said fault old new (stop.NewHandheld name) stops is = grind (arith, two-first meeting, more-requests meeting)
  stop_said fault old new stop.DeskFault stops is = grind (arith, before-longer meeting stops.given, before-all meeting stops.given)

  -- by what its call answered
  said_short : {F : Type 0} (fault : WorldValue F → Option LinkFault) (old new : WorldValue F) (answer : Result (Vec DbReport) Stop) {status : Status}
      → IfErr answer (IsStopOf (λ (world : WorldValue F). Some (world_talk world)) fault meeting old new)
      → (status ≡ left_status cause answer) ⊎ (status ≡ NoMemory) → StopsAnswered status → SaidShort (requests meeting) old new
  said_short fault old new answer stops (inr memory) is = absurd (subst StopsAnswered memory is)
  said_short fault old new (Ok made) stops (inl left) is = absurd (subst StopsAnswered left is)
  said_short fault old new (Err why) stops (inl left) is = stop_said fault old new why stops (subst StopsAnswered left is)

ended_whole : {F : Type 0} (meeting : Meeting) (old new : WorldValue F) (folder : Tellings) (answer : Result (Vec DbReport) Stop)
    → IfOk answer (λ made. IsEnded (λ (world : WorldValue F). Some (world_talk world)) meeting old new folder made.items)
    → OnOk answer (SaidWhole (requests meeting) old new)
ended_whole meeting old new folder (Ok made) over =
    record { acts = session meeting over.given; does = over.does; all = text-session meeting over.given }
ended_whole meeting old new folder (Err why) over = tt

-- what its call answered says so much of the session of both sides
pub meeting_said : {F : Type 0} (fault : WorldValue F → Option LinkFault) (meeting : Meeting) (old new : WorldValue F) (folder : Tellings)
    (answer : Result (Vec DbReport) Stop) (cause : Option Down) {status : Status}
    → (status ≡ left_status cause answer) ⊎ (status ≡ NoMemory) → IsPrefix new.log.issued (requests meeting)
    → IfErr answer (IsStopOf (λ (world : WorldValue F). Some (world_talk world)) fault meeting old new)
    → IfOk answer (λ made. IsEnded (λ (world : WorldValue F). Some (world_talk world)) meeting old new folder made.items)
    → SaidOf (requests meeting) old new answer status
meeting_said fault meeting old new folder answer cause is begins stops ended = record {
  some = omega (arith, more-requests meeting);
  begins = begins;
  whole = ended_whole meeting old new folder answer ended;
  short = said_short meeting cause fault old new answer stops is;
}
