-- How a session goes on once the desktop has committed: its databases are purged, and both sides
-- are told the end.
use Rattle.std.specs.Prelude.{ℕ, List, ◌++◌, map, Option, IfErr, IfOk, Result}
use Rattle.dlp_commands.specs.declared.link.LinkFault.{LinkFault}
use Rattle.dlp_commands.specs.Talks.{Talk}
use Rattle.desktop_session.specs.declared.ending.Ended.{Ended}
use Rattle.desktop_session.specs.declared.ending.Halted.{Halted}
use Rattle.desktop_session.specs.Acts.{Act, text}
use Rattle.desktop_session.specs.Ends.{link_ended}
use Rattle.desktop_session.specs.Sessions.{SessionValue}
use Rattle.desktop_session.specs.Stops.{Does, Stops}
use Rattle.session_plan.specs.declared.planned.Planned.{Planned}
use Rattle.session_parts.specs.Causes.{IsLater}
use Rattle.sync_session.specs.Phases.{purges_under}
use Rattle.session_parts.specs.Stretches.{AreFirst, EachSays, Stretch, done_each, each_acts, says_nothing}

-- Nothing was asked for but that each of these databases is purged, unless it is skipped, and then
-- these last acts, as far as the answers go. Where the session ended, each act was answered.
pub record Ends {L : Type 0} (talk : L → Option Talk) (since : L → L → Type 0)
    (fault : L → Option LinkFault) (downs : L → ℕ) (planned : List Planned)
    (last : List Act) (old : SessionValue L) (answer : Result (Ended L) (Halted L)) : Type 0 where
  pub stretches : List Stretch
  pub firsts : AreFirst purges_under (talk old.link) planned stretches
  pub stops : Stops talk since fault downs
      (map text (each_acts purges_under (talk old.link) planned stretches ++ last)) old.link
      (link_ended answer)
  pub cause : IfErr answer
      (λ halted. IsLater (talk halted.link) (fault halted.link) halted.cause)
  pub does : IfOk answer
      (λ ended. Does talk
      (each_acts purges_under (talk old.link) planned stretches ++ last) old.link ended.link)
  pub all : EachSays purges_under says_nothing (talk old.link) planned stretches
      (done_each planned tt)
