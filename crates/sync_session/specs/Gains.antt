-- The ids that a database's new records got.
use Rattle.std.specs.Prelude.{◌≡◌, ℕ, List, drop, length, Option, IfSome}
use Rattle.dlp_commands.specs.Talks.{Talk}
use Rattle.conduit_rules.specs.declared.planned.Plan.{Plan}
use Rattle.mirrors.specs.News.{AreFreeFor, AreIdsOf, news_of}

-- These are the ids of a plan's adds: those that were given behind its replacements, each to a
-- record of its own, and, where a device is told, to none that had one at its turn.
pub record AreGained (talk : Option Talk) (plan : Plan) (handle : ℕ)
    (given ids : List ℕ) : Type 0 where
  pub behind : ids ≡ drop (length plan.replace.items) given
  pub own : AreIdsOf (news_of plan) given
  pub free : IfSome talk (λ talk. AreFreeFor handle (news_of plan) given talk.device)
