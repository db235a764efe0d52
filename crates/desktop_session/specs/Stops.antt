-- Where a call of a session stopped, and what it did.
use Rattle.std.specs.Prelude.{◌≡◌, ◌≤◌, ℕ, List, [], ◌∷◌, map, Option, None, Some, IfSome, IsSome}
use Rattle.dlp_requests.specs.RequestTexts.{IsRequest}
use Rattle.dlp_commands.specs.declared.link.LinkFault.{LinkFault}
use Rattle.dlp_commands.specs.declared.link.LinkFault.TheVariants.{Down}
use Rattle.dlp_commands.specs.Links.{WentDown}
use Rattle.dlp_commands.specs.Talks.{Talk}
use Rattle.desktop_session.specs.Acts.{Act, acted, text}
use Rattle.desktop_session.specs.Says.{Begins, answered, grown, saying, sent}
use Rattle.desktop_session.specs.Sessions.{SessionValue}

-- Of a link: what went out begins what should have gone out, no fewer requests were answered, and a
-- device that was told is told still; the link's own relation holds; and it is down only where its
-- count rose or it was down before.
pub record Stops {L : Type 0} (talk : L → Option Talk) (since : L → L → Type 0)
    (fault : L → Option LinkFault) (downs : L → ℕ)
    (requests : List (List ℕ)) (old new : L) : Type 0 where
  pub only : Begins (sent (talk new)) (grown (sent (talk old)) requests)
  pub kept : answered (talk old) ≤ answered (talk new)
  pub tells : IsSome (talk old) → IsSome (talk new)
  pub later : since old new
  pub fell : WentDown (fault old) (downs old) (downs new) (fault new ≡ Some Down)

-- these acts went out, in order, each was answered, and nothing else went out
pub record Does {L : Type 0} (talk : L → Option Talk) (acts : List Act) (old new : L) : Type 0 where
  pub said : talk new ≡ saying acts (talk old)
  pub sent : sent (talk new) ≡ grown (sent (talk old)) (map text acts)

-- A session asked for one act, by a request that fits: nothing else went out; where the link has no
-- fault the act was done, and the last reply is the device's to it; the user is as before, and
-- nothing was abandoned.
pub record AsksOne {L : Type 0} (talk : L → Option Talk) (since : L → L → Type 0)
    (fault : L → Option LinkFault) (downs : L → ℕ) (one : Act)
    (old new : SessionValue L) : Type 0 where
  pub fits : IsRequest one.asks
  pub stops : Stops talk since fault downs (text one ∷ []) old.link new.link
  pub does : fault new.link ≡ None → Does talk (one ∷ []) old.link new.link
  pub told : fault new.link ≡ None
      → IfSome (talk old.link) (λ talk. new.reply ≡ (acted one talk.device).0)
  pub user : new.user ≡ old.user
  pub abandoned : new.abandoned ≡ old.abandoned
