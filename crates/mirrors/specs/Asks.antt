-- A stretch of a session: what everything that sends says of itself.
use Rattle.std.specs.Prelude.{◌≡◌, ℕ, List, map, Option, None, OnOk, Result}
use Rattle.dlp_commands.specs.declared.link.LinkFault.{LinkFault}
use Rattle.dlp_commands.specs.Talks.{Talk}
use Rattle.desktop_session.specs.declared.fault.SessionFault.{SessionFault}
use Rattle.desktop_session.specs.Acts.{Act, text}
use Rattle.desktop_session.specs.Sessions.{SessionValue}
use Rattle.desktop_session.specs.Stops.{Does, Stops}

-- A session asked for these acts, in order, and for nothing else. With Ok each was answered; with a
-- refusal a beginning of them went out. A link without a fault has none then, the user is as
-- before, and nothing was abandoned.
pub record Asks {L A : Type 0} (talk : L → Option Talk) (since : L → L → Type 0)
    (fault : L → Option LinkFault) (downs : L → ℕ) (acts : List Act)
    (old new : SessionValue L) (answer : Result A SessionFault) : Type 0 where
  pub stops : Stops talk since fault downs (map text acts) old.link new.link
  pub does : OnOk answer (Does talk acts old.link new.link)
  pub clear : OnOk answer (fault old.link ≡ None → fault new.link ≡ None)
  pub user : new.user ≡ old.user
  pub abandoned : new.abandoned ≡ old.abandoned
