-- A stretch of a session under the handle of a database that is opened for it.
use Rattle.std.specs.Prelude.{◌≡◌, ℕ, List, [], ◌∷◌, ◌++◌, map, Option, None, IfErr, IfOk, OnOk, Result}
use Rattle.dlp_commands.specs.declared.link.LinkFault.{LinkFault}
use Rattle.dlp_commands.specs.Talks.{Talk}
use Rattle.desktop_session.specs.declared.fault.SessionFault.{SessionFault}
use Rattle.desktop_session.specs.Acts.{Act, text}
use Rattle.desktop_session.specs.Requests.{closing}
use Rattle.desktop_session.specs.Sessions.{SessionValue}
use Rattle.desktop_session.specs.Stops.{Does, Stops}
use Rattle.session_parts.specs.Causes.{IsLater}
use Rattle.session_parts.specs.Rests.{IsFirst}

-- no act
abbrev pub nothing : ℕ → List ℕ → List Act
nothing handle given = []

-- a database is opened or made, these acts are done under its handle, and it is closed
abbrev pub within : Act → (ℕ → List ℕ → List Act) → ℕ → List ℕ → List Act
within first acts handle given = first ∷ (acts handle given ++ closing handle ∷ [])

-- A session asked for these acts, in order, and for nothing else, where they name some handle, and
-- its new records got some ids. With Ok each was answered, and the answer says this of the handle
-- and the ids; with a refusal a beginning of them went out. The handle is the first where nothing
-- was open. The user is as before, and with Ok no open database was left.
pub record Spans {L A : Type 0} (talk : L → Option Talk) (since : L → L → Type 0)
    (fault : L → Option LinkFault) (downs : L → ℕ)
    (acts : ℕ → List ℕ → List Act) (says : ℕ → List ℕ → A → Type 0) (old new : SessionValue L)
    (answer : Result A SessionFault) : Type 0 where
  pub handle : ℕ
  pub given : List ℕ
  pub first : IsFirst (talk old.link) handle
  pub stops : Stops talk since fault downs (map text (acts handle given)) old.link new.link
  pub does : OnOk answer (Does talk (acts handle given) old.link new.link)
  pub clear : OnOk answer (fault old.link ≡ None → fault new.link ≡ None)
  pub user : new.user ≡ old.user
  pub closed : OnOk answer (new.abandoned ≡ old.abandoned)
  pub cause : IfErr answer (IsLater (talk new.link) (fault new.link))
  pub said : IfOk answer (says handle given)
