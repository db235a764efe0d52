-- What was asked over a link, and what was replied, in order.
use Rattle.std.specs.Prelude.{◌≡◌, ℕ, List, [], ◌∷◌, Option, Some, None, Result, Ok, Err}
use Rattle.dlp_commands.specs.declared.link.LinkFault.{LinkFault}
use Rattle.dlp_commands.specs.Talks.{HasAnswer, LacksAnswer, Talk}

-- a request with its reply, or one that was left without an answer, whether or not it went out
pub data Try : Type 0 where
  Answered : List ℕ → List ℕ → Try
  Unanswered : List ℕ → Try

-- what an exchange adds to them by what it answers: nothing where the link has a fault already
abbrev pub tries_of : Option LinkFault → List ℕ → List ℕ → Result (Unit {0}) LinkFault → List Try
tries_of (Some fault) request reply answer = []
tries_of None request reply (Ok done) = Answered request reply ∷ []
tries_of None request reply (Err fault) = Unanswered request ∷ []

-- what is told of a device goes on by these, each at its turn; where nothing is told, it stays so
abbrev pub GoesOn : Option Talk → List Try → Option Talk → Type 0
GoesOn old [] new = new ≡ old
GoesOn old (Answered request reply ∷ tries) new =
    (between : Option Talk) × HasAnswer old request reply between × GoesOn between tries new
GoesOn old (Unanswered request ∷ tries) new =
    (between : Option Talk) × LacksAnswer old request between × GoesOn between tries new
