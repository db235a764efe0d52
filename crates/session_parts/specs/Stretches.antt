-- Several stretches of a session, one after another: one for each of a list, each under the handle
-- of its own database.
use Rattle.std.specs.Prelude.{◌≡◌, ℕ, List, [], ◌∷◌, ◌++◌, map, Option, None, IfErr, IfOk, OnOk, Result}
use Rattle.dlp_commands.specs.declared.link.LinkFault.{LinkFault}
use Rattle.dlp_commands.specs.Talks.{Talk}
use Rattle.desktop_session.specs.declared.fault.SessionFault.{SessionFault}
use Rattle.desktop_session.specs.Acts.{Act, text}
use Rattle.desktop_session.specs.Says.{saying}
use Rattle.desktop_session.specs.Sessions.{SessionValue}
use Rattle.desktop_session.specs.Stops.{Does, Stops}
use Rattle.session_parts.specs.Causes.{IsLater}
use Rattle.session_parts.specs.Rests.{IsFirst}

-- the handle of a stretch, and the ids that its new records got
pub record Stretch : Type 0 where
  pub handle : ℕ
  pub given : List ℕ

-- the acts of all, each by what was told before it
abbrev pub each_acts : {J : Type 0} → (Option Talk → J → ℕ → List ℕ → List Act) → Option Talk
    → List J → List Stretch → List Act
each_acts acts told [] stretches = []
each_acts acts told (job ∷ jobs) [] = []
each_acts acts told (job ∷ jobs) (one ∷ more) =
    acts told job one.handle one.given
    ++ each_acts acts (saying (acts told job one.handle one.given) told) jobs more

-- each has an answer, which says this of its handle and its ids
abbrev pub EachSays : {J A : Type 0} → (Option Talk → J → ℕ → List ℕ → List Act)
    → (Option Talk → J → ℕ → List ℕ → A → Type 0)
    → Option Talk → List J → List Stretch → List A → Type 0
EachSays acts says told [] [] [] = Unit {0}
EachSays acts says told (job ∷ jobs) (one ∷ more) (x ∷ xs) =
    says told job one.handle one.given x
    × EachSays acts says (saying (acts told job one.handle one.given) told) jobs more xs
EachSays acts says told jobs stretches xs = ⊥

-- each handle is the first where nothing was open
abbrev pub AreFirst : {J : Type 0} → (Option Talk → J → ℕ → List ℕ → List Act) → Option Talk
    → List J → List Stretch → Type 0
AreFirst acts told [] stretches = Unit {0}
AreFirst acts told (job ∷ jobs) [] = Unit {0}
AreFirst acts told (job ∷ jobs) (one ∷ more) =
    IsFirst told one.handle
    × AreFirst acts (saying (acts told job one.handle one.given) told) jobs more

-- A session asked for these stretches, in order, and for nothing else. With Ok each was answered,
-- and each answer says this; with a refusal a beginning of them went out. The user is as before,
-- and with Ok no open database was left.
pub record SpansEach {L J A B : Type 0} (talk : L → Option Talk) (since : L → L → Type 0)
    (fault : L → Option LinkFault) (downs : L → ℕ)
    (acts : Option Talk → J → ℕ → List ℕ → List Act)
    (says : Option Talk → J → ℕ → List ℕ → A → Type 0) (jobs : List J) (each : B → List A)
    (old new : SessionValue L) (answer : Result B SessionFault) : Type 0 where
  pub stretches : List Stretch
  pub firsts : AreFirst acts (talk old.link) jobs stretches
  pub stops : Stops talk since fault downs
      (map text (each_acts acts (talk old.link) jobs stretches)) old.link new.link
  pub does : OnOk answer
      (Does talk (each_acts acts (talk old.link) jobs stretches) old.link new.link)
  pub clear : OnOk answer (fault old.link ≡ None → fault new.link ≡ None)
  pub user : new.user ≡ old.user
  pub closed : OnOk answer (new.abandoned ≡ old.abandoned)
  pub cause : IfErr answer (IsLater (talk new.link) (fault new.link))
  pub said : IfOk answer (λ made. EachSays acts says (talk old.link) jobs stretches (each made))

-- nothing is answered but that each was done
abbrev pub done_each : {J : Type 0} → List J → Unit {0} → List (Unit {0})
done_each [] done = []
done_each (job ∷ jobs) done = tt ∷ done_each jobs done

abbrev pub says_nothing : {J : Type 0} → Option Talk → J → ℕ → List ℕ → Unit {0} → Type 0
says_nothing told job handle given done = Unit {0}

-- The same behind an act that is asked for first: what is told to the stretches is told behind it.
pub record SpansBehind {L J A B : Type 0} (talk : L → Option Talk) (since : L → L → Type 0)
    (fault : L → Option LinkFault) (downs : L → ℕ) (first : Act)
    (acts : Option Talk → J → ℕ → List ℕ → List Act)
    (says : Option Talk → J → ℕ → List ℕ → A → Type 0) (jobs : List J) (each : B → List A)
    (old new : SessionValue L) (answer : Result B SessionFault) : Type 0 where
  pub stretches : List Stretch
  pub firsts : AreFirst acts (saying (first ∷ []) (talk old.link)) jobs stretches
  pub stops : Stops talk since fault downs
      (map text (first
      ∷ each_acts acts (saying (first ∷ []) (talk old.link)) jobs stretches)) old.link new.link
  pub does : OnOk answer
      (Does talk (first
      ∷ each_acts acts (saying (first ∷ []) (talk old.link)) jobs stretches) old.link new.link)
  pub clear : OnOk answer (fault old.link ≡ None → fault new.link ≡ None)
  pub user : new.user ≡ old.user
  pub closed : OnOk answer (new.abandoned ≡ old.abandoned)
  pub cause : IfErr answer (IsLater (talk new.link) (fault new.link))
  pub said : IfOk answer
      (λ made. EachSays acts says (saying (first ∷ []) (talk old.link)) jobs stretches (each made))
