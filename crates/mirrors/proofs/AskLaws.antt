-- A stretch of a session grows by one act, and one stretch goes on where another ended.
use Rattle.std.proofs.Common.{◌≡◌, refl, ℕ, List, [], ◌∷◌, ◌++◌, map, rules}
use Rattle.std.proofs.lemmas.List.{map-append}
use Rattle.std.specs.Prelude.{Option, None, OnOk, Result, Ok, Err}
use Rattle.dlp_commands.specs.declared.link.LinkFault.{LinkFault}
use Rattle.dlp_commands.specs.Talks.{Talk}
use Rattle.desktop_session.specs.declared.fault.SessionFault.{SessionFault}
use Rattle.desktop_session.specs.Acts.{Act, text}
use Rattle.desktop_session.specs.Answers.{answer_by}
use Rattle.desktop_session.specs.Sessions.{SessionValue}
use Rattle.desktop_session.specs.Stops.{AsksOne, Does, Stops}
use Rattle.desktop_session.proofs.StopLaws.{does_none, does_then, fell_none, stops_more, stops_none, stops_then}
use Rattle.desktop_session.proofs.GreetLaws.{no_fault_said}
use Rattle.mirrors.specs.Asks.{Asks}

-- these acts were said so far
pub record SoFar {L : Type 0} (talk : L → Option Talk) (since : L → L → Type 0) (fault : L → Option LinkFault) (downs : L → ℕ) (acts : List Act)
    (old now : SessionValue L) : Type 0 where
  pub stops : Stops talk since fault downs (map text acts) old.link now.link
  pub does : Does talk acts old.link now.link
  pub clear : fault old.link ≡ None → fault now.link ≡ None
  pub user : now.user ≡ old.user
  pub abandoned : now.abandoned ≡ old.abandoned

-- what was said so far is all
pub said_all : {L A : Type 0} {talk : L → Option Talk} {since : L → L → Type 0} {fault : L → Option LinkFault} {downs : L → ℕ} {acts : List Act}
    {old new : SessionValue L} (answer : A)
    → SoFar talk since fault downs acts old new → Asks talk since fault downs acts old new (Ok answer)
said_all answer all = search (rules)

pub none_said : {L : Type 0} (talk : L → Option Talk) (since : L → L → Type 0) (fault : L → Option LinkFault) (downs : L → ℕ)
    (itself : (a : L) → since a a) (old : SessionValue L) → SoFar talk since fault downs [] old old
none_said talk since fault downs itself old = record {
  stops = stops_none talk since fault downs [] old.link old.link refl (itself old.link) (fell_none fault downs old.link);
  does = does_none;
  clear = λ none. none;
  user = refl;
  abandoned = refl;
}

-- a stretch behind another
pub asks_then : {L A : Type 0} (talk : L → Option Talk) (since : L → L → Type 0) (fault : L → Option LinkFault) (downs : L → ℕ)
    (since_more : (a b c : L) → since a b → since b c → since a c) (xs ys : List Act) (old now new : SessionValue L)
    (answer : Result A SessionFault)
    → SoFar talk since fault downs xs old now → Asks talk since fault downs ys now new answer → Asks talk since fault downs (xs ++ ys) old new answer
asks_then {L} {A} talk since fault downs since_more xs ys old now new answer before asks = record {
  stops = rw (map-append text xs ys) (stops_then talk since fault downs since_more xs (map text ys) old.link now.link new.link before.does before.stops
      asks.stops);
  does = done answer asks.does;
  clear = cleared answer asks.clear;
  user = cc;
  abandoned = cc;
}
  where
    done : (answer : Result A SessionFault) → OnOk answer (Does talk ys now.link new.link) → OnOk answer (Does talk (xs ++ ys) old.link new.link)
    done (Ok x) does = does_then talk xs ys old.link now.link new.link before.does does
    done (Err cause) does = tt

    cleared : (answer : Result A SessionFault) → OnOk answer (fault now.link ≡ None → fault new.link ≡ None)
        → OnOk answer (fault old.link ≡ None → fault new.link ≡ None)
    cleared (Ok x) clear = λ none. clear (before.clear none)
    cleared (Err cause) clear = tt

pub all_said : {L A : Type 0} (talk : L → Option Talk) (since : L → L → Type 0) (fault : L → Option LinkFault) (downs : L → ℕ)
    (acts : List Act) (old new : SessionValue L) (answer : A) → Asks talk since fault downs acts old new (Ok answer)
    → SoFar talk since fault downs acts old new
all_said talk since fault downs acts old new answer asks = search (rules)

-- one act, answered
pub one_said : {L : Type 0} (talk : L → Option Talk) (since : L → L → Type 0) (fault : L → Option LinkFault) (downs : L → ℕ)
    (one : Act) (old new : SessionValue L) → fault new.link ≡ None → AsksOne talk since fault downs one old new
    → SoFar talk since fault downs (one ∷ []) old new
one_said talk since fault downs one old new none asked = search (rules)

-- one act more
pub said_on : {L : Type 0} {talk : L → Option Talk} {since : L → L → Type 0} {fault : L → Option LinkFault} {downs : L → ℕ}
    (since_more : (a b c : L) → since a b → since b c → since a c) {acts : List Act} {one : Act} {old now new : SessionValue L}
    → fault new.link ≡ None → SoFar talk since fault downs acts old now → AsksOne talk since fault downs one now new
    → SoFar talk since fault downs (acts ++ one ∷ []) old new
said_on {talk} {since} {fault} {downs} since_more {acts} {one} {old} {now} {new} none before asked =
    all_said {A = ℕ} talk since fault downs (acts ++ one ∷ []) old new 0
    (asks_then {A = ℕ} talk since fault downs since_more acts (one ∷ []) old now new (Ok 0) before
    (said_all {A = ℕ} 0 (one_said talk since fault downs one now new none asked)))

-- no more was said
pub said_part : {L A : Type 0} {talk : L → Option Talk} {since : L → L → Type 0} {fault : L → Option LinkFault} {downs : L → ℕ} {acts : List Act}
    (more : List Act) {old new : SessionValue L} (cause : SessionFault)
    → SoFar talk since fault downs acts old new → Asks {A = A} talk since fault downs (acts ++ more) old new (Err cause)
said_part more cause before = search (rules, map-append, stops_more)

-- the same with another answer
pub asks_other : {L A B : Type 0} {talk : L → Option Talk} {since : L → L → Type 0} {fault : L → Option LinkFault} {downs : L → ℕ} {acts : List Act}
    {old new : SessionValue L} {answer : A} (other : Result B SessionFault)
    → Asks talk since fault downs acts old new (Ok answer) → Asks talk since fault downs acts old new other
asks_other other asks = search (rules)

-- one act more was asked for, and then no more
pub asked_part : {L A : Type 0} (talk : L → Option Talk) (since : L → L → Type 0) (fault : L → Option LinkFault) (downs : L → ℕ)
    (one : Act) (more : List Act) (old new : SessionValue L) (cause : SessionFault) → AsksOne talk since fault downs one old new
    → Asks {A = A} talk since fault downs (one ∷ more) old new (Err cause)
asked_part talk since fault downs one more old new cause asked = record {
  stops = stops_more talk since fault downs (text one ∷ []) (map text more) old.link new.link asked.stops;
  does = tt;
  clear = tt;
  user = asked.user;
  abandoned = asked.abandoned;
}

-- the refusal of a stretch is one of a longer stretch
pub asks_part : {L A B : Type 0} (talk : L → Option Talk) (since : L → L → Type 0) (fault : L → Option LinkFault) (downs : L → ℕ)
    (acts more : List Act) (old new : SessionValue L) (cause other : SessionFault)
    → Asks {A = A} talk since fault downs acts old new (Err cause) → Asks {A = B} talk since fault downs (acts ++ more) old new (Err other)
asks_part talk since fault downs acts more old new cause other asks = search (rules, map-append, stops_more)

-- one act, whatever its answer is
pub asked_answer : {L A : Type 0} (talk : L → Option Talk) (since : L → L → Type 0) (fault : L → Option LinkFault) (downs : L → ℕ) (one : Act)
    (old new : SessionValue L) (said answer : Result A SessionFault) → answer ≡ answer_by (fault new.link) said → AsksOne talk since fault downs one old new
    → Asks talk since fault downs (one ∷ []) old new answer
asked_answer talk since fault downs one old new said answer is asked = search (rules, said_all, one_said, no_fault_said, asked_part)

-- the same refusal of another answer
pub asks_refused : {L A B : Type 0} {talk : L → Option Talk} {since : L → L → Type 0} {fault : L → Option LinkFault} {downs : L → ℕ} {acts : List Act}
    {old new : SessionValue L} {cause : SessionFault}
    → Asks {A = A} talk since fault downs acts old new (Err cause) → Asks {A = B} talk since fault downs acts old new (Err cause)
asks_refused asks = search (rules)
