-- A stretch of a session behind an act that opens and closes nothing.
use Rattle.std.proofs.Common.{◌≡◌, ◌∙◌, refl, subst, ℕ, List, [], ◌∷◌, map}
use Rattle.std.specs.Prelude.{Option, Some, None, OnOk, Result, Ok, Err}
use Rattle.palm_device.specs.Devices.{Device}
use Rattle.desktop_session.specs.declared.fault.SessionFault.TheVariants as session
use Rattle.desktop_session.proofs.StopLaws.{does_then, fell_none, stops_none, stops_then}
use Rattle.mirrors.proofs.AskLaws.{asked_part, one_said}
use Rattle.session_parts.specs.Causes.{IsLater}
use Rattle.session_parts.specs.Rests.{IsFirst}
use Rattle.session_parts.specs.Spans.{Spans}
use Rattle.session_parts.proofs.HandleLaws.{one_first}
use Rattle.session_parts.proofs.LinkWords.{LinkFault, Talk, SessionFault, Act, acted, text, saying, SessionValue, AsksOne, Does}

-- the handle is the first one before it, too
first_before : (first : Act) (handle : ℕ) → ((device : Device) → (acted first device).1.handles ≡ device.handles) → (o : Option Talk)
    → IsFirst (saying (first ∷ []) o) handle → IsFirst o handle
unfolding saying
first_before first handle keeps None is = tt
first_before first handle keeps (Some talk) is = λ none. is (keeps talk.device ∙ none)

module _ {L A : Type 0} {talk : L → Option Talk} {since : L → L → Type 0} {fault : L → Option LinkFault} {downs : L → ℕ}
    {says : ℕ → List ℕ → A → Type 0} where
  -- memory ran out before anything was asked for
  pub span_wanting : (itself : (a : L) → since a a) (acts : ℕ → List ℕ → List Act) (old : SessionValue L)
      → Spans talk since fault downs acts says old old (Err session.NoMemory)
  span_wanting itself acts old = record {
    handle = 1;
    given = [];
    first = one_first (talk old.link);
    stops = stops_none talk since fault downs (map text (acts 1 [])) old.link old.link refl (itself old.link) (fell_none fault downs old.link);
    does = tt;
    clear = tt;
    user = refl;
    closed = tt;
    cause = tt;
    said = tt;
  }

  -- the act was refused
  pub span_refused : {first : Act} (acts : ℕ → List ℕ → List Act) {old new : SessionValue L} {cause : SessionFault}
      → AsksOne talk since fault downs first old new → IsLater (talk new.link) (fault new.link) cause
      → Spans talk since fault downs (λ handle given. first ∷ acts handle given) says old new (Err cause)
  span_refused {first} acts {old} {new} {cause} asked later =
      let part = asked_part {A = A} talk since fault downs first (acts 1 []) old new cause asked in
      record {
        handle = 1;
        given = [];
        first = one_first (talk old.link);
        stops = part.stops;
        does = tt;
        clear = tt;
        user = part.user;
        closed = tt;
        cause = later;
        said = tt;
      }

  -- it was answered, and the stretch was asked for
  pub span_behind : (since_more : (a b c : L) → since a b → since b c → since a c) {first : Act} {acts : ℕ → List ℕ → List Act}
      → ((device : Device) → (acted first device).1.handles ≡ device.handles) → {old now new : SessionValue L} {answer : Result A SessionFault}
      → fault now.link ≡ None → AsksOne talk since fault downs first old now → Spans talk since fault downs acts says now new answer
      → Spans talk since fault downs (λ handle given. first ∷ acts handle given) says old new answer
  span_behind since_more {first} {acts} keeps {old} {now} {new} {answer} none asked spans =
      let before = one_said talk since fault downs first old now none asked in
      let mine : List Act = acts spans.handle spans.given in
      record {
        handle = spans.handle;
        given = spans.given;
        first = first_before first spans.handle keeps (talk old.link)
            (subst (λ (o : Option Talk). IsFirst o spans.handle) before.does.said spans.first);
        stops = stops_then talk since fault downs since_more (first ∷ []) (map text mine) old.link now.link new.link before.does before.stops spans.stops;
        does = done answer spans.does;
        clear = cleared answer spans.clear;
        user = spans.user ∙ before.user;
        closed = closed answer spans.closed;
        cause = spans.cause;
        said = spans.said;
      }
    where
      done : (r : Result A SessionFault) → OnOk r (Does talk (acts spans.handle spans.given) now.link new.link)
          → OnOk r (Does talk (first ∷ acts spans.handle spans.given) old.link new.link)
      done (Ok x) does = does_then talk (first ∷ []) (acts spans.handle spans.given) old.link now.link new.link (asked.does none) does
      done (Err cause) does = tt

      cleared : (r : Result A SessionFault) → OnOk r (fault now.link ≡ None → fault new.link ≡ None) → OnOk r (fault old.link ≡ None → fault new.link ≡ None)
      cleared (Ok x) clear = λ fine. clear none
      cleared (Err cause) clear = tt

      closed : (r : Result A SessionFault) → OnOk r (new.abandoned ≡ now.abandoned) → OnOk r (new.abandoned ≡ old.abandoned)
      closed (Ok x) same = same ∙ asked.abandoned
      closed (Err cause) same = tt

-- the same with another answer
module _ {L A B : Type 0} {talk : L → Option Talk} {since : L → L → Type 0} {fault : L → Option LinkFault} {downs : L → ℕ}
    {acts : ℕ → List ℕ → List Act} {says : ℕ → List ℕ → A → Type 0} {new_says : ℕ → List ℕ → B → Type 0} {old new : SessionValue L} where
  pub span_failed : {cause : SessionFault} → Spans talk since fault downs acts says old new (Err cause)
      → Spans talk since fault downs acts new_says old new (Err cause)
  span_failed spans = record {
    handle = spans.handle;
    given = spans.given;
    first = spans.first;
    stops = spans.stops;
    does = tt;
    clear = tt;
    user = spans.user;
    closed = tt;
    cause = spans.cause;
    said = tt;
  }

  pub span_answered : {x : A} {y : B} → ((handle : ℕ) (given : List ℕ) → new_says handle given y) → Spans talk since fault downs acts says old new (Ok x)
      → Spans talk since fault downs acts new_says old new (Ok y)
  span_answered each spans = record {
    handle = spans.handle;
    given = spans.given;
    first = spans.first;
    stops = spans.stops;
    does = spans.does;
    clear = spans.clear;
    user = spans.user;
    closed = spans.closed;
    cause = tt;
    said = each spans.handle spans.given;
  }
