-- One act for each of a list grows by one.
use Rattle.std.proofs.Common.{◌≡◌, ◌∙◌, ◌+◌, ◌≤◌, ap, sym, subst, ℕ, List, [], ◌∷◌, ◌++◌, length, map, take}
use Rattle.std.proofs.lemmas.List.{map-append}
use Rattle.std.specs.Prelude.{Option, None, Ok, Err}
use Rattle.session_parts.proofs.LinkWords.{LinkFault, Talk, SessionFault, Act, SessionValue, AsksOne}
use Rattle.mirrors.specs.Asks.{Asks}
use Rattle.mirrors.proofs.AskLaws.{SoFar, asked_part, asks_then, none_said, said_all, said_on}
use Rattle.mirrors.proofs.NewsLaws.{SplitAt, take_none}
use Rattle.desktop_session.proofs.GrowLaws.{take_whole}

module _ {L X : Type 0} {talk : L → Option Talk} {since : L → L → Type 0} {fault : L → Option LinkFault} {downs : L → ℕ} (f : X → Act)
    {old : SessionValue L} where
  pub each_none : (itself : (a : L) → since a a) (xs : List X) → SoFar talk since fault downs (map f (take 0 xs)) old old
  each_none itself xs =
      subst (λ (ys : List X). SoFar talk since fault downs (map f ys) old old) (sym (take_none xs)) (none_said talk since fault downs itself old)

  -- one more was answered
  pub each_on : (since_more : (a b c : L) → since a b → since b c → since a c) {k : ℕ} {x : X} {xs : List X} {now new : SessionValue L}
      → SplitAt xs k x → fault new.link ≡ None → SoFar talk since fault downs (map f (take k xs)) old now
      → AsksOne talk since fault downs (f x) now new → SoFar talk since fault downs (map f (take (k + 1) xs)) old new
  each_on since_more {k} {x} {xs} split none before asked =
      rw (ap (map f) split.next ∙ map-append f (take k xs) (x ∷ [])) (said_on since_more none before asked)

  -- one more was refused
  pub each_stop : {A : Type 0} (since_more : (a b c : L) → since a b → since b c → since a c) {k : ℕ} {x : X} {xs : List X} {now new : SessionValue L}
      (cause : SessionFault) → SplitAt xs k x → SoFar talk since fault downs (map f (take k xs)) old now → AsksOne talk since fault downs (f x) now new
      → Asks {A = A} talk since fault downs (map f xs) old new (Err cause)
  each_stop {A} since_more {k} {x} {xs} {now} {new} cause split before asked =
      let all : map f (take k xs) ++ f x ∷ map f split.rest ≡ map f xs = sym (map-append f (take k xs) (x ∷ split.rest)) ∙ ap (map f) split.is in
      rw (← all) (asks_then talk since fault downs since_more (map f (take k xs)) (f x ∷ map f split.rest) old now new (Err cause) before
      (asked_part talk since fault downs (f x) (map f split.rest) now new cause asked))

  -- all were answered
  pub each_done : {A : Type 0} (k : ℕ) (xs : List X) {new : SessionValue L} (answer : A) → length xs ≤ k
      → SoFar talk since fault downs (map f (take k xs)) old new → Asks talk since fault downs (map f xs) old new (Ok answer)
  each_done k xs {new} answer all before =
      said_all answer (subst (λ (ys : List X). SoFar talk since fault downs (map f ys) old new) (take_whole xs k all) before)
