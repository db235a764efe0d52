-- Stretches of a session grow by one.
use Rattle.std.proofs.Common.{◌≡◌, ◌∙◌, ◌+◌, refl, ap, sym, ℕ, suc, List, [], ◌∷◌, ◌++◌, length, map, take, append_assoc}
use Rattle.std.proofs.lemmas.List.{append-nil, map-append}
use Rattle.std.specs.Prelude.{Option, Ok, Err, Result, OnOk, None}
use Rattle.session_parts.proofs.LinkWords.{LinkFault, Talk, SessionFault, Act, text, saying, SessionValue, AsksOne, Does}
use Rattle.desktop_session.proofs.SaysLaws.{saying_none, saying_then}
use Rattle.desktop_session.proofs.StopLaws.{does_then, stops_then}
use Rattle.mirrors.proofs.AskLaws.{SoFar, all_said, asked_part, asks_then, none_said, one_said}
use Rattle.mirrors.proofs.NewsLaws.{SplitAt}
use Rattle.mirrors.specs.Asks.{Asks}
use Rattle.session_parts.specs.Causes.{IsLater}
use Rattle.session_parts.specs.Spans.{Spans}
use Rattle.session_parts.specs.Stretches.{AreFirst, EachSays, SpansBehind, SpansEach, Stretch, done_each, each_acts}

-- ---- stretches behind others that all have answers

pub first-none : {J : Type 0} (acts : Option Talk → J → ℕ → List ℕ → List Act) (told : Option Talk) (jobs : List J) → AreFirst acts told jobs []
first-none acts told [] = tt
first-none acts told (job ∷ jobs) = tt

each_acts-none : {J : Type 0} (acts : Option Talk → J → ℕ → List ℕ → List Act) (told : Option Talk) (jobs : List J) → each_acts acts told jobs [] ≡ []
each_acts-none acts told [] = refl
each_acts-none acts told (job ∷ jobs) = refl

module _ {J A : Type 0} (acts : Option Talk → J → ℕ → List ℕ → List Act) (says : Option Talk → J → ℕ → List ℕ → A → Type 0) where
  -- each has its answer
  pub says-length : (told : Option Talk) (jobs : List J) (stretches : List Stretch) (xs : List A) → EachSays acts says told jobs stretches xs
      → length xs ≡ length jobs
  says-length told [] [] [] all = refl
  says-length told (job ∷ jobs) (one ∷ more) (x ∷ xs) all =
      ap suc (says-length (saying (acts told job one.handle one.given) told) jobs more xs all.1)
  says-length told jobs stretches xs all = absurd all

  each_acts-append : (told : Option Talk) (done jobs : List J) (ones more : List Stretch) (xs : List A) → EachSays acts says told done ones xs
      → each_acts acts told (done ++ jobs) (ones ++ more)
      ≡ each_acts acts told done ones ++ each_acts acts (saying (each_acts acts told done ones) told) jobs more
  each_acts-append told [] jobs [] more [] all = ap (λ t. each_acts acts t jobs more) (sym (saying_none told))
  each_acts-append told (job ∷ done) jobs (one ∷ ones) more (x ∷ xs) all =
      let first : List Act = acts told job one.handle one.given in
      let then : Option Talk = saying first told in
      let rest : List Act = each_acts acts then done ones in
      ap (λ zs. first ++ zs) (each_acts-append then done jobs ones more xs all.1)
      ∙ sym (append_assoc first rest (each_acts acts (saying rest then) jobs more))
      ∙ ap (λ t. (first ++ rest) ++ each_acts acts t jobs more) (saying_then first rest told)
  each_acts-append told done jobs ones more xs all = absurd all

  each_says-append : (told : Option Talk) (done jobs : List J) (ones more : List Stretch) (xs ys : List A) → EachSays acts says told done ones xs
      → EachSays acts says (saying (each_acts acts told done ones) told) jobs more ys
      → EachSays acts says told (done ++ jobs) (ones ++ more) (xs ++ ys)
  each_says-append told [] jobs [] more [] ys all later = rw (saying_none told) at later
  each_says-append told (job ∷ done) jobs (one ∷ ones) more (x ∷ xs) ys all later =
      let first : List Act = acts told job one.handle one.given in
      let then : Option Talk = saying first told in (
        all.0,
        each_says-append then done jobs ones more xs ys all.1
            (rw (← saying_then first (each_acts acts then done ones) told) at later),
      )
  each_says-append told done jobs ones more xs ys all later = absurd all

  first-append : (told : Option Talk) (done jobs : List J) (ones more : List Stretch) (xs : List A) → EachSays acts says told done ones xs
      → AreFirst acts told done ones → AreFirst acts (saying (each_acts acts told done ones) told) jobs more
      → AreFirst acts told (done ++ jobs) (ones ++ more)
  first-append told [] jobs [] more [] all before later = rw (saying_none told) at later
  first-append told (job ∷ done) jobs (one ∷ ones) more (x ∷ xs) all before later =
      let first : List Act = acts told job one.handle one.given in
      let then : Option Talk = saying first told in (
        before.0,
        first-append then done jobs ones more xs all.1 before.1
            (rw (← saying_then first (each_acts acts then done ones) told) at later),
      )
  first-append told done jobs ones more xs all before later = absurd all

-- ---- so far

-- these stretches were done so far, and have these answers
pub record EachSoFar {L J A : Type 0} (talk : L → Option Talk) (since : L → L → Type 0) (fault : L → Option LinkFault) (downs : L → ℕ)
    (acts : Option Talk → J → ℕ → List ℕ → List Act) (says : Option Talk → J → ℕ → List ℕ → A → Type 0) (done : List J) (xs : List A)
    (old now : SessionValue L) : Type 0 where
  pub stretches : List Stretch
  pub firsts : AreFirst acts (talk old.link) done stretches
  pub so : SoFar talk since fault downs (each_acts acts (talk old.link) done stretches) old now
  pub said : EachSays acts says (talk old.link) done stretches xs

-- nothing is answered but that each was done
pub done_each-next : {J : Type 0} {jobs : List J} {k : ℕ} {job : J} → SplitAt jobs k job
    → done_each (take (k + 1) jobs) tt ≡ done_each (take k jobs) tt ++ tt ∷ []
done_each-next {J} {jobs} {k} {job} split = ap (λ js. done_each js tt) split.next ∙ append (take k jobs)
  where
    append : (done : List J) → done_each (done ++ job ∷ []) tt ≡ done_each done tt ++ tt ∷ []
    append [] = refl
    append (one ∷ done) = ap (λ xs. tt ∷ xs) (append done)

module _ {L J A : Type 0} {talk : L → Option Talk} {since : L → L → Type 0} {fault : L → Option LinkFault} {downs : L → ℕ}
    {acts : Option Talk → J → ℕ → List ℕ → List Act} {says : Option Talk → J → ℕ → List ℕ → A → Type 0} where
  pub each_none : (itself : (a : L) → since a a) {old : SessionValue L} → EachSoFar talk since fault downs acts says [] [] old old
  each_none itself {old} = record { stretches = []; firsts = tt; so = none_said talk since fault downs itself old; said = tt }

  -- so far all was done, and then no more
  each_part : {B : Type 0} {done : List J} (rest : List J) {jobs : List J} {xs : List A} {each : B → List A} {old new : SessionValue L} {cause : SessionFault}
      → done ++ rest ≡ jobs → EachSoFar talk since fault downs acts says done xs old new → IsLater (talk new.link) (fault new.link) cause
      → SpansEach talk since fault downs acts says jobs each old new (Err cause)
  each_part {done} rest {xs} {old} split before later =
      let said : List Act = each_acts acts (talk old.link) done before.stretches in
      let same : said ≡ each_acts acts (talk old.link) (done ++ rest) (before.stretches ++ [])
      = sym (append-nil said) ∙ ap (λ zs. said ++ zs) (sym (each_acts-none acts (saying said (talk old.link)) rest))
      ∙ sym (each_acts-append acts says (talk old.link) done rest before.stretches [] xs before.said) in
      rw (← split) (record {
        stretches = before.stretches ++ [];
        firsts = first-append acts says (talk old.link) done rest before.stretches [] xs before.said before.firsts
            (first-none acts (saying said (talk old.link)) rest);
        stops = rw (← same) before.so.stops;
        does = tt;
        clear = tt;
        user = before.so.user;
        closed = tt;
        cause = later;
        said = tt;
      })

  -- nothing was asked for
  pub spans_none : {B : Type 0} (itself : (a : L) → since a a) {jobs : List J} {each : B → List A} {old : SessionValue L} {cause : SessionFault}
      → IsLater (talk old.link) (fault old.link) cause → SpansEach talk since fault downs acts says jobs each old old (Err cause)
  spans_none itself {jobs} {old} later = each_part jobs refl (each_none itself {old = old}) later

  module _ {jobs : List J} {k : ℕ} {job : J} (split : SplitAt jobs k job) where
    -- one more was done, and then no more
    pub each_lost : {B : Type 0} {xs : List A} {each : B → List A} {old new : SessionValue L} {cause : SessionFault}
        → EachSoFar talk since fault downs acts says (take (k + 1) jobs) xs old new → IsLater (talk new.link) (fault new.link) cause
        → SpansEach talk since fault downs acts says jobs each old new (Err cause)
    each_lost before later =
        each_part split.rest (ap (λ js. js ++ split.rest) split.next ∙ append_assoc (take k jobs) (job ∷ []) split.rest ∙ split.is) before later

    module _ (since_more : (a b c : L) → since a b → since b c → since a c) {xs : List A} {old now : SessionValue L}
        (before : EachSoFar talk since fault downs acts says (take k jobs) xs old now) where
      abbrev acts_so_far : List Act
      acts_so_far = each_acts acts (talk old.link) (take k jobs) before.stretches

      acts-next : (one : Stretch) (rest : List J) → acts_so_far ++ acts (talk now.link) job one.handle one.given
          ≡ each_acts acts (talk old.link) (take k jobs ++ job ∷ rest) (before.stretches ++ one ∷ [])
      acts-next one rest =
          let then : Option Talk = saying acts_so_far (talk old.link) in
          let mine : List Act = acts then job one.handle one.given in
          ap (λ t. acts_so_far ++ acts t job one.handle one.given) before.so.does.said ∙ ap (λ zs. acts_so_far ++ zs) (sym (append-nil mine))
          ∙ ap (λ zs. acts_so_far ++ (mine ++ zs)) (sym (each_acts-none acts (saying mine then) rest))
          ∙ sym (each_acts-append acts says (talk old.link) (take k jobs) (job ∷ rest) before.stretches (one ∷ []) xs before.said)

      -- one stretch more
      pub each_on : {new : SessionValue L} {x : A} → Spans talk since fault downs (acts (talk now.link) job) (says (talk now.link) job) now new (Ok x)
          → EachSoFar talk since fault downs acts says (take (k + 1) jobs) (xs ++ x ∷ []) old new
      each_on {new} {x} spans =
          let done : List J = take k jobs in
          let one : Stretch = record { handle = spans.handle; given = spans.given } in
          let is : talk now.link ≡ saying acts_so_far (talk old.link) = before.so.does.said in
          let mine : List Act = acts (talk now.link) job spans.handle spans.given in
          let asks : Asks talk since fault downs mine now new (Ok x)
          = record { stops = spans.stops; does = spans.does; clear = spans.clear; user = spans.user; abandoned = spans.closed } in
          let whole = all_said talk since fault downs (acts_so_far ++ mine) old new x
          (asks_then talk since fault downs since_more acts_so_far mine old now new (Ok x) before.so asks) in
          rw split.next (record {
            stretches = before.stretches ++ one ∷ [];
            firsts = first-append acts says (talk old.link) done (job ∷ []) before.stretches (one ∷ []) xs before.said before.firsts
                (rw is at spans.first, tt);
            so = rw (← acts-next one []) whole;
            said = each_says-append acts says (talk old.link) done (job ∷ []) before.stretches (one ∷ []) xs (x ∷ []) before.said
                (rw is at spans.said, tt);
          })

      -- one stretch more was asked for, and it stopped
      pub each_stopped : {B : Type 0} {new : SessionValue L} {each : B → List A} {cause : SessionFault}
          → Spans {A = A} talk since fault downs (acts (talk now.link) job) (says (talk now.link) job) now new (Err cause)
          → SpansEach talk since fault downs acts says jobs each old new (Err cause)
      each_stopped {new} spans =
          let one : Stretch = record { handle = spans.handle; given = spans.given } in
          let is : talk now.link ≡ saying acts_so_far (talk old.link) = before.so.does.said in
          let mine : List Act = acts (talk now.link) job spans.handle spans.given in
          rw (← split.is) (record {
            stretches = before.stretches ++ one ∷ [];
            firsts = first-append acts says (talk old.link) (take k jobs) (job ∷ split.rest) before.stretches (one ∷ []) xs before.said before.firsts
                (rw is at spans.first, first-none acts _ split.rest);
            stops = rw (← acts-next one split.rest, map-append text acts_so_far mine)
                (stops_then talk since fault downs since_more acts_so_far (map text mine) old.link now.link new.link before.so.does before.so.stops
                spans.stops);
            does = tt;
            clear = tt;
            user = spans.user ∙ before.so.user;
            closed = tt;
            cause = spans.cause;
            said = tt;
          })

-- ---- behind a first act

behind_does : {L B : Type 0} {talk : L → Option Talk} (first : Act) {rest acts : List Act} {a b : L} (c : L) (answer : Result B SessionFault)
    → rest ≡ acts → Does talk (first ∷ []) a b → OnOk answer (Does talk rest b c) → OnOk answer (Does talk (first ∷ acts) a c)
behind_does {talk} first {rest} {a} {b} c (Ok made) same before does = rw (← same) (does_then talk (first ∷ []) rest a b c before does)
behind_does first c (Err cause) same before does = tt

behind_clear : {B : Type 0} (P R : Type 0) {Q : Type 0} (answer : Result B SessionFault) → Q → OnOk answer (Q → R) → OnOk answer (P → R)
behind_clear P R (Ok made) none clear = λ p. clear none
behind_clear P R (Err cause) none clear = tt

behind_closed : {B C : Type 0} {x y : C} (z : C) (answer : Result B SessionFault) → y ≡ x → OnOk answer (z ≡ y) → OnOk answer (z ≡ x)
behind_closed z (Ok made) before closed = closed ∙ before
behind_closed z (Err cause) before closed = tt

module _ {L J A B : Type 0} {talk : L → Option Talk} {since : L → L → Type 0} {fault : L → Option LinkFault} {downs : L → ℕ} {first : Act}
    {acts : Option Talk → J → ℕ → List ℕ → List Act} {says : Option Talk → J → ℕ → List ℕ → A → Type 0} {jobs : List J} {each : B → List A} where
  -- it was refused
  pub behind_none : {old new : SessionValue L} {cause : SessionFault} → AsksOne talk since fault downs first old new → IsLater (talk new.link) (fault new.link) cause
      → SpansBehind talk since fault downs first acts says jobs each old new (Err cause)
  behind_none {old} {new} {cause} asked later =
      let told : Option Talk = saying (first ∷ []) (talk old.link) in
      let part = asked_part {A = B} talk since fault downs first (each_acts acts told jobs []) old new cause asked in
      record {
        stretches = [];
        firsts = first-none acts told jobs;
        stops = part.stops;
        does = tt;
        clear = tt;
        user = part.user;
        closed = tt;
        cause = later;
        said = tt;
      }

  -- it was answered, and the stretches were asked for
  pub behind_one : (since_more : (a b c : L) → since a b → since b c → since a c) {old now new : SessionValue L} {answer : Result B SessionFault}
      → fault now.link ≡ None → AsksOne talk since fault downs first old now → SpansEach talk since fault downs acts says jobs each now new answer
      → SpansBehind talk since fault downs first acts says jobs each old new answer
  behind_one since_more {old} {now} {new} {answer} none asked spans =
      let before = one_said talk since fault downs first old now none asked in
      let told : talk now.link ≡ saying (first ∷ []) (talk old.link) = before.does.said in
      let rest : List Act = each_acts acts (talk now.link) jobs spans.stretches in
      let same : rest ≡ each_acts acts (saying (first ∷ []) (talk old.link)) jobs spans.stretches
      = ap (λ t. each_acts acts t jobs spans.stretches) told in
      record {
        stretches = spans.stretches;
        firsts = rw told at spans.firsts;
        stops = rw (← same)
            (stops_then talk since fault downs since_more (first ∷ []) (map text rest) old.link now.link new.link before.does before.stops spans.stops);
        does = behind_does first new.link answer same before.does spans.does;
        clear = behind_clear (fault old.link ≡ None) (fault new.link ≡ None) answer none spans.clear;
        user = spans.user ∙ before.user;
        cause = spans.cause;
        closed = behind_closed new.abandoned answer before.abandoned spans.closed;
        said = rw told at spans.said;
      }
