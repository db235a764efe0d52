-- A database is opened, something is done, and it is closed: where it stops, and where it is done.
use Rattle.std.proofs.Common.{◌≡◌, ℕ, List, [], ◌∷◌, ◌++◌, ap, false, refl, true, Option, None, Some, IfErr, IfOk, OnErr, OnOk, Result, Ok, Err}
use Rattle.dlp_replies.specs.ReplyReading.{reply_at}
use Rattle.session_parts.proofs.LinkWords.{LinkFault, Talk, SessionFault, Act, answer_by, handle_of, mapped, no_more, said_in, closing, SessionValue, AsksOne}
use Rattle.mirrors.specs.Asks.{Asks}
use Rattle.mirrors.proofs.AskLaws.{all_said, asked_answer, asked_part, asks_part, asks_then, none_said, one_said}
use Rattle.desktop_session.specs.Orders.{may_find_none}
use Rattle.desktop_session.specs.Tellings.{number_of}
use Rattle.session_parts.specs.Causes.{IsLater}
use Rattle.session_parts.specs.Spans.{nothing, Spans, within}
use Rattle.session_parts.proofs.CauseLaws.{later_refused, later_unopened}
use Rattle.session_parts.proofs.HandleLaws.{IsOpened, one_first}

pub on_ok : {A E : Type 0} (P : Type 0) (r : Result A E) → P → OnOk r P
on_ok P (Ok x) p = p
on_ok P (Err cause) p = tt

pub any_answer : {A : Type 0} (r : Result A SessionFault) → IfOk r (λ x. Unit {0})
any_answer (Ok x) = tt
any_answer (Err cause) = tt

err_case : {A E : Type 0} (P : Type 0) (r : Result A E) (e : E) → r ≡ Err e → OnErr r P → P
err_case P (Ok x) e is held = absurd cc
err_case P (Err other) e is held = held

-- the same, where what was done is answered behind the closing
answer_behind : {A : Type 0} (fault : Option LinkFault) (told r : Result (Unit {0}) SessionFault) (x : A) → r ≡ answer_by fault told
    → mapped (λ done. x) r ≡ answer_by fault (mapped (λ done. x) told)
answer_behind None told r x is = ap (mapped (λ done. x)) is
answer_behind (Some other) told r x is = ap (mapped (λ done. x)) is

module _ {L A : Type 0} {talk : L → Option Talk} {since : L → L → Type 0} {fault : L → Option LinkFault} {downs : L → ℕ} where
  -- nothing is said, and this is answered
  pub span_none : (itself : (a : L) → since a a) {says : ℕ → List ℕ → A → Type 0} {old : SessionValue L} {x : A} → says 1 [] x
      → Spans talk since fault downs nothing says old old (Ok x)
  span_none itself {old} is =
      let none = none_said talk since fault downs itself old in
      record {
        handle = 1;
        given = [];
        first = one_first (talk old.link);
        stops = none.stops;
        does = none.does;
        clear = none.clear;
        user = none.user;
        closed = none.abandoned;
        cause = tt;
        said = is;
      }

  -- it was not opened
  pub span_unopened : (More : Type 0) {C : Type 0} (number : ℕ) {first : Act} (acts : ℕ → List ℕ → List Act) {says : ℕ → List ℕ → A → Type 0} {old new : SessionValue L}
      {cause : SessionFault} (r : Result C SessionFault) → number ≡ number_of first → may_find_none first.asks.form ≡ false → r ≡ Err cause → OnErr r (AsksOne talk since fault downs first old new
      × IfErr r (λ why. ◌≡◌ {A = Result ℕ SessionFault} (Err why) (answer_by (fault new.link) (said_in number handle_of (reply_at number new.reply)))) × More)
      → Spans talk since fault downs (within first acts) says old new (Err cause)
  span_unopened More number acts {old} {new} {cause} r own none was held =
      let both = err_case _ r cause was held in
      let asks = asked_part {A = A} talk since fault downs _ (acts 1 [] ++ closing 1 ∷ []) old new cause both.0 in
      record {
        handle = 1;
        given = [];
        first = one_first (talk old.link);
        stops = asks.stops;
        does = tt;
        clear = tt;
        user = asks.user;
        closed = tt;
        cause = later_unopened number handle_of r cause own none both.0 was both.1;
        said = tt;
      }

  module _ (since_more : (a b c : L) → since a b → since b c → since a c) {first : Act} (acts : ℕ → List ℕ → List Act) where
    -- it was opened, and then this was done
    opened_then : {handle : ℕ} (given : List ℕ) {old now new : SessionValue L} {answer : Result A SessionFault}
        → IsOpened talk since fault downs first handle old now → Asks {A = A} talk since fault downs (acts handle given) now new answer
        → Asks {A = A} talk since fault downs (first ∷ acts handle given) old new answer
    opened_then {handle} given {old} {now} {new} {answer} opened asks =
        asks_then talk since fault downs since_more (first ∷ []) (acts handle given) old now new answer
        (one_said talk since fault downs first old now opened.none opened.asked) asks

    -- it was opened, and what was to be done stopped; then it was left
    pub span_stopped : {B : Type 0} {says : ℕ → List ℕ → B → Type 0} {handle : ℕ} (given : List ℕ) {old now new left : SessionValue L} {cause : SessionFault}
        → IsOpened talk since fault downs first handle old now → Asks {A = A} talk since fault downs (acts handle given) now new (Err cause)
        → IsLater (talk new.link) (fault new.link) cause → left ≡ record new { abandoned = true }
        → Spans talk since fault downs (within first acts) says old left (Err cause)
    span_stopped {B} {handle} given {old} {new} {cause} opened asks later same =
        let whole = asks_part {A = A} {B = B} talk since fault downs (first ∷ acts handle given) (closing handle ∷ []) old new cause cause
        (opened_then given opened asks) in
        rw same (record {
          handle = handle;
          given = given;
          first = opened.first;
          stops = whole.stops;
          does = tt;
          clear = tt;
          user = whole.user;
          closed = tt;
          cause = later;
          said = tt;
        })

    -- it was opened, what was to be done was done, and it was to be closed
    pub span_closed : {B : Type 0} {says : ℕ → List ℕ → B → Type 0} {handle last : ℕ} (given : List ℕ) {old now done new left : SessionValue L} {x : A}
        (told : Result B SessionFault) {answer : Result B SessionFault}
        → IsOpened talk since fault downs first handle old now → Asks {A = A} talk since fault downs (acts handle given) now done (Ok x) → last ≡ handle
        → AsksOne talk since fault downs (closing last) done new → answer ≡ answer_by (fault new.link) told
        → IfErr answer (IsLater (talk new.link) (fault new.link)) → IfOk answer (says handle given) → left ≡ new
        → Spans talk since fault downs (within first acts) says old left answer
    span_closed {handle} given {old} {done} {new} {x} told {answer} opened asks same closes answered later says_so goes =
        let before = all_said talk since fault downs (first ∷ acts handle given) old done x (opened_then given opened asks) in
        let ends = asked_answer talk since fault downs (closing handle) done new told answer answered (rw same at closes) in
        let whole = asks_then talk since fault downs since_more (first ∷ acts handle given) (closing handle ∷ []) old done new answer before ends in
        rw goes (record {
          handle = handle;
          given = given;
          first = opened.first;
          stops = whole.stops;
          does = whole.does;
          clear = whole.clear;
          user = whole.user;
          closed = on_ok (new.abandoned ≡ old.abandoned) answer whole.abandoned;
          cause = later;
          said = says_so;
        })

    -- the closing was refused, or done: what was done before is answered
    module _ {says : ℕ → List ℕ → A → Type 0} {handle last : ℕ} (given : List ℕ) {old now done new left : SessionValue L} {x : A}
        (opened : IsOpened talk since fault downs first handle old now) (asks : Asks {A = A} talk since fault downs (acts handle given) now done (Ok x))
        (same : last ≡ handle) (closes : AsksOne talk since fault downs (closing last) done new) where
      pub span_unclosed : {cause : SessionFault}
          → ◌≡◌ {A = Result (Unit {0}) SessionFault} (Err cause) (answer_by (fault new.link) (said_in 0x19 no_more (reply_at 0x19 new.reply))) → left ≡ new
          → Spans talk since fault downs (within first acts) says old left (Err cause)
      span_unclosed {cause} is goes =
          span_closed given _ opened asks same closes (answer_behind _ _ (Err cause) x is) (later_refused no_more cause refl closes is) tt goes

      pub span_done : {end : Unit {0}} → Ok end ≡ answer_by (fault new.link) (said_in 0x19 no_more (reply_at 0x19 new.reply)) → says handle given x → left ≡ new
          → Spans talk since fault downs (within first acts) says old left (Ok x)
      span_done {end} is said goes = span_closed given _ opened asks same closes (answer_behind _ _ (Ok end) x is) tt said goes
