-- What an end does with a frame that comes.
use Rattle.line_laws.proofs.Names.{rules, ◌≡◌, ◌⊎◌, ℕ, ◌+◌, ◌<◌, ◌≤◌, Bool, true, false, cond, nat_eq, List, [], ◌∷◌, length, Some, refl, sym, ap, subst, ◌∙◌}
use Rattle.line_laws.proofs.Names.{arith, inl, inr, both_ways, cond-true, cond-false, Key, Taken, Accepted, Whole, Repeated, Dropped, piece_count}
use Rattle.line_laws.proofs.Names.{data_fragment, ReceiverValue, Answers, after_answer, IsBefore, takes_piece, next_key_differs, FrameCourse, PastFrame, first, data_of}
use Rattle.line_laws.proofs.Names.{ack_of, said, acked, at, IsDataOf, IsAckOf, End, Apart, Follows, Counts, Side, Waiting, key_now, part_now, Awaits, Answering}
use Rattle.line_laws.proofs.Names.{CoreAt, data_frame, ack_frame}
use Rattle.line_laws.proofs.PastLaws.{keys_apart, keys_below}
use Rattle.line_laws.proofs.CountLaws.{counts_later, IsNewest, pending_data, pending_ack}
use Rattle.line_laws.proofs.StepLaws.{turned, repeats, begins, answers_last, accepts, ends}

-- the waiting piece is the next one for a receiver that took those before it
pub record Took (x : Side) (receiver : ReceiverValue) (answer : Taken) : Type 0 where
  pub is : answer ≡ cond (nat_eq (x.acknowledged + 1) (piece_count (length x.message))) Whole Accepted
  pub last : (after_answer receiver x.id (part_now x) answer).last ≡ Some (key_now x)
  pub awaits : Awaits x.id (x.acknowledged + 1) x.message (after_answer receiver x.id (part_now x) answer)

pub takes : {x : Side} {receiver : ReceiverValue} {answer : Taken} → Awaits x.id x.acknowledged x.message receiver
    → (receiver.last ≡ Some (key_now x) → ⊥) → Waiting x → Answers receiver x.id (part_now x) answer → Took x receiver answer
takes {x} {receiver} {answer} awaits new waits answers =
    let before : IsBefore x.id x.acknowledged x.message receiver = record { awaited = awaits.awaited; pieces = awaits.pieces; fresh = new } in
    let step = takes_piece x.id x.acknowledged x.message receiver answer before waits answers in
    record {
      is = step.0;
      last = last_of answer (nat_eq (x.acknowledged + 1) (piece_count (length x.message))) step.0;
      awaits = record { awaited = step.1.awaited; pieces = step.1.pieces };
    } where
      last_of : (answer : Taken) (test : Bool) → answer ≡ cond test Whole Accepted → (after_answer receiver x.id (part_now x) answer).last ≡ Some (key_now x)
      last_of Accepted test is = refl
      last_of Whole test is = refl
      last_of Repeated true is = absurd cc
      last_of Repeated false is = absurd cc
      last_of Dropped true is = absurd cc
      last_of Dropped false is = absurd cc

-- the newest fragment was taken: it is the last one of its message where it is whole; the other end, if it waits, waits on the last
-- piece of its own message, and this one is a first piece; and the core holds once the frame is acknowledged and the other end waits no more
pub record Accepting (X Y : End) (past : List PastFrame) (cy n : ℕ) (x y : Side) (rx ry : ReceiverValue) (key : Key) (bytes : List ℕ)
    (answer : Taken) (whole : Bool) : Type 0 where
  pub key_is : key ≡ key_now x
  pub waits : Waiting x
  pub whole_is : nat_eq (x.acknowledged + 1) (piece_count (length x.message)) ≡ whole
  pub answers : Waiting y → (x.acknowledged ≡ 0) × (y.acknowledged + 1 ≡ piece_count (length y.message))
  pub knows : length (said Y past) ≤ length (acked X (at n past))
  pub core : (k : ℕ) (course : FrameCourse) → piece_count (length y.message) ≤ k
      → CoreAt X Y (ack_frame Y key course ∷ past) n cy x (record y { acknowledged = k }) rx
      (after_answer ry (key.id) (data_fragment key bytes) answer) false false

abbrev pub AfterData : (X Y : End) (past : List PastFrame) (cy n : ℕ) (x y : Side) (rx ry : ReceiverValue) (fx fy : Bool) (key : Key) (bytes : List ℕ) → Taken
    → Type 0
AfterData X Y past cy n x y rx ry fx fy key bytes Repeated = (course : FrameCourse) → CoreAt X Y (ack_frame Y key course ∷ past) n cy x y rx ry fx fy
AfterData X Y past cy n x y rx ry fx fy key bytes Accepted = (fx ≡ true) × Accepting X Y past cy n x y rx ry key bytes Accepted false
AfterData X Y past cy n x y rx ry fx fy key bytes Whole = (fx ≡ true) × Accepting X Y past cy n x y rx ry key bytes Whole true
AfterData X Y past cy n x y rx ry fx fy key bytes Dropped = ⊥

module _ {X Y : End} {past : List PastFrame} {cx cy : ℕ} {x y : Side} {rx ry : ReceiverValue} where
  -- a copy of the last fragment that was taken
  take_copy : {n : ℕ} {fx fy : Bool} {key : Key} (bytes : List ℕ) (answer : Taken)
      → Apart X Y → CoreAt X Y past cx cy x y rx ry fx fy → cx ≤ n → n ≤ length past
      → first (acked Y past) ≡ Some key → Answers ry (key.id) (data_fragment key bytes) answer → AfterData X Y past cy n x y rx ry fx fy key bytes answer
  take_copy bytes Repeated apart core from inside copy answers = λ course. repeats apart core from inside copy
  take_copy bytes Accepted apart core from inside copy answers = absurd (answers.0 (core.y_hears.last_is ∙ copy))
  take_copy bytes Whole apart core from inside copy answers = absurd (answers.0 (core.y_hears.last_is ∙ copy))
  take_copy bytes Dropped apart core from inside copy answers = absurd (answers.0 (core.y_hears.last_is ∙ copy))

  -- the newest fragment
  take_newest : {n : ℕ} {answer : Taken} → Apart X Y
      → CoreAt X Y past cx cy x y rx ry true false → cx ≤ n → n ≤ length past
      → length (acked Y past) < length (said X (at n past)) → Answers ry x.id (part_now x) answer → {whole : Bool}
      → nat_eq (x.acknowledged + 1) (piece_count (length x.message)) ≡ whole → Took x ry answer
      → Accepting X Y past cy n x y rx ry (key_now x) ((part_now x).bytes) answer whole
  take_newest {n} apart core from inside behind answers whole_is took = record {
    key_is = refl;
    waits = core.x_speaks.waits refl;
    whole_is = whole_is;
    answers = answers_last core;
    knows = (core.there.fits n from inside).begun behind;
    core = λ k course idle. accepts apart core from inside (core.x_speaks.newest (core.x_speaks.waits refl)) behind idle took.last (λ below. took.awaits);
  }

  -- the newest fragment of X wasn't the last key that the other end took
  newest_is_new : {fy : Bool} → CoreAt X Y past cx cy x y rx ry true fy → ry.last ≡ Some (key_now x) → ⊥
  newest_is_new core same =
      let was = core.there.follows in
      let newest = core.x_speaks.newest (core.x_speaks.waits refl) in
      let it : was.0 ≡ key_now x = (let s : Some was.0 ≡ Some (key_now x) = sym (ap first was.1) ∙ newest in cc) in
      keys_apart (data_of X) past was.1 (sym core.y_hears.last_is ∙ same ∙ ap Some (sym it))

  after_newest : {n : ℕ} (answer : Taken) → Apart X Y
      → CoreAt X Y past cx cy x y rx ry true false → cx ≤ n → n ≤ length past
      → length (acked Y past) < length (said X (at n past)) → Answers ry x.id (part_now x) answer
      → AfterData X Y past cy n x y rx ry true false (key_now x) ((part_now x).bytes) answer
  after_newest {n} answer apart core from inside behind answers =
      go answer (nat_eq (x.acknowledged + 1) (piece_count (length x.message))) refl answers (takes awaits (newest_is_new core) waits answers) where
        waits : Waiting x
        waits = core.x_speaks.waits refl

        awaits : Awaits x.id x.acknowledged x.message ry
        awaits = core.y_hears.receives waits

        go : (answer : Taken) (test : Bool) → nat_eq (x.acknowledged + 1) (piece_count (length x.message)) ≡ test → Answers ry x.id (part_now x) answer
            → Took x ry answer → AfterData X Y past cy n x y rx ry true false (key_now x) ((part_now x).bytes) answer
        go Accepted false test answers took = (refl, take_newest apart core from inside behind answers test took)
        go Whole true test answers took = (refl, take_newest apart core from inside behind answers test took)
        go Accepted true test answers took = absurd (let e : Accepted ≡ Whole = took.is ∙ cond-true _ Whole Accepted test in cc)
        go Whole false test answers took = absurd (let e : Whole ≡ Accepted = took.is ∙ cond-false _ Whole Accepted test in cc)
        go Repeated true test answers took = absurd (let e : Repeated ≡ Whole = took.is ∙ cond-true _ Whole Accepted test in cc)
        go Repeated false test answers took = absurd (let e : Repeated ≡ Accepted = took.is ∙ cond-false _ Whole Accepted test in cc)
        go Dropped true test answers took = absurd (let e : Dropped ≡ Whole = took.is ∙ cond-true _ Whole Accepted test in cc)
        go Dropped false test answers took = absurd (let e : Dropped ≡ Accepted = took.is ∙ cond-false _ Whole Accepted test in cc)

  -- A data frame of X comes, whatever its answer: it is never dropped.
  pub take_data : {n : ℕ} {fx fy : Bool} {frame : PastFrame} {older : List PastFrame} (answer : Taken)
      → Apart X Y → CoreAt X Y past cx cy x y rx ry fx fy → cx ≤ n → n ≤ length past
      → at n past ≡ frame ∷ older → IsDataOf X frame → Answers ry (frame.key.id) (data_fragment (frame.key) (frame.bytes)) answer
      → AfterData X Y past cy n x y rx ry fx fy (frame.key) (frame.bytes) answer
  take_data {n} {fx} {fy} {frame} {older} answer apart core from inside here is answers = elim (pending_data fx core.there from inside here is) [
    | inl copy ↦ take_copy frame.bytes answer apart core from inside copy.key answers
    | inr newest ↦ go fx fy core newest
  ] where
    go : (fx fy : Bool) → CoreAt X Y past cx cy x y rx ry fx fy → IsNewest X Y frame n past fx
        → AfterData X Y past cy n x y rx ry fx fy frame.key frame.bytes answer
    go false fy core newest = absurd (let e = newest.is_fresh in cc)
    go true true core newest = absurd (let e = core.one refl in cc)
    go true false core newest =
        let waits = core.x_speaks.waits refl in
        let key : key_now x ≡ frame.key = (let s : Some (key_now x) ≡ Some frame.key = sym (core.x_speaks.newest waits) ∙ newest.key in cc) in
        let bytes : frame.bytes ≡ (part_now x).bytes =
        core.x_speaks.bytes waits n frame older inside here is (ap (λ p. length (said X p)) (sym here) ∙ newest.newest) in
        let answers_x : Answers ry x.id (part_now x) answer = subst (λ b. Answers ry x.id (data_fragment (key_now x) b) answer) bytes
        (subst (λ k. Answers ry k.id (data_fragment k frame.bytes) answer) (sym key) answers) in
        let all = after_newest answer apart core from inside newest.behind answers_x in
        subst (λ k. AfterData X Y past cy n x y rx ry true false k frame.bytes answer) key
        (subst (λ b. AfterData X Y past cy n x y rx ry true false (key_now x) b answer) (sym bytes) all)

-- ---- an acknowledgement

-- the side once its waiting piece is acknowledged
abbrev pub acknowledged : Side → Side
acknowledged side = record side { acknowledged = side.acknowledged + 1 }

pub record Matched (X Y : End) (past : List PastFrame) (n : ℕ) (fx fy : Bool) (x y : Side) : Type 0 where
  pub none_fresh : fy ≡ false
  pub knows : length (said Y past) ≤ length (acked X (at n past))
  pub alone : y.acknowledged + 1 < piece_count (length y.message) → (fx ≡ false) × (Waiting x → ⊥)

module _ {X Y : End} {past : List PastFrame} {cx cy n : ℕ} {x y : Side} {rx ry : ReceiverValue} {frame : PastFrame} {older : List PastFrame} where
  -- it bears the key of the waiting piece of Y: its newest fragment was taken, and where more pieces follow X waits for nothing
  pub matched : {fx fy : Bool}
      → CoreAt X Y past cx cy x y rx ry fx fy → cx ≤ n → n ≤ length past
      → at n past ≡ frame ∷ older → IsAckOf X frame → Waiting y → key_now y ≡ frame.key → Matched X Y past n fx fy x y
  matched {fx} {fy} core from inside here is waits key =
      let newest : first (said Y past) ≡ Some frame.key = core.y_speaks.newest waits ∙ ap Some key in
      let all = pending_ack Y past fy core.there.fits core.back.follows from inside here is newest in
      let none : fy ≡ false = none_of fy core.back.follows all in
      record {
        none_fresh = none;
        knows = omega (arith, all);
        alone = λ more. (
          not_fresh fx none more (λ f. core.x_speaks.waits f) core.both,
          λ wx. elim (core.both wx waits) [
            | inl a ↦ omega (arith, a.ends)
            | inr a ↦ both_ways fy none a.is_fresh
          ],
        );
      } where
        none_of : (fy : Bool) → Follows (said Y past) (acked X past) fy → length (said Y past) ≡ length (acked X (at n past)) → fy ≡ false
        none_of false follows all = refl
        none_of true follows all = absurd (omega (arith, keys_below (ack_of X) n past, ap length follows.1))

        not_fresh : (fx : Bool) → fy ≡ false → y.acknowledged + 1 < piece_count (length y.message) → (fx ≡ true → Waiting x)
            → (Waiting x → Waiting y → Answering fx x y ⊎ Answering fy y x) → fx ≡ false
        not_fresh false none more wx both = refl
        not_fresh true none more wx both = elim (both (wx refl) waits) [
          | inl a ↦ absurd (omega (arith, a.ends))
          | inr a ↦ absurd (both_ways fy none a.is_fresh)
        ]

  -- it acknowledges the last piece: nothing waits
  pub take_last_ack : {fx fy : Bool}
      → CoreAt X Y past cx cy x y rx ry fx fy → cx ≤ n → n ≤ length past
      → at n past ≡ frame ∷ older → IsAckOf X frame → Waiting y → key_now y ≡ frame.key → y.acknowledged + 1 ≡ piece_count (length y.message)
      → CoreAt X Y past n cy x (acknowledged y) rx ry fx false
  take_last_ack {fx} core from inside here is waits key last =
      let m = matched core from inside here is waits key in
      ends (subst (λ f. CoreAt X Y past cx cy x y rx ry fx f) m.none_fresh core) from inside (omega arith)

  -- it acknowledges another piece: the next one goes
  pub take_ack : {fx fy : Bool} (course : FrameCourse)
      → Apart X Y → CoreAt X Y past cx cy x y rx ry fx fy → cx ≤ n → n ≤ length past
      → at n past ≡ frame ∷ older → IsAckOf X frame → Waiting y → key_now y ≡ frame.key → y.acknowledged + 1 < piece_count (length y.message)
      → CoreAt X Y (data_frame Y (key_now (acknowledged y)) ((part_now (acknowledged y)).bytes) course ∷ past) n cy x (acknowledged y) rx ry false true
  take_ack {fx} {fy} course apart core from inside here is waits key more =
      let m = matched core from inside here is waits key in
      let alone = m.alone more in
      go fx fy alone.0 m.none_fresh core where
        go : (fx fy : Bool) → fx ≡ false → fy ≡ false → CoreAt X Y past cx cy x y rx ry fx fy
            → CoreAt X Y (data_frame Y (key_now (acknowledged y)) ((part_now (acknowledged y)).bytes) course ∷ past) n cy x (acknowledged y) rx ry false true
        go true fy e d core = absurd cc
        go false true e d core = absurd cc
        go false false e d core =
            let m = matched core from inside here is waits key in
            let newest = core.y_speaks.newest waits in
            let new : first (said Y past) ≡ Some (key_now (acknowledged y)) → ⊥ = λ same.
            (let e : Some (key_now y) ≡ Some (key_now (acknowledged y)) = sym newest ∙ same in
            next_key_differs y.id (length y.message) y.acknowledged (let k : key_now y ≡ key_now (acknowledged y) = cc in k)) in
            turned (begins (record { there = apart.back; back = apart.there }) core.back (counts_later core.there from inside)
            m.knows core.x_speaks core.x_hears.last_is (core.x_hears.receives more)
            (record { last_is = core.y_hears.last_is; receives = core.y_hears.receives }) more new (λ wx. absurd ((m.alone more).1 wx)))

-- ---- messages

-- a message by X with this id
abbrev pub beginning : ℕ → List ℕ → Side
beginning id message = record { id = id; message = message; acknowledged = 0 }

module _ {X Y : End} {past : List PastFrame} {cx cy : ℕ} {x y : Side} {rx ry : ReceiverValue} {id : ℕ} where
  -- X, which waits for nothing and knows all that was said, begins a message that Y awaits
  pub starts : {message : List ℕ} {course : FrameCourse} → Apart X Y
      → CoreAt X Y past cx cy x y rx ry false false
      → length (said X past) ≤ length (acked Y (at cy past)) → (id ≡ x.id → ⊥) → ry.awaited ≡ Some id → ry.pieces ≡ []
      → (Waiting y → y.acknowledged + 1 ≡ piece_count (length y.message))
      → CoreAt X Y (data_frame X (key_now (beginning id message)) ((part_now (beginning id message)).bytes) course ∷ past) cx cy
      (beginning id message) y rx ry true false
  starts apart core caught other awaited none last =
      begins apart core.there core.back caught core.y_speaks core.y_hears.last_is
      (record { awaited = awaited; pieces = none }) core.x_hears (omega arith) (λ same. other (core.x_speaks.newest_id _ same)) (λ w. (refl, last w))

  -- Y, which took the whole message of X, awaits the next one
  pub expects : {fy : Bool}
      → CoreAt X Y past cx cy x y rx ry false fy → piece_count (length x.message) ≤ x.acknowledged + 1
      → CoreAt X Y past cx cy x y rx (record { awaited = Some id; pieces = []; last = ry.last }) false fy
  expects core whole = search rules

-- ---- the beginning

abbrev pub silent : Side
silent = record { id = 0; message = []; acknowledged = 1 }

nothing : {X Y : End} → Counts X Y [] false 0
nothing = search rules
