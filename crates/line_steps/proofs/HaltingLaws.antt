-- A line is down only behind ten faults.
use Rattle.line_steps.proofs.Names.{rules, Result, Ok, Err, IfErr, if◌then◌else◌, cases_lt, ◌≡◌, ℕ, ◌+◌, ◌-◌, ◌<◌, ◌≤◌, Bool, true, false, ◌&&◌, List, ◌∷◌}
use Rattle.line_steps.proofs.Names.{length, Some, refl, ◌∙◌, ap, subst, arith, inl, inr, Waits, End, FateValue, faulted, count, PastFrame, first, said, run, at}
use Rattle.line_steps.proofs.Names.{is_data_of, LineAt, IsBlocked, at_push, has_ten_faults, Half, Wire, TenFaults, IsSpent, other_end, past_now, side_of, station_of, Holds}
use Rattle.line_steps.proofs.Names.{Apart, key_now, part_now, NoAck, run_other, said_data-other, no_ack-push, Key, course_of, Handheld, Desktop, cursors}
use Rattle.line_steps.proofs.Names.{cursor_of}
use Rattle.std.specs.Prelude.{drop}
use Rattle.line_steps.proofs.StartingLaws.{waits_now}
use Rattle.line_steps.proofs.BeginningLaws.{again_frame}
use Rattle.line_steps.proofs.TurnLaws.{apart_turned, holds_turned}

pub err_weaker : {T E : Type 0} (r : Result T E) {P Q : E → Type 0} → ((e : E) → P e → Q e) → IfErr r P → IfErr r Q
err_weaker (Ok x) f p = tt
err_weaker (Err e) f p = f e p

-- where an end has spent its tries
abbrev Found : List PastFrame → Type 0
Found past = (first : ℕ) × (0 < first) × (length past < first + 53) × (10 + count faulted (at (first - 1) past) ≤ count faulted past)

found : {wire : Wire} {x y : Half} → Holds wire x y → IsBlocked x.end (past_now wire.frames.items) x.taken wire.released
    → IsBlocked y.end (past_now wire.frames.items) y.taken wire.released → Waits x.sender → x.sender.tries ≡ 10 → Found (past_now wire.frames.items)
found {wire} {x} {y} holds x_blocked y_blocked waits spent =
    let past = past_now wire.frames.items in
    let line = subst (λ t. LineAt x.end y.end past x.taken y.taken wire.released (side_of x) (side_of y) x.receiver y.receiver holds.fx holds.fy t
    y.sender.tries) spent holds.line in
    has_ten_faults x.end y.end past wire.released (station_of x holds.fx) (station_of y holds.fy) y.sender.tries line
    (waits_now holds.x_half waits) x_blocked y_blocked

ten : (past : List PastFrame) → Found past → TenFaults past
ten past it = (it.0, it.1, omega (arith, it.2), it.3)

count_grows : (b : Bool) {n : ℕ} → n ≤ (if b then n + 1 else n)
count_grows true = omega arith
count_grows false = omega arith

-- behind one frame more
ten_more : (past : List PastFrame) (frame : PastFrame) → Found past → TenFaults (frame ∷ past)
ten_more past frame it = elim (cases_lt (it.0 - 1) (length past + 1)) [
  | inl inside ↦ (let same = at_push {n = it.0 - 1} frame past (omega (arith, inside)) in
      (it.0, it.1, omega (arith, it.2), omega (arith, it.3, count_grows (faulted frame) {n = count faulted past}, ap (λ p. count faulted p) same)))
  | inr over ↦ (let none : length past - (it.0 - 1) ≡ 0 = omega (arith, over) in
      let whole : at (it.0 - 1) past ≡ past = ap (λ n. drop n past) none in
      absurd (omega (arith, it.3, ap (λ p. count faulted p) whole)))
]

-- ---- the end that has spent its tries

pub other_is : (X Y : End) → Apart X Y → Y ≡ other_end X
other_is Handheld Handheld apart = absurd (let e = apart.there in cc)
other_is Handheld Desktop apart = refl
other_is Desktop Handheld apart = refl
other_is Desktop Desktop apart = absurd (let e = apart.there in cc)

-- so far as is known of its piece
spent_by : {X Y : End} (own : ℕ) {other : ℕ} {past : List PastFrame} {key : Key} → Apart X Y → first (said X past) ≡ Some key → run X past ≡ 10
    → NoAck X Y past other key → TenFaults past → IsSpent X (cursors X own other) past
spent_by own apart newest ten_is none faults = search rules

-- the first timer
pub first_spent : {wire : Wire} {x y : Half} → Holds wire x y → IsBlocked x.end (past_now wire.frames.items) x.taken wire.released
    → IsBlocked y.end (past_now wire.frames.items) y.taken wire.released → Waits x.sender → x.sender.tries ≡ 10
    → IsSpent x.end (cursor_of x y) (past_now wire.frames.items)
first_spent {wire} {x} holds x_blocked y_blocked waits spent =
    let past = past_now wire.frames.items in
    let now = waits_now holds.x_half waits in
    spent_by x.taken holds.apart (holds.line.core.x_speaks.newest now) (holds.line.x_knows.run_is now ∙ spent) (holds.line.x_knows.none now)
    (ten past (found holds x_blocked y_blocked waits spent))

-- the second one, behind a frame of the first one
pub second_spent : {wire : Wire} {x y : Half} (given : FateValue) → Holds wire x y → IsBlocked x.end (past_now wire.frames.items) x.taken wire.released
    → IsBlocked y.end (past_now wire.frames.items) y.taken wire.released → Waits y.sender → y.sender.tries ≡ 10
    → IsSpent y.end (cursor_of y x) (again_frame x given ∷ past_now wire.frames.items)
second_spent {wire} {x} {y} given holds x_blocked y_blocked waits spent =
    let past = past_now wire.frames.items in
    let now = waits_now holds.y_half waits in
    let key = key_now (side_of x) in
    let bytes = (part_now (side_of x)).bytes in
    let sent = again_frame x given in
    let same : said y.end (again_frame x given ∷ past_now wire.frames.items) ≡ said y.end (past_now wire.frames.items) =
    said_data-other x.end y.end holds.apart.back key bytes (course_of given) past in
    let no_data : is_data_of y.end (again_frame x given) ≡ false = ap (λ b. b && true) holds.apart.back in
    spent_by y.taken (apart_turned holds.apart) (ap first same ∙ holds.line.core.y_speaks.newest now)
    (run_other y.end sent past no_data ∙ holds.line.y_knows.run_is now ∙ spent)
    (no_ack-push y.end x.end sent past (holds.line.y_knows.none now) holds.line.core.there.cur_in same)
    (ten_more past sent (found (holds_turned holds) y_blocked x_blocked waits spent))
