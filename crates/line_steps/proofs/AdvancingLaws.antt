-- How many of its fragments were taken of an end, over each step.
use Rattle.line_steps.proofs.Names.{rules, if◌then◌else◌, ◌≡◌, ◌⊎◌, ℕ, zero, suc, ◌+◌, ◌-◌, ◌<◌, ◌≤◌, Bool, true, false, List, [], ◌∷◌, ◌++◌, length, map, refl}
use Rattle.line_steps.proofs.Names.{sym, ap, subst, ◌∙◌, arith, inl, inr, append_assoc, length-append, map-append, slice_get_within, piece_count, FragmentValue}
use Rattle.line_steps.proofs.Names.{End, Frame, FateValue, fragment_in, is_abort, past_behind, PastFrame, said, acked, at, Talk, frame_value, Side, Follows, heard}
use Rattle.line_steps.proofs.Names.{Speech, at_at, at_push, Half, Wire, Halt, NoMemory, Stopped, Down, AddsFrame, AddsOne, AddsTwo, took_count, piece_total}
use Rattle.line_steps.proofs.Names.{Advances, WhereDown, IsUp, StandsStill, FallsShort, marked, past_now, sent_of, side_of, Holds, SamePlace, Stays, Halts}
use Rattle.line_steps.proofs.Names.{HeardOf, Delivers, Talks, Turn, Underway}
use Rattle.std.specs.Prelude.{drop}
use Rattle.line_steps.proofs.FrameLaws.{behind_push, length-past}
use Rattle.line_steps.proofs.HoldsLaws.{moved}
use Rattle.line_steps.proofs.MarkingLaws.{past_marked}
use Rattle.line_steps.proofs.StoryLaws.{length-spoken}
use Rattle.line_steps.proofs.TalkedLaws.{cursor_own, x_heard_as, y_heard_as}

-- ---- a longer past

heard_push : (X : End) (frame : PastFrame) (past : List PastFrame) → length (heard X past) ≤ length (heard X (frame ∷ past))
heard_push X frame past = search rules

heard_drop : (X : End) (k : ℕ) (past : List PastFrame) → length (heard X (drop k past)) ≤ length (heard X past)
heard_drop X zero past = omega arith
heard_drop X (suc k) [] = omega arith
heard_drop X (suc k) (frame ∷ past) = omega (arith, heard_drop X k past, heard_push X frame past)

heard_later : (X : End) {m n : ℕ} (past : List PastFrame) → m ≤ n → n ≤ length past → length (heard X (at m past)) ≤ length (heard X (at n past))
heard_later X {m} {n} past le inside = omega (arith, heard_drop X (n - m) (at n past), ap (λ p. length (heard X p)) (at_at past le inside))

at_more : {n : ℕ} (more past : List PastFrame) → n ≤ length past → at n (more ++ past) ≡ at n past
at_more [] past inside = refl
at_more (frame ∷ more) past inside = at_push frame (more ++ past) (omega (arith, inside, length-append more past)) ∙ at_more more past inside

-- the frames of the one are those of the other and perhaps more
abbrev Longer : List Frame → List Frame → Type 0
Longer old new = (more : List PastFrame) × (past_now new ≡ more ++ past_now old)

longer_added : {given : FateValue} {old new : List Frame} → AddsFrame given old new → Longer old new
longer_added {old} {new} it =
    go (is_abort (fragment_in (frame_value it.frame)).kind)
    (ap past_now it.is ∙ (ap (λ fs. past_behind [] fs) (map-append frame_value old (it.frame ∷ []))
    ∙ behind_push [] (map frame_value old) (frame_value it.frame)))
  where
    go : (b : Bool) → past_now new ≡ (if b then past_now old else sent_of it.frame ∷ past_now old) → Longer old new
    go true is = ([], is)
    go false is = (sent_of it.frame ∷ [], is)

longer_one : {given : FateValue} {old new : List Frame} → AddsOne given old new → Longer old new
longer_one (inl same) = ([], ap past_now same)
longer_one (inr more) = longer_added more

longer_two : {given other : FateValue} {old new : List Frame} → AddsTwo given other old new → Longer old new
longer_two (inl one) = longer_one one
longer_two {old} (inr two) =
    let first = longer_added two.1 in
    let second = longer_added two.2 in
    (second.0 ++ first.0, second.1 ∙ (ap (λ p. second.0 ++ p) first.1 ∙ sym (append_assoc second.0 first.0 (past_now old))))

-- ---- what was taken

-- of an end whose cursor stays
pub took_same : (wire new : Wire) (half later : Half) → Longer wire.frames.items new.frames.items → half.taken ≤ length (past_now wire.frames.items)
    → SamePlace half later → took_count new later ≡ took_count wire half
took_same wire new half later longer inside same =
    ap (λ X. length (heard X (at later.taken (past_now new.frames.items)))) same.0
    ∙ (ap (λ n. length (heard half.end (at n (past_now new.frames.items)))) same.1
    ∙ (ap (λ p. length (heard half.end (at half.taken p))) longer.1 ∙ ap (λ p. length (heard half.end p))
    (at_more longer.0 (past_now wire.frames.items) inside)))

-- of one whose cursor moved
took_moved : (wire new : Wire) (half : Half) → Longer wire.frames.items new.frames.items → half.taken < length (past_now wire.frames.items)
    → took_count wire half ≤ took_count new (moved half)
took_moved wire new half longer inside =
    let past = past_now wire.frames.items in
    let e : took_count new (moved half) ≡ length (heard half.end (at (half.taken + 1) past)) =
    ap (λ p. length (heard half.end (at (half.taken + 1) p))) longer.1 ∙ ap (λ p. length (heard half.end p)) (at_more longer.0 past (omega (arith, inside))) in
    omega (arith, e, heard_later half.end {m = half.taken} {n = half.taken + 1} past (omega arith) (omega (arith, inside)))

-- ---- each step

pub advances_two : {given other : FateValue} {wire new : Wire} {x y later_x later_y : Half} → Holds wire x y
    → AddsTwo given other wire.frames.items new.frames.items → SamePlace x later_x → SamePlace y later_y → Advances wire x y new later_x later_y
advances_two {wire} {new} {x} {y} {later_x} {later_y} holds adds x_same y_same =
    let longer = longer_two adds in
    record {
      own = omega (arith, took_same wire new x later_x longer holds.line.core.there.cur_in x_same);
      other = omega (arith, took_same wire new y later_y longer holds.line.core.back.cur_in y_same);
    }

pub stands_two : {given other : FateValue} {wire : Wire} (new : Wire) {x y : Half} (later_x : Half) → Holds wire x y
    → AddsTwo given other wire.frames.items new.frames.items → SamePlace x later_x → took_count new later_x ≤ took_count wire x
stands_two {wire} new {x} later_x holds adds x_same =
    omega (arith, took_same wire new x later_x (longer_two adds) holds.line.core.there.cur_in x_same)

-- the next frame of x is taken, marked, and answered
pub advances_own : {given : FateValue} {wire new : Wire} {x y later_x later_y : Half} → Holds wire x y → Delivers x.end wire x.taken
    → AddsOne given (marked x.taken wire.frames.items) new.frames.items → later_x ≡ moved x → Stays y later_y → Advances wire x y new later_x later_y
advances_own {wire} {new} {x} {y} {later_y} holds next adds passed stays =
    let old = wire.frames.items in
    let more = longer_one adds in
    let longer : Longer wire.frames.items new.frames.items = (more.0, more.1 ∙ ap (λ p. more.0 ++ p) (past_marked [] x.taken old)) in
    subst (λ h. Advances wire x y new h later_y) (sym passed) (record {
      own = took_moved wire new x longer (omega (arith, slice_get_within old x.taken next.frame next.here, length-past old holds.go));
      other = omega (arith, took_same wire new y later_y longer holds.line.core.back.cur_in (stays.end_is, stays.taken_is));
    })

pub advances_turned : {wire : Wire} {x y : Half} {new : Wire} {later_x later_y : Half} → Advances wire x y new later_x later_y
    → Advances wire y x new later_y later_x
advances_turned it = record { own = it.other; other = it.own }

pub advances_more : {a : Wire} {ax ay : Half} {b : Wire} {bx by : Half} {c : Wire} {cx cy : Half} → Advances a ax ay b bx by → Advances b bx by c cx cy
    → Advances a ax ay c cx cy
advances_more first second = search rules

-- from where both ends skipped what doesn't come
pub advances_from : {wire : Wire} {x y x2 y2 : Half} {new : Wire} {later_x later_y : Half}
    → (took_count wire x2 ≡ took_count wire x) × (took_count wire y2 ≡ took_count wire y) → Advances wire x2 y2 new later_x later_y
    → Advances wire x y new later_x later_y
advances_from same it = search rules

-- ---- where it halted

pub halts_up : (old new : List Frame) (from : End) (id : ℕ) (fragment : FragmentValue) (given : FateValue) (halt : Halt)
    → Halts old from id fragment given halt new → IsUp halt
halts_up old new from id fragment given NoMemory it = tt
halts_up old new from id fragment given (Stopped stop) it = tt
halts_up old new from id fragment given (Down end) it = absurd it

pub up_where : (halt : Halt) (holds : Type 0) → IsUp halt → WhereDown halt holds
up_where NoMemory holds up = tt
up_where (Stopped stop) holds up = tt
up_where (Down end) holds up = absurd up

pub always_where : (halt : Halt) {holds : Type 0} → holds → WhereDown halt holds
always_where NoMemory it = tt
always_where (Stopped stop) it = tt
always_where (Down end) it = it

pub where_weaker : (halt : Halt) {a b : Type 0} → (a → b) → WhereDown halt a → WhereDown halt b
where_weaker NoMemory f it = tt
where_weaker (Stopped stop) f it = tt
where_weaker (Down end) f it = f it

-- what is taken of a message on its way isn't all
heard_short : {X Y : End} {talk : Talk} {cursor : End → ℕ} {past : List PastFrame} (cx : ℕ) {x : Side} (fx : Bool) → Speech X Y talk cursor past x
    → Follows (said X past) (acked Y past) fx → HeardOf X past cx fx x
    → (length (acked Y past) < length (said X past)) ⊎ (x.acknowledged + 1 < piece_count (length x.message))
    → length (heard X (at cx past)) < piece_total X talk
heard_short {X} {past} cx true speech follows was due = omega (arith, speech.begun, ap length was, length-spoken X past)
heard_short cx false speech follows was (inl fresh) = absurd (omega (arith, fresh, ap length follows))
heard_short {X} {past} cx false speech follows was (inr more) = omega (arith, more, speech.begun, ap length was, length-spoken X past)

underway_short : {talk : Talk} {wire : Wire} {x y : Half} → Talks talk wire x y → Underway wire x y → took_count wire x < piece_total x.end talk
underway_short {wire} {x} {y} talks on =
    heard_short x.taken talks.fx talks.talking.x_speech talks.there
    (subst (λ n. HeardOf x.end (past_now wire.frames.items) n talks.fx (side_of x)) (cursor_own x.end x.taken y.taken) talks.x_heard) on.due

pub falls_short : (halt : Halt) {talk : Talk} {wire : Wire} {x y : Half} (new : Wire) (later : Half) → Talks talk wire x y → Underway wire x y
    → later.end ≡ x.end → StandsStill halt wire x new later → FallsShort halt talk new later
falls_short halt {talk} new later talks on same still =
    let short = underway_short talks on in
    let total = ap (λ X. piece_total X talk) same in
    where_weaker halt (λ few. omega (arith, few, short, total)) still

-- where it is the turn of an end, all messages of both ends were taken
pub turn_took : {talk : Talk} {wire : Wire} {x y : Half} → Turn wire x y → Talks talk wire x y
    → (took_count wire x ≡ piece_total x.end talk) × (took_count wire y ≡ piece_total y.end talk)
turn_took {wire} {x} {y} turn talks =
    let past = past_now wire.frames.items in
    let core = turn.settled.line.core in
    let x_heard = x_heard_as wire x y false core.there.follows talks in
    let y_heard = y_heard_as wire x y false turn.settled.apart.there core.back.follows talks in (
      omega (arith, talks.talking.x_speech.begun, turn.idle, ap length x_heard, length-spoken x.end past),
      omega (arith, talks.talking.y_speech.begun, turn.last, ap length y_heard, length-spoken y.end past),
    )
