-- What came by the cursors: it stays so over pushes and moves, and the rules of a proper trace that speak of it stay with it.
use Rattle.line_laws.proofs.Names.{rules, ◌≡◌, ℕ, ◌+◌, ◌<◌, ◌≤◌, Bool, true, false, cond, ◌&&◌, leb, List, [], ◌∷◌, length, Some, None, refl, sym, ap, subst}
use Rattle.line_laws.proofs.Names.{◌∙◌, arith, inl, inr, MatchBool, cases_lt, cond-true, cond-false, and_parts, and_from, le-leb, leb-true, comes, data_comes}
use Rattle.line_laws.proofs.Names.{IsHeldIn, PastFrame, is_end, at, is_data_of, run, Reaches, IsKnown, IfAnswers, BeginInTurn, AtMostTen, NumberedFrame, data_that_came}
use Rattle.line_laws.proofs.Names.{is_ack_of, AcksAreFor, Talk, answered_by, End, Handheld, Desktop, is_taken, came_by, data_taken, AcksMatch}
use Rattle.line_laws.proofs.PastLaws.{at_push, at_all, length-at}

-- what came by one reckoning came by the other
abbrev pub Grows : (ℕ → Bool) → (ℕ → Bool) → List PastFrame → Type 0
Grows came later past = (n : ℕ) → n ≤ length past → came n ≡ true → later n ≡ true

pub came-push : (cursor : End → ℕ) (frame : PastFrame) (past : List PastFrame) → Grows (came_by cursor past) (came_by cursor (frame ∷ past)) past
came-push cursor frame past n inside came = search rules

taken-moves : {cursor later : End → ℕ} → ((Z : End) → cursor Z ≤ later Z) → (n : ℕ) (past : List PastFrame) → is_taken cursor n past ≡ true
    → is_taken later n past ≡ true
taken-moves more n [] is = is
taken-moves more n (frame ∷ older) is =
    let parts = and_parts (comes frame.course) _ is in
    and_from _ _ parts.0 (le-leb _ _ (omega (arith, leb-true _ _ parts.1, more frame.from)))

pub came-moves : {cursor later : End → ℕ} (past : List PastFrame) → ((Z : End) → cursor Z ≤ later Z) → Grows (came_by cursor past) (came_by later past) past
came-moves past more n inside came = taken-moves more n (at n past) came

-- ---- the rules stay

unfoldable pub reaches-grows : (came later : ℕ → Bool) (n : ℕ) (past : List PastFrame) → Grows came later past → Reaches came n past → Reaches later n past
reaches-grows came later n past more was =
    record { frame = was.frame; older = was.older; inside = was.inside; here = was.here; comes = more n was.inside was.comes; free = was.free }

pub known-grows : {X Y : End} {talk : Talk} {came later : ℕ → Bool} {past : List PastFrame} → Grows came later past → IsKnown X Y talk came past
    → IsKnown X Y talk later past
unfolding reaches-grows
known-grows {came} {later} {past} more was = record { n = was.n; reaches = reaches-grows came later was.n past more was.reaches; cause = was.cause }

pub answers-grow : (turn : _) (talk : Talk) {came later : ℕ → Bool} (past : List PastFrame) → Grows came later past → IfAnswers turn talk came past
    → IfAnswers turn talk later past
unfolding reaches-grows
answers-grow None talk past more was = tt
answers-grow (Some turn) talk {came} {later} past more was =
    record { n = was.n; reaches = reaches-grows came later was.n past more was.reaches; there = was.there; bears = was.bears }

pub begins-grow : (X Y : End) (talk : Talk) {came later : ℕ → Bool} (past : List PastFrame) → Grows came later past → BeginInTurn X Y talk came past
    → BeginInTurn X Y talk later past
begins-grow X Y talk [] more was = tt
begins-grow X Y talk {came} {later} (frame ∷ past) more was =
    let inside : Grows came later past = λ n le is. more n (omega arith) is in (
      λ is new. let rules = was.0 is new in (
        λ some. known-grows inside (rules.0 some),
        λ number less begins. answers-grow (answered_by X number) talk past inside (rules.1 number less begins),
      ),
      begins-grow X Y talk past inside was.1,
    )

pub acks-grow : (Y : End) {came later : ℕ → Bool} (past : List PastFrame) (answered : List NumberedFrame) → Grows came later past
    → AcksAreFor Y came past answered → AcksAreFor Y later past answered
acks-grow Y [] answered more was = was
acks-grow Y {came} {later} (frame ∷ past) answered more was =
    go (is_ack_of Y frame) (λ n le is. more n (omega arith) is) (λ list. acks-grow Y {came = came} past list) was
  where
    go : (b : Bool) → Grows came later past → ((list : List NumberedFrame) → Grows came later past → AcksAreFor Y came past list → AcksAreFor Y later past list)
        → MatchBool b ((data_frame : NumberedFrame) × (older : List NumberedFrame) × (answered ≡ data_frame ∷ older) × (data_frame.key ≡ frame.key)
        × Reaches came data_frame.number past × AcksAreFor Y came past older) (AcksAreFor Y came past answered)
        → MatchBool b ((data_frame : NumberedFrame) × (older : List NumberedFrame) × (answered ≡ data_frame ∷ older) × (data_frame.key ≡ frame.key)
        × Reaches later data_frame.number past × AcksAreFor Y later past older) (AcksAreFor Y later past answered)
    go true inside all was = (was.0, was.1, was.2, was.3, reaches-grows came later was.0.number past inside was.4, all was.1 inside was.5)
    go false inside all was = all answered inside was

-- ---- acknowledgements over the steps

-- a frame that is no acknowledgement by Y
pub match-push : {X : End} (Y : End) (cursor : End → ℕ) (frame : PastFrame) (past : List PastFrame) → cursor X ≤ length past → is_ack_of Y frame ≡ false
    → AcksMatch X Y cursor past → AcksMatch X Y cursor (frame ∷ past)
match-push {X} Y cursor frame past inside other was =
    let stays = acks-grow Y past (data_taken X (at (cursor X) past)) (came-push cursor frame past) was in
    let same : data_taken X (at (cursor X) past) ≡ data_taken X (at (cursor X) (frame ∷ past)) = ap (data_taken X) (sym (at_push frame past inside)) in
    subst (AcksAreFor Y (came_by cursor (frame ∷ past)) (frame ∷ past)) same
    (subst (λ b. MatchBool b ((data_frame : NumberedFrame) × (older : List NumberedFrame) × (data_taken X (at (cursor X) past) ≡ data_frame ∷ older)
    × (data_frame.key ≡ frame.key) × Reaches (came_by cursor (frame ∷ past)) data_frame.number past × AcksAreFor Y (came_by cursor (frame ∷ past)) past older)
    (AcksAreFor Y (came_by cursor (frame ∷ past)) past (data_taken X (at (cursor X) past)))) (sym other) stays)

-- a cursor moves, and no data of X comes by it
pub match-moves : (X Y : End) {cursor later : End → ℕ} (past : List PastFrame) → ((Z : End) → cursor Z ≤ later Z)
    → data_taken X (at (later X) past) ≡ data_taken X (at (cursor X) past) → AcksMatch X Y cursor past → AcksMatch X Y later past
match-moves X Y {cursor} {later} past more same was =
    subst (AcksAreFor Y (came_by later past) past) (sym same) (acks-grow Y past (data_taken X (at (cursor X) past)) (came-moves past more) was)

pub taken-passed : (X : End) (past : List PastFrame) (cx : ℕ) {frame : PastFrame} → at (cx + 1) past ≡ frame ∷ at cx past → data_comes X frame ≡ false
    → data_taken X (at (cx + 1) past) ≡ data_taken X (at cx past)
taken-passed X past cx here other = cc

-- data of X is taken and acknowledged
pub match-taken : {X : End} (Y : End) {cursor later : End → ℕ} (ack : PastFrame) {past : List PastFrame} {cx : ℕ} {frame : PastFrame} → ((Z : End) → cursor Z ≤ later Z)
    → cursor X ≡ cx → later X ≡ cx + 1 → cx < length past
    → at (cx + 1) past ≡ frame ∷ at cx past → data_comes X frame ≡ true → frame.from ≡ X → is_ack_of Y ack ≡ true → ack.key ≡ frame.key
    → (IsHeldIn X (cx + 1) past → ⊥) → AcksMatch X Y cursor past → AcksMatch X Y later (ack ∷ past)
match-taken {X} Y {cursor} {later} ack {past} {cx} {frame} more is_cx is_later inside here comes_here mine is_ack key free was =
    let now = came_by later (ack ∷ past) in
    let grows : Grows (came_by cursor past) now past = λ n le is. came-push later ack past n le (came-moves past more n le is) in
    let before : AcksAreFor Y now past (data_taken X (at cx past)) =
    subst (λ k. AcksAreFor Y now past (data_taken X (at k past))) is_cx (acks-grow Y past (data_taken X (at (cursor X) past)) grows was) in
    let at_it : at (cx + 1) (ack ∷ past) ≡ frame ∷ at cx past = at_push ack past (omega arith) ∙ here in
    let le : cx + 1 ≤ later frame.from = omega (arith, is_later, ap later mine) in
    let came : now (cx + 1) ≡ true = ap (is_taken later (cx + 1)) at_it ∙ and_from _ _ ((and_parts (is_data_of X frame) _ comes_here).1) (le-leb _ _ le) in
    let number : length (at cx past) + 1 ≡ cx + 1 = omega (arith, length-at cx past (omega arith)) in
    let all : data_taken X (at (later X) (ack ∷ past)) ≡ record { number = cx + 1; key = frame.key } ∷ data_taken X (at cx past) =
    ap (λ k. data_taken X (at k (ack ∷ past))) is_later ∙ (ap (data_taken X) at_it ∙ (cond-true _ _ _ comes_here
    ∙ ap (λ k. let it : NumberedFrame = record { number = k; key = frame.key } in it ∷ data_taken X (at cx past)) number)) in
    let reaches : Reaches now (cx + 1) past =
    record {
      frame = frame;
      older = at cx past;
      inside = omega arith;
      here = here;
      comes = came;
      free = λ held. free (subst (λ Z. IsHeldIn Z (cx + 1) past) mine held);
    } in
    subst (λ b. MatchBool b ((data_frame : NumberedFrame) × (older : List NumberedFrame) × (data_taken X (at (later X) (ack ∷ past)) ≡ data_frame ∷ older)
    × (data_frame.key ≡ ack.key) × Reaches now data_frame.number past × AcksAreFor Y now past older)
    (AcksAreFor Y now past (data_taken X (at (later X) (ack ∷ past))))) (sym is_ack)
    (record { number = cx + 1; key = frame.key }, data_taken X (at cx past), all, sym key, reaches, before)

-- ---- the data that came by the cursors

pub leaves : {X : End} (cursor : End → ℕ) (frame : PastFrame) {n : ℕ} → frame.from ≡ X → cursor X < n → (comes frame.course && leb n (cursor frame.from)) ≡ false
leaves cursor frame mine above = search rules

pub stays_in : {X : End} (cursor : End → ℕ) (frame : PastFrame) {n : ℕ} → frame.from ≡ X → n ≤ cursor X
    → (comes frame.course && leb n (cursor frame.from)) ≡ comes frame.course
stays_in cursor frame mine within = search rules

pub same_end : (X Z : End) → is_end X Z ≡ true → Z ≡ X
same_end Handheld Handheld is = refl
same_end Handheld Desktop is = absurd cc
same_end Desktop Handheld is = absurd cc
same_end Desktop Desktop is = refl

-- in a past that ends at or before the cursor
came-within : (X : End) (cursor : End → ℕ) (came : ℕ → Bool) (past : List PastFrame)
    → ((n : ℕ) (frame : PastFrame) (older : List PastFrame) → n ≤ length past → at n past ≡ frame ∷ older → came n ≡ (comes frame.course && leb n (cursor frame.from)))
    → length past ≤ cursor X → data_that_came X came past ≡ data_taken X past
came-within X cursor came [] is inside = refl
came-within X cursor came (frame ∷ past) is inside =
    let number : length past + 1 ≡ length (frame ∷ past) = omega arith in
    let here : came (length past + 1) ≡ (comes frame.course && leb (length past + 1) (cursor frame.from)) =
    is (length past + 1) frame past (omega arith) (ap (λ k. at k (frame ∷ past)) number ∙ at_all (frame ∷ past)) in
    let later =
    came-within X cursor came past (λ n found older le there. is n found older (omega arith) (at_push {n = n} frame past le ∙ there)) (omega arith) in
    go (is_end X frame.from) refl here later
  where
    go : (b : Bool) → is_end X frame.from ≡ b → came (length past + 1) ≡ (comes frame.course && leb (length past + 1) (cursor frame.from))
        → data_that_came X came past ≡ data_taken X past → data_that_came X came (frame ∷ past) ≡ data_taken X (frame ∷ past)
    go true mine here later =
        let came_is : came (length past + 1) ≡ comes frame.course =
        here ∙ stays_in {X = X} cursor frame {n = length past + 1} (same_end X frame.from mine) (omega arith) in
        ap (λ b. cond (is_data_of X frame && b) (record { number = length past + 1; key = frame.key } ∷ data_that_came X came past)
        (data_that_came X came past)) came_is
        ∙ ap (λ list. cond (data_comes X frame) (record { number = length past + 1; key = frame.key } ∷ list) list) later
    go false other here later = ap (λ b. cond ((b && frame.is_data) && came (length past + 1))
        (record { number = length past + 1; key = frame.key } ∷ data_that_came X came past) (data_that_came X came past)) other
        ∙ (later ∙ ap (λ b. cond ((b && frame.is_data) && comes frame.course) (record { number = length past + 1; key = frame.key } ∷ data_taken X past)
        (data_taken X past)) (sym other))

-- frame n of a past came exactly where it comes and stands at or before its cursor
came_is : (cursor : End → ℕ) (past : List PastFrame) (n : ℕ) {frame : PastFrame} {older : List PastFrame} → at n past ≡ frame ∷ older
    → came_by cursor past n ≡ (comes frame.course && leb n (cursor frame.from))
came_is cursor past n here = ap (is_taken cursor n) here

pub and_none : (b : Bool) → (b && false) ≡ false
and_none true = refl
and_none false = refl

-- the data that came by the cursors is what was taken
pub data_that_came-taken : {X : End} (cursor : End → ℕ) {came : ℕ → Bool} (past : List PastFrame)
    → ((n : ℕ) (frame : PastFrame) (older : List PastFrame) → n ≤ length past → at n past ≡ frame ∷ older → came n ≡ (comes frame.course && leb n (cursor frame.from)))
    → cursor X ≤ length past → data_that_came X came past ≡ data_taken X (at (cursor X) past)
data_that_came-taken {X} cursor {came} [] is inside =
    came-within X cursor came [] is (omega arith) ∙ ap (data_taken X) (sym (ap (λ k. at k []) (none (cursor X) inside) ∙ at_all []))
  where
    none : (k : ℕ) → k ≤ 0 → k ≡ 0
    none k le = omega arith
data_that_came-taken {X} cursor {came} (frame ∷ past) is inside = elim (cases_lt (length past) (cursor X)) [
  | inl whole ↦ let end : cursor X ≡ length (frame ∷ past) = omega arith in
      came-within X cursor came (frame ∷ past) is (omega arith) ∙ ap (data_taken X) (sym (ap (λ k. at k (frame ∷ past)) end ∙ at_all (frame ∷ past)))
  | inr below ↦
      let number : length past + 1 ≡ length (frame ∷ past) = omega arith in
      let here = is (length past + 1) frame past (omega arith) (ap (λ k. at k (frame ∷ past)) number ∙ at_all (frame ∷ past)) in
      let later = data_that_came-taken cursor past (λ n found older le there. is n found older (omega arith) (at_push frame past le ∙ there)) (omega arith) in
      let out : (is_data_of X frame && came (length past + 1)) ≡ false = skip (is_end X frame.from) refl here (omega arith) in
      cond-false _ _ _ out ∙ (later ∙ ap (data_taken X) (sym (at_push frame past (omega arith))))
] where
  skip : (b : Bool) → is_end X frame.from ≡ b → came (length past + 1) ≡ (comes frame.course && leb (length past + 1) (cursor frame.from))
      → cursor X < length past + 1 → (is_data_of X frame && came (length past + 1)) ≡ false
  skip true mine here above = ap (λ b. is_data_of X frame && b) (here ∙ leaves cursor frame (same_end X frame.from mine) above) ∙ and_none (is_data_of X frame)
  skip false other here above = ap (λ b. (b && frame.is_data) && came (length past + 1)) other

pub data_that_came-by : {X : End} (cursor : End → ℕ) (past : List PastFrame) → cursor X ≤ length past
    → data_that_came X (came_by cursor past) past ≡ data_taken X (at (cursor X) past)
data_that_came-by cursor past inside = data_that_came-taken cursor past (λ n frame older le here. came_is cursor past n here) inside

-- ---- at most ten in a row

pub ten-run : (X : End) (past : List PastFrame) → AtMostTen X past → run X past ≤ 10
ten-run X [] ten = omega arith
ten-run X (frame ∷ past) ten = ten.0
