-- The trace of a running line is proper.
use Rattle.line_laws.proofs.Names.{rules, ◌≡◌, ℕ, suc, ◌+◌, ◌-◌, ◌<◌, ◌≤◌, Bool, true, false, ◌&&◌, leb, List, [], ◌∷◌, length, map, refl, sym, ap, subst, ◌∙◌}
use Rattle.line_laws.proofs.Names.{arith, inl, inr, slice_index_or, AllByRecursion, cases_lt, cond-false, and_parts, and_from, both_ways, le-leb, leb-true}
use Rattle.line_laws.proofs.Names.{FateValue, Untouched, Lost, Cut, Hit, Noise, Unplug, Abort, arrives, comes, RepeatsHaveFaults, course_of, sent_in}
use Rattle.line_laws.proofs.Names.{past_behind, past_of, came_in, PastFrame, at, AcksAreFor, StaysAway, ComeInOrder, SpeaksProperly, IsProper, Talk, FrameValue, End}
use Rattle.line_laws.proofs.Names.{Handheld, Desktop, came_by, data_taken, Side, CameByCursor, IsNoAbort, FrameFacts, unsaid, Speech}
use Rattle.trace_text.specs.Fates as fate
use Rattle.line_laws.proofs.PastLaws.{at_push, at_all}
use Rattle.line_laws.proofs.CameLaws.{Grows, begins-grow, acks-grow, data_that_came-taken}

-- ---- what came, by the frames and by the cursors

-- frame n came exactly where it comes and stands at or before the cursor
abbrev pub IsByCursor : (End → ℕ) → (ℕ → Bool) → List PastFrame → Type 0
IsByCursor cursor came past =
    (n : ℕ) (frame : PastFrame) (older : List PastFrame) → n ≤ length past → at n past ≡ frame ∷ older → came n ≡ (comes frame.course && leb n (cursor frame.from))

pub grows-by : (cursor : End → ℕ) {came : ℕ → Bool} (past : List PastFrame) → IsByCursor cursor came past → Grows (came_by cursor past) came past
grows-by cursor past is n inside taken = search rules

pub speaks-as : {X Y : End} {talk : Talk} {cursor : End → ℕ} {came : ℕ → Bool} {past : List PastFrame} {x : Side} → IsByCursor cursor came past
    → cursor X ≤ length past → Speech X Y talk cursor past x → SpeaksProperly X Y talk came past
speaks-as {X} {Y} {talk} {cursor} {came} {past} {x} is inside speech =
    let grows = grows-by cursor past is in
    record {
      says = record { rest = unsaid x; is = speech.says };
      ten = speech.ten;
      begins = begins-grow X Y talk past grows speech.begins;
      acked = inl (subst (AcksAreFor Y came past) (sym (data_that_came-taken cursor past is inside))
          (acks-grow Y past (data_taken X (at (cursor X) past)) grows speech.acks));
    }

comes-arrives : (given : FateValue) → arrives given ≡ comes (course_of given)
comes-arrives Untouched = refl
comes-arrives Lost = refl
comes-arrives fate.Late = refl
comes-arrives (Cut count) = refl
comes-arrives (Hit place bytes) = refl
comes-arrives (Noise bytes) = refl
comes-arrives Unplug = refl
comes-arrives Abort = refl

at-behind : {n : ℕ} (past : List PastFrame) (frames : List FrameValue) → AllByRecursion IsNoAbort frames → n ≤ length past
    → at n (past_behind past frames) ≡ at n past
at-behind past [] whole inside = refl
at-behind {n} past (frame ∷ later) whole inside =
    ap (λ p. at n (past_behind p later)) (cond-false _ _ _ whole.0)
    ∙ (at-behind (sent_in frame ∷ past) later whole.1 (omega arith) ∙ at_push (sent_in frame) past inside)

came-at : (cursor : End → ℕ) (past : List PastFrame) (frames : List FrameValue) {number : ℕ} → AllByRecursion IsNoAbort frames
    → CameByCursor number cursor frames → number ≡ length past + 1
    → {n : ℕ} {frame : PastFrame} {older : List PastFrame} → number ≤ n → n ≤ length (past_behind past frames) → at n (past_behind past frames) ≡ frame ∷ older
    → slice_index_or (map (λ f. f.came) frames) (n - number) false ≡ (comes frame.course && leb n (cursor frame.from))
came-at cursor past [] whole came next from inside here = absurd (omega arith)
came-at cursor past (first ∷ later) {number} whole came next {n} {frame} {older} from inside here =
    let step : past_behind past (first ∷ later) ≡ past_behind (sent_in first ∷ past) later = ap (λ p. past_behind p later) (cond-false _ _ _ whole.0) in
    let here_now = ap (λ p. at n p) (sym step) ∙ here in
    elim (cases_lt number n) [
      | inl behind ↦
          let index : n - number ≡ suc (n - (number + 1)) = omega (arith, behind) in
          ap (λ k. slice_index_or (map (λ f. f.came) (first ∷ later)) k false) index
          ∙ came-at cursor (sent_in first ∷ past) later whole.1 came.1 (omega (arith, next)) (omega (arith, behind))
          (omega (arith, inside, ap length step)) here_now
      | inr le ↦
          let it : n ≡ length (sent_in first ∷ past) = omega (arith, le, from, next) in
          let index : n - number ≡ 0 = omega (arith, le, from) in
          let list : sent_in first ∷ past ≡ frame ∷ older = sym (at_all (sent_in first ∷ past))
          ∙ (ap (λ k. at k (sent_in first ∷ past)) (sym it) ∙ (sym (at-behind (sent_in first ∷ past) later whole.1 (omega (arith, it))) ∙ here_now)) in
          let is : sent_in first ≡ frame = cc in
          let same : number ≡ n = omega (arith, le, from) in
          ap (λ k. slice_index_or (map (λ f. f.came) (first ∷ later)) k false) index
          ∙ (came.0 ∙ (ap (λ k. arrives first.fate && leb k (cursor first.from)) same
          ∙ (ap (λ b. b && leb n (cursor first.from)) (comes-arrives first.fate) ∙ ap (λ s. comes s.course && leb n (cursor s.from)) is)))
    ]

pub came_in-is : (cursor : End → ℕ) (frames : List FrameValue) → AllByRecursion IsNoAbort frames → CameByCursor 1 cursor frames
    → IsByCursor cursor (came_in frames) (past_of frames)
came_in-is cursor frames whole came n frame older inside here = elim (cases_lt 0 n) [
  | inl some ↦ came-at cursor [] frames whole came (omega arith) (omega (arith, some)) inside here
  | inr none ↦ absurd (let zero_is : n ≡ 0 = omega (arith, none) in
      let nothing : at 0 (past_of frames) ≡ [] = at-behind [] frames whole (omega arith) ∙ at_all [] in
      let both : frame ∷ older ≡ [] = sym here ∙ (ap (λ k. at k (past_of frames)) zero_is ∙ nothing) in cc)
]

-- ---- in order

stay-away : {X : End} (cursor : End → ℕ) {number : ℕ} (frames : List FrameValue) → CameByCursor number cursor frames → cursor X < number
    → AllByRecursion (StaysAway X) frames
stay-away cursor [] came above = tt
stay-away {X} cursor {number} (frame ∷ later) came above = (
  λ mine. came.0 ∙ out (arrives frame.fate) (leb number (cursor frame.from))
      (λ is. omega (arith, leb-true number (cursor frame.from) is, ap cursor mine, above)),
  stay-away {X = X} cursor {number = number + 1} later came.1 (omega (arith, above)),
) where
  out : (a b : Bool) → (b ≡ true → ⊥) → (a && b) ≡ false
  out false b none = refl
  out true false none = refl
  out true true none = absurd (none refl)

pub come-in-order : (cursor : End → ℕ) (number : ℕ) (frames : List FrameValue) → CameByCursor number cursor frames → ComeInOrder frames
come-in-order cursor number [] came = tt
come-in-order cursor number (frame ∷ later) came = (
  λ is. (and_parts (arrives frame.fate) _ (sym came.0 ∙ is)).0,
  λ may away. elim (cases_lt (cursor frame.from) number) [
    | inl above ↦ stay-away cursor later came.1 (omega (arith, above))
    | inr within ↦ absurd (both_ways _ away (came.0 ∙ and_from _ _ may (le-leb number (cursor frame.from) within)))
  ],
  come-in-order cursor (number + 1) later came.1,
)

-- ---- the whole

pub trace-is-proper : {script : ℕ → FateValue} {talk : Talk} {cursor : End → ℕ} {frames : List FrameValue} {past : List PastFrame} {h d : Side}
    → FrameFacts script cursor frames past → RepeatsHaveFaults past → cursor Handheld ≤ length past → cursor Desktop ≤ length past
    → Speech Handheld Desktop talk cursor past h → Speech Desktop Handheld talk cursor past d → IsProper script talk frames
trace-is-proper {talk} {cursor} {frames} {past} framed faults h_in d_in handheld desktop =
    let is : IsByCursor cursor (came_in frames) past =
    subst (λ p. IsByCursor cursor (came_in frames) p) framed.past_is (came_in-is cursor frames framed.whole framed.came) in
    record {
      numbered = framed.numbered;
      bear = framed.bear;
      come = come-in-order cursor 1 frames framed.came;
      faults = subst RepeatsHaveFaults (sym framed.past_is) faults;
      handheld = subst (λ p. SpeaksProperly Handheld Desktop talk (came_in frames) p) (sym framed.past_is) (speaks-as is h_in handheld);
      desktop = subst (λ p. SpeaksProperly Desktop Handheld talk (came_in frames) p) (sym framed.past_is) (speaks-as is d_in desktop);
    }
