-- The newest frame that passes, and progress.
use Rattle.line_laws.proofs.Names.{rules, ◌≡◌, ◌⊎◌, ℕ, ◌+◌, ◌<◌, ◌≤◌, Bool, true, false, not, List, [], ◌∷◌, length, refl, sym, ap, ◌∙◌, arith, inl, inr}
use Rattle.line_laws.proofs.Names.{cases_Bool, cases_lt, cond-true, cond-false, Key, faulted, late_of, newest, FrameCourse, Came, Gone, Late, PastFrame, said, acked, at}
use Rattle.line_laws.proofs.Names.{IsAckOf, is_data_of, End, Handheld, Desktop, data_frame, ack_frame, DataPends, AckPends, Progress, IsHeld, IsBlocked}
use Rattle.line_laws.proofs.PastLaws.{at_all, at_push}
use Rattle.line_laws.proofs.CountLaws.{len}

-- ---- the newest that passes

pub newest_inside : (p : PastFrame → Bool) (past : List PastFrame) → newest p past ≤ length past
newest_inside p [] = omega arith
newest_inside p (frame ∷ past) = let below = newest_inside p past in elim (cases_Bool (p frame)) [
  | inl passes ↦ omega (arith, cond-true (p frame) (length past + 1) (newest p past) passes)
  | inr fails ↦ omega (arith, cond-false (p frame) (length past + 1) (newest p past) fails)
]

pub newest_push : (p : PastFrame → Bool) (frame : PastFrame) (past : List PastFrame) → newest p past ≤ newest p (frame ∷ past)
newest_push p frame past = let below = newest_inside p past in elim (cases_Bool (p frame)) [
  | inl passes ↦ omega (arith, cond-true (p frame) (length past + 1) (newest p past) passes)
  | inr fails ↦ omega (arith, cond-false (p frame) (length past + 1) (newest p past) fails)
]

pub newest_from : (p : PastFrame → Bool) (past : List PastFrame) {n : ℕ} {frame : PastFrame} {older : List PastFrame} → n ≤ length past → at n past ≡ frame ∷ older
    → p frame ≡ true → n ≤ newest p past
newest_from p [] inside here passes = omega arith
newest_from p (top ∷ past) {n} {frame} {older} inside here passes = elim (cases_lt (length past) n) [
  | inl new ↦ (let e : n ≡ length (top ∷ past) = omega arith in
      let all_of : top ∷ past ≡ frame ∷ older = sym (ap (λ k. at k (top ∷ past)) e ∙ at_all (top ∷ past)) ∙ here in
      let it : top ≡ frame = cc in
      omega (arith, cond-true (p top) (length past + 1) (newest p past) (ap p it ∙ passes)))
  | inr old ↦ (let later = newest_from p past old (sym (at_push top past old) ∙ here) passes in omega (arith, later, newest_push p top past))
]

-- ---- at a tick a fault stands above the last one

pub late_is_fault : (Z : End) (frame : PastFrame) → late_of Z frame ≡ true → faulted frame ≡ true
late_is_fault Z frame late = search rules

pub fault_at_tick : {X Y : End} {past : List PastFrame} {cx cy released : ℕ} → Progress X Y past cx cy released → IsBlocked X past cx released
    → IsBlocked Y past cy released → released < newest faulted past
fault_at_tick {X} {Y} {past} {cx} {cy} {released} progress bx by = elim bx [
  | inr held ↦ held_is X cx held
  | inl none ↦ elim by [
    | inr held ↦ held_is Y cy held
    | inl none' ↦ elim progress.cause [
      | inl fault ↦ omega (arith, progress.since, fault)
      | inr (inl pends) ↦ omega (arith, pends.from, pends.inside, none)
      | inr (inr pends) ↦ omega (arith, pends.from, pends.inside, none')
    ]
  ]
] where
  held_is : (Z : End) (c : ℕ) → IsHeld Z past c released → released < newest faulted past
  held_is Z c held = omega (arith, held.above, newest_from faulted past (omega (arith, held.inside)) held.here (late_is_fault Z held.frame held.late))

-- ---- progress over the steps

pub at_top : {frame : PastFrame} {past : List PastFrame} → at (length past + 1) (frame ∷ past) ≡ frame ∷ past
at_top = search rules

data_pends-push : {X : End} {frame : PastFrame} {past : List PastFrame} {cx : ℕ} → DataPends X past cx → said X (frame ∷ past) ≡ said X past
    → DataPends X (frame ∷ past) cx
data_pends-push {X} {frame} {past} pends same = (let e = at_push frame past pends.inside in record {
  n = pends.n;
  frame = pends.frame;
  older = pends.older;
  from = pends.from;
  inside = omega (arith, pends.inside);
  here = e ∙ pends.here;
  is = pends.is;
  comes_here = pends.comes_here;
  newest_is = ap (λ p. length (said X p)) e ∙ pends.newest_is ∙ sym (len same);
})

ack_pends-push : {X Y : End} {frame : PastFrame} {past : List PastFrame} {cy : ℕ} → AckPends X Y past cy → said X (frame ∷ past) ≡ said X past
    → AckPends X Y (frame ∷ past) cy
ack_pends-push {Y} {frame} {past} pends same = (let e = at_push frame past pends.inside in record {
  n = pends.n;
  frame = pends.frame;
  older = pends.older;
  from = pends.from;
  inside = omega (arith, pends.inside);
  here = e ∙ pends.here;
  is = pends.is;
  comes_here = pends.comes_here;
  newest_is = ap (λ p. length (acked Y p)) e ∙ pends.newest_is ∙ sym (len same);
})

-- a frame that isn't data of X
pub progress_push : {X Y : End} {frame : PastFrame} {past : List PastFrame} {cx cy released : ℕ} → Progress X Y past cx cy released → is_data_of X frame ≡ false
    → said X (frame ∷ past) ≡ said X past → Progress X Y (frame ∷ past) cx cy released
progress_push {X} {frame} {past} progress other same =
    let stays : newest (is_data_of X) (frame ∷ past) ≡ newest (is_data_of X) past = cond-false _ _ _ other in
    record {
      since = omega (arith, progress.since, stays);
      cause = elim progress.cause [
        | inl fault ↦ inl (omega (arith, fault, stays, newest_push faulted frame past))
        | inr (inl pends) ↦ inr (inl (data_pends-push pends same))
        | inr (inr pends) ↦ inr (inr (ack_pends-push pends same))
      ];
    }

pub is_data-frame : (X : End) (key : Key) (bytes : List ℕ) (course : FrameCourse) → is_data_of X (data_frame X key bytes course) ≡ true
is_data-frame Handheld key bytes course = refl
is_data-frame Desktop key bytes course = refl

is_ack-frame : (X : End) (key : Key) (course : FrameCourse) → IsAckOf X (ack_frame X key course)
is_ack-frame Handheld key course = refl
is_ack-frame Desktop key course = refl

module _ {X Y : End} {past : List PastFrame} {cx cy released : ℕ} where
  -- X sends data
  pub progress_sent : {key : Key} {bytes : List ℕ} {course : FrameCourse} → released ≤ length past
      → cx ≤ length past → Progress X Y (data_frame X key bytes course ∷ past) cx cy released
  progress_sent {key} {bytes} {course} before inside =
      let frame = data_frame X key bytes course in
      let here : newest (is_data_of X) (frame ∷ past) ≡ length past + 1 = cond-true _ _ _ (is_data-frame X key bytes course) in
      record { since = omega (arith, here, before); cause = go course here } where
        go : (course : FrameCourse) → newest (is_data_of X) (data_frame X key bytes course ∷ past) ≡ length past + 1
            → (newest (is_data_of X) (data_frame X key bytes course ∷ past) ≤ newest faulted (data_frame X key bytes course ∷ past))
            ⊎ DataPends X (data_frame X key bytes course ∷ past) cx ⊎ AckPends X Y (data_frame X key bytes course ∷ past) cy
        go Came here = inr (inl (record {
          n = length past + 1;
          frame = data_frame X key bytes Came;
          older = past;
          from = omega (arith, inside);
          inside = omega arith;
          here = at_top;
          is = is_data-frame X key bytes Came;
          comes_here = refl;
          newest_is = ap (λ p. length (said X p)) at_top;
        }))
        go Gone here = inl (omega (arith, here))
        go Late here = inl (omega (arith, here))

  -- Y acknowledges the newest fragment of X
  pub progress_acked : {key : Key} {course : FrameCourse} {c : ℕ} → Progress X Y past cx cy released
      → is_data_of X (ack_frame Y key course) ≡ false → cy ≤ length past
      → acked Y (ack_frame Y key course ∷ past) ≡ said X (ack_frame Y key course ∷ past)
      → Progress X Y (ack_frame Y key course ∷ past) c cy released
  progress_acked {key} {course} {c} progress other inside all =
      let stays : newest (is_data_of X) (ack_frame Y key course ∷ past) ≡ newest (is_data_of X) past = cond-false _ _ _ other in
      record { since = omega (arith, progress.since, stays); cause = go course stays all } where
        go : (course : FrameCourse) → newest (is_data_of X) (ack_frame Y key course ∷ past) ≡ newest (is_data_of X) past
            → acked Y (ack_frame Y key course ∷ past) ≡ said X (ack_frame Y key course ∷ past)
            → (newest (is_data_of X) (ack_frame Y key course ∷ past) ≤ newest faulted (ack_frame Y key course ∷ past))
            ⊎ DataPends X (ack_frame Y key course ∷ past) c ⊎ AckPends X Y (ack_frame Y key course ∷ past) cy
        go Came stays all = inr (inr (record {
          n = length past + 1;
          frame = ack_frame Y key Came;
          older = past;
          from = omega (arith, inside);
          inside = omega arith;
          here = at_top;
          is = is_ack-frame Y key Came;
          comes_here = refl;
          newest_is = ap (λ p. length (acked Y p)) (at_top {past = past}) ∙ len all;
        }))
        go Gone stays all = inl (omega (arith, stays, newest_inside (is_data_of X) past))
        go Late stays all = inl (omega (arith, stays, newest_inside (is_data_of X) past))

  -- a cursor moves by one frame that isn't what X waits for
  pub progress_x : Progress X Y past cx cy released
      → ((pends : DataPends X past cx) → pends.n ≡ cx + 1 → ⊥) → Progress X Y past (cx + 1) cy released
  progress_x progress not = record {
    since = progress.since;
    cause = elim progress.cause [
      | inl fault ↦ inl fault
      | inr (inl pends) ↦
          inr (inl (record {
            n = pends.n;
            frame = pends.frame;
            older = pends.older;
            from = (let apart = not pends in omega (arith, pends.from, apart));
            inside = pends.inside;
            here = pends.here;
            is = pends.is;
            comes_here = pends.comes_here;
            newest_is = pends.newest_is;
          }))
      | inr (inr pends) ↦ inr (inr pends)
    ];
  }

  pub progress_y : Progress X Y past cx cy released
      → ((pends : AckPends X Y past cy) → pends.n ≡ cy + 1 → ⊥) → Progress X Y past cx (cy + 1) released
  progress_y progress not = record {
    since = progress.since;
    cause = elim progress.cause [
      | inl fault ↦ inl fault
      | inr (inl pends) ↦ inr (inl pends)
      | inr (inr pends) ↦
          inr (inr (record {
            n = pends.n;
            frame = pends.frame;
            older = pends.older;
            from = (let apart = not pends in omega (arith, pends.from, apart));
            inside = pends.inside;
            here = pends.here;
            is = pends.is;
            comes_here = pends.comes_here;
            newest_is = pends.newest_is;
          }))
    ];
  }
