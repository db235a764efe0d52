-- What has reached an end: where a frame that passes did, the first such frame that came did, and that one by its newest late frame alone.
use Rattle.line_laws.proofs.Names.{◌≡◌, ◌⊎◌, ℕ, ◌+◌, ◌-◌, ◌<◌, ◌≤◌, Bool, true, false, ◌&&◌, List, [], ◌∷◌, length, drop, Option, Some, None, refl, sym, ap, subst, ◌∙◌}
use Rattle.line_laws.proofs.Names.{arith, inl, inr, cases_Bool, cases_lt, cond-true, cond-false, and_parts, and_from, End, PastFrame, at}
use Rattle.line_laws.proofs.Names.{late_of, newest, newest_repeat, IsHeldIn, Reaches}
use Rattle.std.proofs.Common.{◌||◌, eqb, ltb}
use Rattle.std.proofs.lemmas.Bool.{eqb-true, ltb-true, eq-eqb, lt-ltb, or_right}
use Rattle.line_laws.proofs.PastLaws.{at_all, at_push, at_at, length-at}
use Rattle.line_laws.proofs.FaultLaws.{newest_inside, newest_push, newest_from}
use Rattle.trace_check.specs.Arrivals.{first_late, is_free}
use Rattle.std.specs.Option.{option_or}
use Rattle.std.specs.Bool.{then_some}

-- ---- the newest that passes

at_none : (n : ℕ) → n ≤ 0 → at n [] ≡ []
at_none n inside = let e : 0 - n ≡ 0 = omega arith in ap (λ k. drop k []) e

pub newest_at : (q : PastFrame → Bool) (n : ℕ) (past : List PastFrame) → n ≤ length past → newest q (at n past) ≤ newest q past
newest_at q n [] inside = omega (arith, ap (newest q) (at_none n inside))
newest_at q n (top ∷ past) inside = elim (cases_lt (length past) n) [
  | inl new ↦
      let e : n ≡ length (top ∷ past) = omega arith in
      omega (arith, ap (λ k. newest q (at k (top ∷ past))) e ∙ ap (newest q) (at_all (top ∷ past)))
  | inr old ↦ omega (arith, ap (newest q) (at_push top past old), newest_at q n past old, newest_push q top past)
]

pub record IsNewest (q : PastFrame → Bool) (past : List PastFrame) : Type 0 where
  pub frame : PastFrame
  pub older : List PastFrame
  pub here : at (newest q past) past ≡ frame ∷ older
  pub passes : q frame ≡ true

newest_is : (q : PastFrame → Bool) (past : List PastFrame) → 0 < newest q past → IsNewest q past
newest_is q [] some = absurd (omega arith)
newest_is q (top ∷ past) some = elim (cases_Bool (q top)) [
  | inl so ↦
      let e : newest q (top ∷ past) ≡ length (top ∷ past) = cond-true (q top) (length past + 1) (newest q past) so ∙ omega arith in
      record { frame = top; older = past; here = ap (λ k. at k (top ∷ past)) e ∙ at_all (top ∷ past); passes = so }
  | inr not_so ↦
      let e : newest q (top ∷ past) ≡ newest q past = cond-false (q top) (length past + 1) (newest q past) not_so in
      let was = newest_is q past (omega (arith, e, some)) in
      record {
        frame = was.frame;
        older = was.older;
        here = ap (λ k. at k (top ∷ past)) e ∙ (at_push top past (newest_inside q past) ∙ was.here);
        passes = was.passes;
      }
]

-- ---- the first that passes and came

pub record IsFound (p : List PastFrame → Bool) (Y : End) (came : ℕ → Bool) (past : List PastFrame) (late : ℕ) : Type 0 where
  pub n : ℕ
  pub frame : PastFrame
  pub older : List PastFrame
  pub inside : n ≤ length past
  pub here : at n past ≡ frame ∷ older
  pub passes : p (frame ∷ older) ≡ true
  pub comes : came n ≡ true
  pub late_is : late ≡ newest (late_of Y) (frame ∷ older)

pub either : (o : Option ℕ) → (o ≡ None) ⊎ ((number : ℕ) × (o ≡ Some number))
either None = inl refl
either (Some number) = inr (number, refl)

pub or_none : (o : Option ℕ) → option_or o None ≡ o
or_none None = refl
or_none (Some number) = refl

module _ (p : List PastFrame → Bool) (Y : End) (came : ℕ → Bool) where
  pub first-older : (top : PastFrame) (past : List PastFrame) (late : ℕ) → first_late p Y came past ≡ Some late → first_late p Y came (top ∷ past) ≡ Some late
  first-older top past late is = ap (λ o. option_or o (then_some (p (top ∷ past) && came (length past + 1)) (newest (late_of Y) (top ∷ past)))) is

  pub first-none : (top : PastFrame) (past : List PastFrame) → first_late p Y came past ≡ None
      → first_late p Y came (top ∷ past) ≡ then_some (p (top ∷ past) && came (length past + 1)) (newest (late_of Y) (top ∷ past))
  first-none top past is = ap (λ o. option_or o (then_some (p (top ∷ past) && came (length past + 1)) (newest (late_of Y) (top ∷ past)))) is

  -- one that doesn't pass changes nothing
  pub first-other : (top : PastFrame) (past : List PastFrame) → p (top ∷ past) ≡ false → first_late p Y came (top ∷ past) ≡ first_late p Y came past
  first-other top past not_so =
      ap (λ b. option_or (first_late p Y came past) (then_some (b && came (length past + 1)) (newest (late_of Y) (top ∷ past)))) not_so
      ∙ or_none (first_late p Y came past)

  pub found : (past : List PastFrame) (late : ℕ) → first_late p Y came past ≡ Some late → IsFound p Y came past late
  found [] late is = absurd cc
  found (top ∷ past) late is = elim (either (first_late p Y came past)) [
    | inr older ↦
        let was = found past older.0 older.1 in
        let e : Some older.0 ≡ Some late = sym (first-older top past older.0 older.1) ∙ is in
        let same : older.0 ≡ late = cc in
        record {
          n = was.n;
          frame = was.frame;
          older = was.older;
          inside = omega (arith, was.inside);
          here = at_push top past was.inside ∙ was.here;
          passes = was.passes;
          comes = was.comes;
          late_is = sym same ∙ was.late_is;
        }
    | inl none ↦ elim (cases_Bool (p (top ∷ past) && came (length past + 1))) [
      | inl so ↦
          let e : Some (newest (late_of Y) (top ∷ past)) ≡ Some late =
          ap (λ b. then_some b (newest (late_of Y) (top ∷ past))) (sym so) ∙ (sym (first-none top past none) ∙ is) in
          let same : newest (late_of Y) (top ∷ past) ≡ late = cc in
          let parts = and_parts (p (top ∷ past)) (came (length past + 1)) so in
          let all : length past + 1 ≡ length (top ∷ past) = omega arith in
          record {
            n = length past + 1;
            frame = top;
            older = past;
            inside = omega arith;
            here = ap (λ k. at k (top ∷ past)) all ∙ at_all (top ∷ past);
            passes = parts.0;
            comes = parts.1;
            late_is = sym same;
          }
      | inr not_so ↦
          let e : None ≡ Some late = ap (λ b. then_some b (newest (late_of Y) (top ∷ past))) (sym not_so) ∙ (sym (first-none top past none) ∙ is) in
          absurd cc
    ]
  ]

  pub none_found : (past : List PastFrame) → ((late : ℕ) → IsFound p Y came past late → ⊥) → first_late p Y came past ≡ None
  none_found past none = elim (either (first_late p Y came past)) [
    | inl is ↦ is
    | inr some ↦ absurd (none some.0 (found past some.0 some.1))
  ]

  bounded : (past : List PastFrame) (late : ℕ) → first_late p Y came past ≡ Some late → late ≤ newest (late_of Y) past
  bounded past late is =
      let was = found past late is in
      let e : newest (late_of Y) (at was.n past) ≡ late = ap (newest (late_of Y)) was.here ∙ sym was.late_is in
      omega (arith, e, newest_at (late_of Y) was.n past was.inside)

  pub record IsLeast (past : List PastFrame) (limit : ℕ) : Type 0 where
    pub late : ℕ
    pub is : first_late p Y came past ≡ Some late
    pub below : late ≤ limit

  -- no frame that passes and came has an older late frame than the first
  pub least : (past : List PastFrame) {n : ℕ} {frame : PastFrame} {older : List PastFrame} → n ≤ length past → at n past ≡ frame ∷ older → p (frame ∷ older) ≡ true
      → came n ≡ true → IsLeast past (newest (late_of Y) (frame ∷ older))
  least [] {n} {frame} {older} inside here passes comes = (let e : [] ≡ frame ∷ older = sym (at_none n inside) ∙ here in absurd cc)
  least (top ∷ past) {n} {frame} {older} inside here passes comes = elim (cases_lt (length past) n) [
    | inl new ↦
        let n_is : n ≡ length (top ∷ past) = omega arith in
        let all : frame ∷ older ≡ top ∷ past = sym here ∙ (ap (λ k. at k (top ∷ past)) n_is ∙ at_all (top ∷ past)) in
        let passes_here : p (top ∷ past) ≡ true = ap p (sym all) ∙ passes in
        let number : length past + 1 ≡ n = omega arith in
        let comes_here : came (length past + 1) ≡ true = ap came number ∙ comes in
        let late_is : newest (late_of Y) (frame ∷ older) ≡ newest (late_of Y) (top ∷ past) = ap (newest (late_of Y)) all in
        elim (either (first_late p Y came past)) [
          | inr was ↦ record {
            late = was.0;
            is = first-older top past was.0 was.1;
            below = omega (arith, bounded past was.0 was.1, newest_push (late_of Y) top past, late_is);
          }
          | inl none ↦ record {
            late = newest (late_of Y) (top ∷ past);
            is = first-none top past none
                ∙ ap (λ b. then_some b (newest (late_of Y) (top ∷ past))) (and_from _ _ passes_here comes_here);
            below = omega (arith, late_is);
          }
        ]
    | inr old ↦
        let was = least past old (sym (at_push top past old) ∙ here) passes comes in
        record { late = was.late; is = first-older top past was.late was.is; below = was.below }
  ]

-- ---- held or free

pub free-lower : (repeat late limit : ℕ) → late ≤ limit → is_free repeat (Some limit) ≡ true → is_free repeat (Some late) ≡ true
free-lower repeat late limit below free = elim (cases_Bool (eqb limit 0)) [
  | inl none ↦
      let zero_is : late ≡ 0 = omega (arith, eqb-true limit 0 none) in
      ap (λ b. b || ltb late repeat) (eq-eqb late 0 zero_is)
  | inr some ↦
      let less : ltb limit repeat ≡ true = sym (ap (λ b. b || ltb limit repeat) some) ∙ free in
      let lower : ltb late repeat ≡ true = lt-ltb late repeat (omega (arith, ltb-true limit repeat less)) in
      or_right (eqb late 0) (ltb late repeat) lower
]

-- what is free isn't held
pub free-unheld : (Y : End) (past : List PastFrame) (n : ℕ) {frame : PastFrame} {older : List PastFrame} → n ≤ length past → at n past ≡ frame ∷ older
    → is_free (newest_repeat past) (Some (newest (late_of Y) (frame ∷ older))) ≡ true → IsHeldIn Y n past → ⊥
free-unheld Y past n {frame} {older} inside here free held =
    let size : length (at n past) ≡ n = length-at n past inside in
    let there : at held.late (at n past) ≡ at held.late past =
    ap (λ k. drop (k - held.late) (at n past)) size ∙ at_at past held.before inside in
    let low : held.late ≤ newest (late_of Y) (at n past) =
    newest_from (late_of Y) (at n past) (omega (arith, held.before, size)) (there ∙ held.here) held.is_late_one in
    let same : newest (late_of Y) (at n past) ≡ newest (late_of Y) (frame ∷ older) = ap (newest (late_of Y)) here in
    let lower = free-lower (newest_repeat past) held.late (newest (late_of Y) (frame ∷ older)) (omega (arith, low, same)) free in
    go lower (held.some) held.no_repeat
  where
    go : {late repeat : ℕ} → is_free repeat (Some late) ≡ true → 0 < late → repeat ≤ late → ⊥
    go {late} {repeat} free some no_repeat = elim (cases_Bool (eqb late 0)) [
      | inl none ↦ omega (arith, eqb-true late 0 none)
      | inr other ↦
          let less : ltb late repeat ≡ true = sym (ap (λ b. b || ltb late repeat) other) ∙ free in
          omega (arith, ltb-true late repeat less)
    ]

-- what isn't held is free
pub unheld-free : (Y : End) (past : List PastFrame) (n : ℕ) {frame : PastFrame} {older : List PastFrame} → n ≤ length past → at n past ≡ frame ∷ older
    → (IsHeldIn Y n past → ⊥) → is_free (newest_repeat past) (Some (newest (late_of Y) (frame ∷ older))) ≡ true
unheld-free Y past n {frame} {older} inside here free = elim (cases_lt 0 (newest (late_of Y) (frame ∷ older))) [
  | inr none ↦
      let is : newest (late_of Y) (frame ∷ older) ≡ 0 = omega (arith, none) in
      ap (λ k. is_free (newest_repeat past) (Some k)) is
  | inl some ↦ elim (cases_lt (newest (late_of Y) (frame ∷ older)) (newest_repeat past)) [
    | inl less ↦ or_right (eqb (newest (late_of Y) (frame ∷ older)) 0) _ (lt-ltb _ _ less)
    | inr no_repeat ↦
        let size : length (at n past) ≡ n = length-at n past inside in
        let same : newest (late_of Y) (at n past) ≡ newest (late_of Y) (frame ∷ older) = ap (newest (late_of Y)) here in
        let it = newest_is (late_of Y) (at n past) (omega (arith, some, same)) in
        let before : newest (late_of Y) (at n past) ≤ n = omega (arith, newest_inside (late_of Y) (at n past), size) in
        let there : at (newest (late_of Y) (at n past)) (at n past) ≡ at (newest (late_of Y) (at n past)) past =
        ap (λ k. drop (k - newest (late_of Y) (at n past)) (at n past)) size ∙ at_at past before inside in
        absurd (free (record {
          late = newest (late_of Y) (at n past);
          frame = it.frame;
          older = it.older;
          some = omega (arith, some, same);
          before = before;
          here = sym there ∙ it.here;
          is_late_one = it.passes;
          no_repeat = omega (arith, no_repeat, same);
        }))
  ]
]

-- ---- what reached an end

-- some frame that passes reached what is sent behind this past
pub record IsReached (p : List PastFrame → Bool) (came : ℕ → Bool) (past : List PastFrame) : Type 0 where
  pub n : ℕ
  pub reaches : Reaches came n past
  pub passes : p (reaches.frame ∷ reaches.older) ≡ true

module _ (p : List PastFrame → Bool) (Y : End) (came : ℕ → Bool) (past : List PastFrame) where
  pub reached-free : (n : ℕ) (reaches : Reaches came n past) → reaches.frame.from ≡ Y → p (reaches.frame ∷ reaches.older) ≡ true
      → is_free (newest_repeat past) (first_late p Y came past) ≡ true
  reached-free n reaches from passes =
      let it = least p Y came past reaches.inside reaches.here passes reaches.comes in
      let free = unheld-free Y past n reaches.inside reaches.here (λ held. reaches.free (rw from held)) in
      ap (is_free (newest_repeat past)) it.is ∙ free-lower (newest_repeat past) it.late _ it.below free

  pub free-reached : ((frame : PastFrame) (older : List PastFrame) → p (frame ∷ older) ≡ true → frame.from ≡ Y)
      → is_free (newest_repeat past) (first_late p Y came past) ≡ true → IsReached p came past
  free-reached from free = elim (either (first_late p Y came past)) [
    | inl none ↦ (let e : false ≡ true = ap (is_free (newest_repeat past)) (sym none) ∙ free in absurd cc)
    | inr some ↦
        let it = found p Y came past some.0 some.1 in
        let free_at = ap (λ k. is_free (newest_repeat past) (Some k)) (sym it.late_is) ∙ (ap (is_free (newest_repeat past)) (sym some.1) ∙ free) in
        record {
          n = it.n;
          reaches = record {
            frame = it.frame;
            older = it.older;
            inside = it.inside;
            here = it.here;
            comes = it.comes;
            free = λ held. free-unheld Y past it.n it.inside it.here free_at (subst (λ Z. IsHeldIn Z it.n past) (from it.frame it.older it.passes) held);
          };
          passes = it.passes;
        }
  ]
