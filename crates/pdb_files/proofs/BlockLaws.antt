-- Blocks: the rules on where they begin and end, and how a file is cut into them.
use Rattle.std.proofs.Common.{◌≡◌, ℕ, ◌+◌, ◌-◌, ◌≤◌, Bool, true, false, cond, List, [], ◌∷◌, length, take, drop, Some, None, refl, sym, ap}
use Rattle.std.proofs.Common.{subst, ◌∙◌, arith}
use Rattle.std.specs.Prelude.{◌||◌, slice_range}
use Rattle.std.specs.List.{AllByRecursion, concat, position_from, zip}
use Rattle.std.proofs.lemmas.Bool.{le-ltb, ltb-false}
use Rattle.std.proofs.lemmas.List.{append-nil, drop-drop, drop_at, length-append, length-drop, length-take, take_all, take_at, take-append-drop}
use Rattle.pdb_files.specs.Blocks.{begins_from, spans, blocks_in, is_misplaced, first_misplaced, is_oversized, AreInOrder, AreShort, next_begin}

-- ---- the first that passes a test

pub none_passes : {X : Type 0} (p : X → Bool) (i : ℕ) (xs : List X) → position_from p i xs ≡ None → AllByRecursion (λ x. p x ≡ false) xs
none_passes p i [] e = tt
none_passes p i (x ∷ xs) e =
    elim (p x) as (λ b. cond b (Some i) (position_from p (i + 1) xs) ≡ None → (b ≡ false) × AllByRecursion (λ x. p x ≡ false) xs) [
      | true ↦ λ e. absurd cc
      | false ↦ λ e. (refl, none_passes p (i + 1) xs e)
    ] e

pub no_first : {X : Type 0} (p : X → Bool) (i : ℕ) (xs : List X) → AllByRecursion (λ x. p x ≡ false) xs → position_from p i xs ≡ None
no_first p i [] h = refl
no_first p i (x ∷ xs) h = rw h.0 (no_first p (i + 1) xs h.1)

-- ---- in their places

neither : (a b c : Bool) → (a || b || c) ≡ false → (a ≡ false) × (b ≡ false) × (c ≡ false)
neither true b c e = absurd cc
neither false true c e = absurd cc
neither false false true e = absurd cc
neither false false false e = (refl, refl, refl)

in_order : (first end before : ℕ) (begins : List ℕ)
    → AllByRecursion (λ pair. is_misplaced first end pair ≡ false) (zip (before ∷ begins) begins) → AreInOrder before end begins
in_order first end before [] h = tt
in_order first end before (begin ∷ begins) h = grind (arith, neither, ltb-false, in_order first end begin begins h.1)

none_out : (first end before : ℕ) (begins : List ℕ)
    → first ≤ before → AreInOrder before end begins → AllByRecursion (λ pair. is_misplaced first end pair ≡ false) (zip (before ∷ begins) begins)
none_out first end before [] le h = tt
none_out first end before (begin ∷ begins) le h = grind (arith, le-ltb, none_out first end begin begins (omega (arith, h.0)) h.2)

pub in_order_from_none : (first end : ℕ) (begins : List ℕ) → first_misplaced first end begins ≡ None → AreInOrder first end begins
in_order_from_none first end begins e = in_order first end first begins (none_passes (is_misplaced first end) 0 (zip (first ∷ begins) begins) e)

pub none_from_in_order : (first end : ℕ) (begins : List ℕ) → AreInOrder first end begins → first_misplaced first end begins ≡ None
none_from_in_order first end begins h = grind (arith, no_first, none_out)

pub in_order_earlier : (first end before : ℕ) (begins : List ℕ) → first ≤ before → AreInOrder before end begins → AreInOrder first end begins
in_order_earlier first end before [] le h = tt
in_order_earlier first end before (begin ∷ begins) le h = (omega (arith, h.0), h.1, h.2)

-- ---- the spans of blocks

pub spans-cons : (begin : ℕ) (begins : List ℕ) (end : ℕ) → spans (begin ∷ begins) end ≡ (begin, next_begin begins end) ∷ spans begins end
spans-cons begin [] end = refl
spans-cons begin (next ∷ begins) end = refl

pub blocks_in-cons : (begin : ℕ) (begins bytes : List ℕ)
    → blocks_in (begin ∷ begins) bytes ≡ slice_range bytes begin (next_begin begins (length bytes)) ∷ blocks_in begins bytes
blocks_in-cons begin begins bytes = grind (arith, spans-cons)

next_within : (before end : ℕ) (begins : List ℕ)
    → AreInOrder before end begins → before ≤ end → (before ≤ next_begin begins end) × (next_begin begins end ≤ end)
next_within before end [] h le = (le, omega arith)
next_within before end (begin ∷ begins) h le = (h.0, h.1)

length-slice_range : (bytes : List ℕ) (a b : ℕ) → b ≤ length bytes → length (slice_range bytes a b) ≡ b - a
length-slice_range bytes a b le = grind (arith, length-take, length-drop)

-- blocks that aren't too large
pub blocks_short : (before : ℕ) (begins bytes : List ℕ) → AreInOrder before (length bytes) begins
    → AllByRecursion (λ span. is_oversized span ≡ false) (spans begins (length bytes)) → AreShort (blocks_in begins bytes)
blocks_short before [] bytes h short = tt
blocks_short before (begin ∷ begins) bytes h short =
    let tests : AllByRecursion (λ span. is_oversized span ≡ false) ((begin, next_begin begins (length bytes)) ∷ spans begins (length bytes)) =
    subst (AllByRecursion (λ span. is_oversized span ≡ false)) (spans-cons begin begins (length bytes)) short in
    let next = next_within begin (length bytes) begins h.2 h.1 in
    let len = length-slice_range bytes begin (next_begin begins (length bytes)) next.1 in
    let here : length (slice_range bytes begin (next_begin begins (length bytes))) ≤ 65500 = omega (arith, ltb-false _ _ tests.0) in
    subst AreShort (sym (blocks_in-cons begin begins bytes)) (here, blocks_short begin begins bytes h.2 tests.1)

pub length-blocks_in : (begins bytes : List ℕ) → length (blocks_in begins bytes) ≡ length begins
length-blocks_in [] bytes = refl
length-blocks_in (begin ∷ begins) bytes = grind (arith, blocks_in-cons, length-blocks_in begins bytes)

-- ---- a file that is cut into its blocks

pub concat-blocks_in : (before begin : ℕ) (begins bytes : List ℕ)
    → AreInOrder before (length bytes) (begin ∷ begins) → concat (blocks_in (begin ∷ begins) bytes) ≡ drop begin bytes
concat-blocks_in before begin [] bytes h = grind (arith, append-nil, take_all, length-drop)
concat-blocks_in before begin (next ∷ begins) bytes h =
    let sum : begin + (next - begin) ≡ next = omega (arith, h.2.0) in
    cc (concat-blocks_in begin next begins bytes h.2, sum, drop-drop (next - begin) begin bytes, take-append-drop (next - begin) (drop begin bytes))

pub begins_from-blocks_in : (before begin : ℕ) (begins bytes : List ℕ)
    → AreInOrder before (length bytes) (begin ∷ begins) → begins_from begin (blocks_in (begin ∷ begins) bytes) ≡ begin ∷ begins
begins_from-blocks_in before begin [] bytes h = refl
begins_from-blocks_in before begin (next ∷ begins) bytes h = grind (arith, length-slice_range, begins_from-blocks_in begin next begins bytes h.2)

-- ---- blocks that stand one behind the other

pub begins_in_order : (place end : ℕ) (blocks : List (List ℕ)) → end ≡ place + length (concat blocks) → AreInOrder place end (begins_from place blocks)
begins_in_order place end [] e = tt
begins_in_order place end (block ∷ blocks) e =
    let rest = length-append block (concat blocks) in (
      omega arith,
      omega arith,
      in_order_earlier place end
          (place + length block) (begins_from (place + length block) blocks) (omega arith) (begins_in_order (place + length block) end blocks (omega arith)),
    )

pub blocks_in-begins_from : (place : ℕ) (blocks : List (List ℕ)) (bytes : List ℕ)
    → drop place bytes ≡ concat blocks → length bytes ≡ place + length (concat blocks) → blocks_in (begins_from place blocks) bytes ≡ blocks
blocks_in-begins_from place [] bytes at e = refl
blocks_in-begins_from place (block ∷ []) bytes at e = grind (arith, take_all, length-drop, append-nil)
blocks_in-begins_from place (block ∷ next ∷ blocks) bytes at e =
    let long : place + length block - place ≡ length block = omega arith in
    let here : take (place + length block - place) (drop place bytes) ≡ block = ap (λ n. take n (drop place bytes)) long
    ∙ ap (take (length block)) at ∙ take_at block (concat (next ∷ blocks)) (length block) refl in
    let rest : drop (place + length block) bytes ≡ concat (next ∷ blocks) = sym (drop-drop (length block) place bytes)
    ∙ ap (drop (length block)) at ∙ drop_at block (concat (next ∷ blocks)) (length block) refl in
    let later = blocks_in-begins_from (place + length block) (next ∷ blocks) bytes rest (omega (arith, length-append block (concat (next ∷ blocks)))) in
    λ i. here i ∷ later i

-- short blocks aren't too large
pub none_oversized : (place end : ℕ) (blocks : List (List ℕ))
    → end ≡ place + length (concat blocks) → AreShort blocks → AllByRecursion (λ span. is_oversized span ≡ false) (spans (begins_from place blocks) end)
none_oversized place end [] e short = tt
none_oversized place end (block ∷ []) e short =
    let len = length-append block [] in
    let test : is_oversized (place, end) ≡ false = le-ltb 65500 (end - place) (omega (arith, short.0)) in
    (test, tt)
none_oversized place end (block ∷ next ∷ blocks) e short =
    grind (
      arith,
      le-ltb,
      length-append,
      none_oversized (place + length block) end (next ∷ blocks) (omega (arith, length-append block (concat (next ∷ blocks)))) short.1,
    )
