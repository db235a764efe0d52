-- The frames of a running line over its steps: a frame is sent, and a frame is taken off the line.
use Rattle.line_laws.proofs.Names.{rules, ◌≡◌, ℕ, zero, suc, ◌+◌, ◌<◌, ◌≤◌, Bool, true, false, ◌&&◌, leb, List, [], ◌∷◌, ◌++◌, length, refl, sym, ap, subst}
use Rattle.line_laws.proofs.Names.{◌∙◌, arith, AllByRecursion, both_ways, le-leb, lt-leb, FateValue, arrives, is_end, AreNumbered, FrameValue, End}
use Rattle.line_laws.proofs.Names.{CameByCursor, RunsOn, PassesFrame}

-- ---- a frame is sent

pub all-push : (P : FrameValue → Type 0) (frames : List FrameValue) {frame : FrameValue} → AllByRecursion P frames → P frame
    → AllByRecursion P (frames ++ frame ∷ [])
all-push P [] all is = (is, tt)
all-push P (first ∷ later) all is = (all.0, all-push P later all.1 is)

pub numbered-push : (number : ℕ) (script : ℕ → FateValue) (frames : List FrameValue) (frame : FrameValue) → AllByRecursion RunsOn frames
    → AreNumbered number script frames → frame.number ≡ number + length frames → frame.fate ≡ script frame.number
    → AreNumbered number script (frames ++ frame ∷ [])
numbered-push number script [] frame runs was is given = let same : frame.number ≡ number = omega (arith, is) in (same, given ∙ ap script same, λ e. refl, tt)
numbered-push number script (first ∷ later) frame runs was is given =
    (was.0, was.1, λ e. absurd (both_ways _ runs.0 e), numbered-push (number + 1) script later frame runs.1 was.3 (omega (arith, is)) given)

none_yet : (a : Bool) {b : Bool} → b ≡ false → false ≡ (a && b)
none_yet false e = refl
none_yet true e = sym e

pub came-push-one : (number : ℕ) (cursor : End → ℕ) (frames : List FrameValue) (frame : FrameValue) → CameByCursor number cursor frames
    → frame.came ≡ false → cursor frame.from < number + length frames → CameByCursor number cursor (frames ++ frame ∷ [])
came-push-one number cursor [] frame was away above = (away ∙ none_yet (arrives frame.fate) (lt-leb _ _ (omega (arith, above))), tt)
came-push-one number cursor (first ∷ later) frame was away above = (was.0, came-push-one (number + 1) cursor later frame was.1 away (omega (arith, above)))

-- ---- a frame is taken off the line

-- where the cursors differ at no frame of these
pub came-same : {number : ℕ} (cursor later : End → ℕ) (frames : List FrameValue) → ((Z : End) (n : ℕ) → number ≤ n → leb n (later Z) ≡ leb n (cursor Z))
    → CameByCursor number cursor frames → CameByCursor number later frames
came-same cursor later [] same was = tt
came-same {number} cursor later (frame ∷ frames) same was = (
  was.0 ∙ ap (λ b. arrives frame.fate && b) (sym (same frame.from number (omega arith))),
  came-same {number = number + 1} cursor later frames (λ Z n le. same Z n (omega (arith, le))) was.1,
)

-- the cursor of X alone moves
abbrev pub OthersStay : End → (End → ℕ) → (End → ℕ) → Type 0
OthersStay X cursor later = (Z : End) → is_end X Z ≡ false → later Z ≡ cursor Z

pub same-leb : (X : End) {cursor later : End → ℕ} (n : ℕ) → OthersStay X cursor later → leb n (later X) ≡ leb n (cursor X) → (Z : End)
    → leb n (later Z) ≡ leb n (cursor Z)
same-leb X n others mine Z = search rules

-- behind both cursors, and before them
pub leb-above : {n a b : ℕ} → a < n → b < n → leb n a ≡ leb n b
leb-above x y = search rules

pub leb-below : {n a b : ℕ} → n ≤ a → n ≤ b → leb n a ≡ leb n b
leb-below {n} {a} {b} x y = le-leb n a x ∙ sym (le-leb n b y)

and_true : (b : Bool) → b ≡ (b && true)
and_true true = refl
and_true false = refl

pub came-takes : (number : ℕ) {X : End} {cursor later : End → ℕ} (place : ℕ) (frames after : List FrameValue) → OthersStay X cursor later
    → cursor X + 1 ≡ number + place → later X ≡ number + place → PassesFrame X place frames after → CameByCursor number cursor frames
    → CameByCursor number later after
came-takes number place [] after others at_it next passes was = absurd passes
came-takes number {X} {cursor} {later} zero (frame ∷ frames) after others at_it next passes was =
    let here : arrives frame.fate ≡ (arrives frame.fate && leb number (later frame.from)) =
    and_true (arrives frame.fate) ∙ ap (λ b. arrives frame.fate && b) (sym (le-leb number (later frame.from) (omega (arith, next, ap later passes.0)))) in
    subst (CameByCursor number later) (sym passes.1)
    (here, came-same cursor later frames (λ Z n le. same-leb X n others (leb-above (omega (arith, le, next)) (omega (arith, le, at_it))) Z) was.1)
came-takes number {X} {later} (suc place) (frame ∷ frames) after others at_it next passes was =
    let here = same-leb X number others (leb-below (omega (arith, next)) (omega (arith, at_it))) frame.from in
    subst (CameByCursor number later) (sym passes.1) (
      was.0 ∙ ap (λ b. arrives frame.fate && b) (sym here),
      came-takes (number + 1) place frames passes.0 others (omega (arith, at_it))
          (omega (arith, next)) passes.2 was.1,
    )
