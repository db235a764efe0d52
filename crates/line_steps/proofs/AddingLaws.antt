-- What a step adds has the fates of the script.
use Rattle.line_steps.proofs.Names.{rules, Result, Ok, Err, OnOk, IfErr, ◌≡◌, ℕ, ◌+◌, List, [], ◌∷◌, ◌++◌, length, append_assoc, None, refl, sym, ap, subst, ◌∙◌, arith, inl}
use Rattle.line_steps.proofs.Names.{inr, FragmentValue, End, Frame, FateValue, fate_value, RuleValue, fate_by, Half, Wire, Halt, NoMemory, Stopped, Down, AddsFrame}
use Rattle.line_steps.proofs.Names.{AddsOne, AddsTwo, AllBy, IsFirst, StartsWith, Sends, Halts, SendsAgain}

added : {old new : List Frame} {from : End} {id : ℕ} {fragment : FragmentValue} {given : FateValue} {stop : _} → Sends old from id fragment given stop new
    → AddsFrame given old new
added sends = search rules

pub adds_of : {T : Type 0} (r : Result T Halt) {old new : List Frame} (from : End) (id : ℕ) (fragment : FragmentValue) {given : FateValue}
    → OnOk r (Sends old from id fragment given None new) → IfErr r (λ halt. Halts old from id fragment given halt new) → AddsOne given old new
adds_of (Ok x) from id fragment sends halts = inr (added sends)
adds_of (Err NoMemory) from id fragment sends halts = inl halts
adds_of (Err (Stopped stop)) from id fragment sends halts = inr (added halts)
adds_of (Err (Down end)) from id fragment sends halts = absurd halts

-- the second frame of a tick
pub adds_two : {wire new : Wire} {half later : Half} {given other : FateValue} {last : List Frame} → SendsAgain wire half given new later
    → AddsOne other new.frames.items last → AddsTwo given other wire.frames.items last
adds_two {wire} {given} sent (inl same) = inl (inr (subst (λ l. AddsFrame given wire.frames.items l) (sym same) (added sent.sends)))
adds_two {new} sent (inr more) = inr (new.frames.items, added sent.sends, more)

-- ---- of an end

first_of : {old new : List Frame} {from : End} {id : ℕ} {fragment : FragmentValue} {given : FateValue} {stop : _} → Sends old from id fragment given stop new
    → StartsWith from old new
first_of sends = record { first = sends.frame; later = []; is = sends.is; from_is = sends.from_is }

pub first_again : {wire new : Wire} {half later : Half} {given : FateValue} → SendsAgain wire half given new later
    → IsFirst half.end wire.frames.items new.frames.items
first_again sent = inr (first_of sent.sends)

-- before the second frame of a tick
pub first_two : {wire new : Wire} {half later : Half} {given other : FateValue} {last : List Frame} → SendsAgain wire half given new later
    → AddsOne other new.frames.items last → IsFirst half.end wire.frames.items last
first_two {wire} {half = half} sent (inl same) = inr (subst (λ l. StartsWith half.end wire.frames.items l) (sym same) (first_of sent.sends))
first_two {wire} sent (inr more) = inr (record {
  first = sent.sends.frame;
  later = more.frame ∷ [];
  is = more.is ∙ ap (λ l. l ++ more.frame ∷ []) sent.sends.is ∙ append_assoc wire.frames.items (sent.sends.frame ∷ []) (more.frame ∷ []);
  from_is = sent.sends.from_is;
})

-- ---- by a script

by_push : (script : List RuleValue) (number : ℕ) (old : List Frame) (frame : Frame) → AllBy script number old → frame.number ≡ number + length old
    → fate_value frame.fate ≡ fate_by script (number + length old) → AllBy script number (old ++ frame ∷ [])
by_push script number [] frame all number_is fate_is =
    let e : number + 0 ≡ number = omega arith in
    (number_is ∙ e, subst (λ n. fate_value frame.fate ≡ fate_by script n) e fate_is, tt)
by_push script number (first ∷ later) frame all number_is fate_is =
    let e : number + length (first ∷ later) ≡ number + 1 + length later = omega arith in
    (all.0, all.1, by_push script (number + 1) later frame all.2 (number_is ∙ e) (subst (λ n. fate_value frame.fate ≡ fate_by script n) e fate_is))

by_added : (script : List RuleValue) {given : FateValue} {old new : List Frame} → given ≡ fate_by script (length old + 1) → AddsFrame given old new
    → AllBy script 1 old → AllBy script 1 new
by_added script {old} is more all =
    let e : length old + 1 ≡ 1 + length old = omega arith in
    subst (λ l. AllBy script 1 l) (sym more.is) (by_push script 1 old more.frame all (more.number_is ∙ e) (more.fate_is ∙ is ∙ ap (λ n. fate_by script n) e))

pub by_one : (script : List RuleValue) {given : FateValue} {old new : List Frame} → given ≡ fate_by script (length old + 1) → AddsOne given old new
    → AllBy script 1 old → AllBy script 1 new
by_one script is (inl same) all = subst (λ l. AllBy script 1 l) (sym same) all
by_one script is (inr more) all = by_added script is more all

pub by_two : (script : List RuleValue) {given other : FateValue} {old new : List Frame} → given ≡ fate_by script (length old + 1)
    → other ≡ fate_by script (length old + 1 + 1) → AddsTwo given other old new → AllBy script 1 old → AllBy script 1 new
by_two script is next (inl one) all = by_one script is one all
by_two script {old} is next (inr two) all =
    let size : length two.0 ≡ length old + 1 = longer old two.0 (two.1.frame) two.1.is in
    by_added script (next ∙ ap (λ n. fate_by script (n + 1)) (sym size)) two.2 (by_added script is two.1 all) where
      counted : (l : List Frame) (frame : Frame) → length (l ++ frame ∷ []) ≡ length l + 1
      counted [] frame = refl
      counted (f ∷ l) frame = omega (arith, counted l frame)

      longer : (l m : List Frame) (frame : Frame) → m ≡ l ++ frame ∷ [] → length m ≡ length l + 1
      longer l m frame e = ap length e ∙ counted l frame
