-- The newest repeat, one frame more at a time.
use Rattle.std.proofs.Common.{◌≡◌, ◌+◌, Bool, true, false, ◌&&◌, List, [], ◌∷◌, length, Option, Some, refl, sym, ap, ◌∙◌, arith, inl, inr}
use Rattle.std.specs.Prelude.{if◌then◌else◌}
use Rattle.std.proofs.lemmas.Bool.{cond-true, cond-false, cases_Bool}
use Rattle.padp_link.specs.declared.piece.Key.{Key}
use Rattle.trace_text.specs.declared.frame.End.{End}
use Rattle.trace_text.specs.declared.frame.End.TheVariants.{Handheld, Desktop}
use Rattle.trace_text.specs.Faults.{newest_repeat}
use Rattle.trace_text.specs.Past.{PastFrame, is_end, first, said, is_data_of, is_newest_key, is_repeat}
use Rattle.line_laws.proofs.PastLaws.{is_end-same, first_said}
use Rattle.line_laws.proofs.TraceLaws.{last_repeat-is, last_repeat-stays, last_repeat-inside}
use Rattle.trace_check.specs.Acking.{newest_of, repeats_after, IsRepeats}
use Rattle.trace_check.specs.Speaking.{is_again}
use Rattle.trace_check.specs.declared.repeats.Repeats.{Repeats}
use Rattle.trace_check.proofs.SpeakingLaws.{is_again-first}
use Rattle.trace_check.proofs.SideLaws.{said-same}

newest-after : (X : End) (frame : PastFrame) (old : Repeats)
    → newest_of X (repeats_after frame old) ≡ (if is_data_of X frame then Some frame.key else newest_of X old)
newest-after Handheld frame old = refl
newest-after Desktop frame old = refl

said-after : (X : End) (frame : PastFrame) (past : List PastFrame) (key : Option Key) → key ≡ first (said X past)
    → (if is_data_of X frame then Some frame.key else key) ≡ first (said X (frame ∷ past))
said-after X frame past key is = elim (cases_Bool (is_data_of X frame)) [
  | inl mine ↦ cond-true _ (Some frame.key) key mine ∙ sym (first_said X frame past mine)
  | inr other ↦ cond-false _ (Some frame.key) key other ∙ (is ∙ ap first (sym (said-same X frame past other)))
]

-- the frame is a repeat of no other end than its own
other-repeat : (X Y : End) (frame : PastFrame) (past : List PastFrame) → frame.from ≡ X → is_end Y X ≡ false → is_repeat Y frame past ≡ false
other-repeat X Y frame past from apart =
    ap (λ b. (b && frame.is_data) && is_newest_key frame.key (said Y past)) (ap (is_end Y) from ∙ apart)

repeat-after : (from : End) (frame : PastFrame) (past : List PastFrame) (again : Bool) → frame.from ≡ from → again ≡ is_repeat from frame past
    → (if again then length past + 1 else newest_repeat past) ≡ newest_repeat (frame ∷ past)
repeat-after Handheld frame past true from is =
    let stays = last_repeat-stays Desktop frame past (other-repeat Handheld Desktop frame past from refl) in
    let here = last_repeat-is Handheld frame past (sym is) in
    omega (arith, stays, here, last_repeat-inside Desktop past)
repeat-after Handheld frame past false from is =
    let stays = last_repeat-stays Desktop frame past (other-repeat Handheld Desktop frame past from refl) in
    let here = last_repeat-stays Handheld frame past (sym is) in
    omega (arith, stays, here)
repeat-after Desktop frame past true from is =
    let stays = last_repeat-stays Handheld frame past (other-repeat Desktop Handheld frame past from refl) in
    let here = last_repeat-is Desktop frame past (sym is) in
    omega (arith, stays, here, last_repeat-inside Handheld past)
repeat-after Desktop frame past false from is =
    let stays = last_repeat-stays Handheld frame past (other-repeat Desktop Handheld frame past from refl) in
    let here = last_repeat-stays Desktop frame past (sym is) in
    omega (arith, stays, here)

pub repeats-more : (frame : PastFrame) (past : List PastFrame) (old : Repeats) → IsRepeats past old → IsRepeats (frame ∷ past) (repeats_after frame old)
repeats-more frame past old is = record {
  key_is = λ X. newest-after X frame old ∙ said-after X frame past (newest_of X old) (is.key_is X);
  newest_is = newest_now;
  count_is = omega (arith, is.count_is);
}
  where
    again_is : (frame.is_data && is_again (newest_of frame.from old) frame.key) ≡ is_repeat frame.from frame past
    again_is =
        ap (λ b. frame.is_data && b) (ap (λ k. is_again k frame.key) (is.key_is frame.from) ∙ is_again-first frame.key (said frame.from past))
        ∙ ap (λ b. (b && frame.is_data) && is_newest_key frame.key (said frame.from past)) (sym (is_end-same frame.from))

    newest_now : (repeats_after frame old).newest ≡ newest_repeat (frame ∷ past)
    newest_now =
        ap (λ n. if frame.is_data && is_again (newest_of frame.from old) frame.key then n + 1 else old.newest) is.count_is
        ∙ (ap (λ n. if frame.is_data && is_again (newest_of frame.from old) frame.key then length past + 1 else n) is.newest_is
        ∙ repeat-after frame.from frame past (frame.is_data && is_again (newest_of frame.from old) frame.key) refl again_is)
