use Rattle.line_steps.proofs.Names.{◌≡◌, ◌<◌, length, ◌&&◌, Option, Some, false, refl, sym, ap, subst, ◌∙◌, arith, inr, and_from, cond-true, cond-false, Half, fate_value}
use Rattle.line_steps.proofs.Names.{Frame, ends_run, strange_bytes, tally_after}
use Rattle.line_steps.proofs.Names.{arrives, is_end, frame_value, MovesReader}
use Rattle.line_steps.proofs.FrameLaws.{length-past}
use Rattle.line_steps.proofs.HoldsLaws.{skip_step, going, has_bytes, and_none}
use Rattle.line_steps.proofs.CountingLaws.{landed_away}
use Rattle.line_steps.proofs.RecordedLaws.{skip_keeps, keeps_all}
use Rattle.line_steps.proofs.WorkLaws.{skips_less}
use Rattle.line_steps.proofs.skipping.skip_to_head.Goals.{then-is_from+else-arrives, else-is_from}
use Rattle.line_steps.proofs.skipping.skip_to_head.Goals as goal

pub loop-x-init : goal.loop-x-init
loop-x-init c = (
  (c.requires, refl, refl, omega (arith, c.requires.line.core.there.cur_in, length-past c.args.wire.now.frames.items c.requires.go)),
  omega arith,
  keeps_all,
)

pub returns-then-arrives-clause-head : goal.returns-then-arrives-clause-head
returns-then-arrives-clause-head c =
    let it = c.get-frame.ensures in
    inr (record {
      inside = omega (arith, c.loop-x-test.true, c.len.ensures.count);
      is = λ frame here. (let same : it.frame ≡ frame = some_same it.here here in
          ap (λ e. is_end e frame.from && arrives (fate_value frame.fate)) (sym (ap (λ h. h.end) c.loop-x.invariant.0.1))
          ∙ ap (λ f. is_end c.loop-x.x.end f.from && arrives (fate_value f.fate)) (sym same)
          ∙ ap (λ v. is_end c.loop-x.x.end v.from && arrives v.fate) (sym it.is)
          ∙ and_from _ _ (sym c.is_from.ensures ∙ c.if-is_from.true) (sym c.arrives.ensures ∙ c.if-arrives.true));
    })
  where
    some_same : {found : Option Frame} {x y : Frame} → found ≡ Some x → found ≡ Some y → x ≡ y
    some_same one other = cc

pub hear_harm-requires-clause-goes : goal.hear_harm-requires-clause-goes
hear_harm-requires-clause-goes c =
    let it = c.get-frame.ensures in
    ap (λ v. ends_run v.fate v.bytes) it.is ∙ (going c.loop-x.x.taken c.loop-x.invariant.0.0 it.here).goes_on

pub hear_harm-requires-clause-some : goal.hear_harm-requires-clause-some
hear_harm-requires-clause-some c =
    let it = c.get-frame.ensures in
    subst (λ v. 0 < length v.bytes) (sym it.is) (has_bytes it.frame (going c.loop-x.x.taken c.loop-x.invariant.0.0 it.here))

pub loop-x-preserved : goal.loop-x-preserved
loop-x-preserved c =
    let inside : c.loop-x.x.taken < length c.args.wire.now.frames.items = omega (arith, c.loop-x-test.true, c.len.ensures.count) in
    let it = c.get-frame.ensures in
    let frame = it.frame in
    let goes = going c.loop-x.x.taken c.loop-x.invariant.0.0 it.here in
    let from_is : is_end c.loop-x.x.end frame.from ≡ c.is_from.result = sym (c.is_from.ensures ∙ ap (λ v. is_end c.loop-x.x.end v.from) it.is) in
    let left = λ (new : Half) (read : MovesReader c.loop-x.y new). skips_less c.args.x.now c.args.y.now c.loop-x.invariant.0.0 c.loop-x.invariant.1 inside read in
    elim c.if-is_from.branch [
      | then-is_from+else-arrives w ↦ (let away : arrives (fate_value frame.fate) ≡ false =
          sym (ap (λ v. arrives v.fate) it.is) ∙ (sym w.arrives.ensures ∙ w.if-arrives.false) in
          rw w.y-is (
            skip_step c.args.x.now c.args.y.now c.loop-x.invariant.0 inside it.here (and_none _ away) w.hear_harm.ensures.read w.hear_harm.ensures.gap,
            left w.hear_harm.new.half w.hear_harm.ensures.read,
            skip_keeps c.loop-x.invariant.0.0 c.loop-x.invariant.2 it.here (and_none _ away) w.hear_harm.ensures.read
                (w.hear_harm.ensures.tally
                ∙ (ap (λ v. tally_after c.loop-x.y.reader.tally (strange_bytes v.fate v.bytes)) it.is
                ∙ (landed_away (frame_value frame) c.loop-x.y.reader.tally away (has_bytes frame goes) goes.goes_on
                ∙ sym (cond-true _ _ _ (from_is ∙ w.if-is_from.true))))),
          ))
      | else-is_from w ↦ rw w.y-is (
        skip_step c.args.x.now c.args.y.now c.loop-x.invariant.0 inside it.here
            (ap (λ b. b && arrives (fate_value frame.fate)) (from_is ∙ w.if-is_from.false)) refl c.loop-x.invariant.0.0.y_half.gap,
        left c.loop-x.y refl,
        skip_keeps c.loop-x.invariant.0.0 c.loop-x.invariant.2 it.here
            (ap (λ b. b && arrives (fate_value frame.fate)) (from_is ∙ w.if-is_from.false)) refl
            (sym (cond-false _ _ _ (from_is ∙ w.if-is_from.false))),
      )
    ]
