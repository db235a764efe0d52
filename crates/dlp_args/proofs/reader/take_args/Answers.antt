use Rattle.std.proofs.Common.{◌≡◌, ◌∙◌, List, drop, length, sym, ap, Ok, arith}
use Rattle.std.proofs.lemmas.Bool.{eqb-true, eqb-false}
use Rattle.std.proofs.lemmas.Result.{err_from_is_err_and}
use Rattle.dlp_args.specs.Arguments.{Argument}
use Rattle.dlp_args.specs.Reading.{arguments_in}
use Rattle.dlp_args.proofs.FrontLaws.{goes_on, stops, has_more, is_all, left_all}
use Rattle.dlp_args.proofs.reader.take_args.Goals as goal

pub returns-in_err-after : goal.returns-in_err-after
returns-in_err-after c =
    let p = err_from_is_err_and c.from_residual.result c.from_residual.ensures.1 in
    rw (p.1, p.2) (sym (stops c.args.count c.loop.counter c.loop.invariant.so_far c.loop-test.true c.in_err-after.ensures.gives))

pub loop-preserved : goal.loop-preserved
loop-preserved c = record {
  near = omega (arith, c.loop.invariant.near, c.in_ok-after.ensures.shorter);
  so_far = goes_on c.args.count c.loop.counter _ _ c.loop.invariant.so_far c.loop-test.true c.in_ok-after.ensures.gives;
}

pub returns-then-not-is_empty : goal.returns-then-not-is_empty
returns-then-not-is_empty c =
    let some : length c.loop.rest.now ≡ 0 → ⊥ = eqb-false _ _ (sym c.is_empty.ensures ∙ c.if-not-is_empty.true) in
    sym (has_more c.loop.rest.now c.loop.invariant.so_far (omega (arith, c.loop-test.false)) (omega (arith, some)))

pub returns : goal.returns
returns c =
    let none : length c.loop.rest.now ≡ 0 = eqb-true _ _ (sym c.is_empty.ensures ∙ c.if-not-is_empty.false) in
    let total = is_all c.loop.rest.now c.loop.invariant.so_far (omega (arith, c.loop-test.false)) none in
    ap (λ (xs : List Argument). Ok xs) (c.of-args.ensures ∙ ap (arguments_in c.args.count) c.bytes_from-rest.ensures.bytes ∙ left_all c.args.count c.args.start
    (drop c.args.start c.args.bytes.now) total) ∙ sym total
