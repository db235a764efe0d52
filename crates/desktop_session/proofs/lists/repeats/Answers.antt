-- Whether one repeats is what the test of each place finds.
use Rattle.std.proofs.Common.{◌≢◌, ◌%◌, arith, rules}
use Rattle.std.proofs.lemmas.Grind.{common_steps}
use Rattle.desktop_session.specs.Starts.{ComesTwice}
use Rattle.desktop_session.proofs.AgainLaws.{repeats_new, repeats_twice}
use Rattle.desktop_session.proofs.lists.repeats.Goals as goal

pub returns-then-is_among-clause-value : goal.returns-then-is_among-clause-value
returns-then-is_among-clause-value c =
    let parted : c.args.before % 8000 ≢ 0 = search rules in
    let twice : ComesTwice c.args.before c.args.ids.now = record {
      at = c.loop-place.place;
      behind = omega arith;
      within = omega arith;
      again = grind (arith, common_steps);
    } in
    repeats_twice c.args.before c.args.ids.now parted twice

pub returns-clause-value : goal.returns-clause-value
returns-clause-value c = repeats_new c.args.before c.args.ids.now (λ k above below. c.loop-place.invariant k above (omega arith))
