-- The first number that nobody has.
use Rattle.std.proofs.Common.{◌≡◌, ◌∙◌, ◌+◌, ◌-◌, ◌∷◌, ℕ, List, suc, true, false, ap, sym, arith}
use Rattle.desktop_session.specs.Seats.{numbers_of}
use Rattle.session_plan.specs.Numbers.{free_from, is_taken}
use Rattle.session_plan.proofs.NumberLaws.{free-here, free-last, free-next}
use Rattle.session_plan.proofs.numbers.free_from.Goals as goal

pub returns-then-not-is_taken : goal.returns-then-not-is_taken
returns-then-not-is_taken c =
    let taken : List ℕ = c.args.user ∷ numbers_of c.args.marks.now in
    let none : is_taken taken c.loop-tried.number ≡ false = sym c.is_taken.ensures ∙ c.if-not-is_taken.true in
    sym (free-here (17 - c.loop-tried.tried) c.loop-tried.number taken none) ∙ c.loop-tried.invariant.same

pub loop-tried-preserved : goal.loop-tried-preserved
loop-tried-preserved c =
    let taken : List ℕ = c.args.user ∷ numbers_of c.args.marks.now in
    let here : is_taken taken c.loop-tried.number ≡ true = sym c.is_taken.ensures ∙ c.if-not-is_taken.false in
    let one : 17 - c.loop-tried.tried ≡ suc (17 - (c.loop-tried.tried + 1)) = omega (arith, c.loop-tried-test.true) in
    record {
      number = omega (arith, c.loop-tried.invariant.number);
      same = sym (free-next (17 - (c.loop-tried.tried + 1)) c.loop-tried.number taken here)
          ∙ ap (λ n. free_from n c.loop-tried.number taken) (sym one) ∙ c.loop-tried.invariant.same;
    }

pub returns : goal.returns
returns c =
    let taken : List ℕ = c.args.user ∷ numbers_of c.args.marks.now in
    sym (free-last (17 - c.loop-tried.tried) c.loop-tried.number taken (omega (arith, c.loop-tried-test.false))) ∙ c.loop-tried.invariant.same
