-- The first id that no entry has.
use Rattle.std.proofs.Common.{◌≡◌, ◌∙◌, ◌+◌, ◌-◌, List, map, suc, true, false, ap, sym, arith}
use Rattle.category_tables.specs.Likes.{has_id, id_from}
use Rattle.category_tables.specs.Tables.{CategoryValue, entry_value}
use Rattle.category_tables.proofs.LikeLaws.{id-here, id-last, id-next}
use Rattle.category_tables.proofs.liking.new_id.Goals as goal

pub returns-then-not-has_id : goal.returns-then-not-has_id
returns-then-not-has_id c =
    let entries : List CategoryValue = map entry_value c.args.entries.now in
    let none : has_id entries c.loop-tried.id ≡ false = sym c.has_id.ensures ∙ c.if-not-has_id.true in
    sym (id-here (16 - c.loop-tried.tried) c.loop-tried.id entries none) ∙ c.loop-tried.invariant.same

pub loop-tried-preserved : goal.loop-tried-preserved
loop-tried-preserved c =
    let entries : List CategoryValue = map entry_value c.args.entries.now in
    let here : has_id entries c.loop-tried.id ≡ true = sym c.has_id.ensures ∙ c.if-not-has_id.false in
    let one : 16 - c.loop-tried.tried ≡ suc (16 - (c.loop-tried.tried + 1)) = omega (arith, c.loop-tried-test.true) in
    record {
      id = omega (arith, c.loop-tried.invariant.id);
      same = sym (id-next (16 - (c.loop-tried.tried + 1)) c.loop-tried.id entries here)
          ∙ ap (λ n. id_from n c.loop-tried.id entries) (sym one) ∙ c.loop-tried.invariant.same;
    }

pub returns : goal.returns
returns c =
    let entries : List CategoryValue = map entry_value c.args.entries.now in
    sym (id-last (16 - c.loop-tried.tried) c.loop-tried.id entries (omega (arith, c.loop-tried-test.false))) ∙ c.loop-tried.invariant.same
