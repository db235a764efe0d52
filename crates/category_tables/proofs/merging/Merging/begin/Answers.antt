use Rattle.std.proofs.Common.{arith, List, ap, map, replicate}
use Rattle.std.proofs.lemmas.List.{length-set}
use Rattle.category_tables.specs.Merges.{kept_at}
use Rattle.category_tables.specs.Tables.{CategoryValue, entry_value}
use Rattle.category_tables.proofs.PlaceLaws.{made_all, made_more}
use Rattle.category_tables.proofs.merging.Merging.begin.Goals as goal

pub loop-number-preserved : goal.loop-number-preserved
loop-number-preserved c = record {
  whole = simp length-set c.loop-number.invariant.whole;
  each = made_more (kept_at (map entry_value c.args.handheld.now.entries)) c.loop-number.entries c.loop-number.number c.kept_at.result
      (omega (arith, c.loop-number.invariant.whole)) c.kept_at.ensures c.loop-number.invariant.each;
}

pub returns : goal.returns
returns c =
    let all = made_all _ c.loop-number.entries c.loop-number.invariant.whole (λ k d less. c.loop-number.invariant.each k d (omega arith)) in
    ap (λ (l : List CategoryValue). record { entries = l; places = replicate 16 0 }) all
