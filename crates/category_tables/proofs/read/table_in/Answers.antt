use Rattle.std.proofs.Common.{arith, refl}
use Rattle.std.proofs.lemmas.List.{length-set}
use Rattle.category_tables.specs.Texts.{entry_in, table_in}
use Rattle.category_tables.proofs.PlaceLaws.{made_all, made_more}
use Rattle.category_tables.proofs.read.table_in.Goals as goal

pub loop-number-preserved : goal.loop-number-preserved
loop-number-preserved c = record {
  whole = simp length-set c.loop-number.invariant.whole;
  each = made_more (entry_in c.args.bytes.now) c.loop-number.entries c.loop-number.number c.entry_in.result
      (omega (arith, c.loop-number.invariant.whole)) c.entry_in.ensures c.loop-number.invariant.each;
}

pub returns : goal.returns
unfolding table_in
returns c =
    let all = made_all (entry_in c.args.bytes.now) c.loop-number.entries c.loop-number.invariant.whole (λ k d less. c.loop-number.invariant.each k d (omega arith)) in
    rw (all, c.from.ensures, c.from-2.ensures) refl
