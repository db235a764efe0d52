-- The database, or a label that finds no number.
use Rattle.std.proofs.Common.{◌∙◌, ap, subst, sym, List, Option, ℕ}
use Rattle.category_tables.specs.Likes.{AllStand, IsTableOf, database_like}
use Rattle.category_tables.specs.Merges.{MergingValue}
use Rattle.category_tables.specs.Tables.{table_value}
use Rattle.category_tables.proofs.like.file_like.Goals as goal

pub returns-then-not-all_stand-clause-fault : goal.returns-then-not-all_stand-clause-fault
returns-then-not-all_stand-clause-fault c = record {
  made = table_value c.in-Some.made;
  other = table_value c.in-Some-table_of.other;
  theirs = record {
    made_is = subst (λ (block : Option (List ℕ)). IsTableOf block (table_value c.in-Some.made)) c.app.ensures.block c.in-Some.ensures;
    other_is = c.in-Some-table_of.ensures;
  };
  lost = λ stand.
      let yes = c.all_stand.ensures.1 (subst (AllStand (table_value c.in-Some.made)) (sym c.liking-merging.ensures.merging) stand) in
      let no = sym yes ∙ c.if-not-all_stand.true in cc;
}

pub returns-clause-like : goal.returns-clause-like
returns-clause-like c = record {
  made = table_value c.in-Some.made;
  other = table_value c.in-Some-table_of.other;
  theirs = record {
    made_is = subst (λ (block : Option (List ℕ)). IsTableOf block (table_value c.in-Some.made)) c.app.ensures.block c.in-Some.ensures;
    other_is = c.in-Some-table_of.ensures;
  };
  stand = subst (AllStand (table_value c.in-Some.made)) c.liking-merging.ensures.merging (c.all_stand.ensures.0 c.if-not-all_stand.false);
  is = c.in_ok-database_like.ensures
      ∙ ap (λ (m : MergingValue). database_like c.args.database.now (table_value c.in-Some-table_of.other).entries c.args.block.now m) c.liking-merging.ensures.merging;
}
