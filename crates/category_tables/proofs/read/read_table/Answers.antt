use Rattle.std.proofs.Common.{arith, ◌≡◌, ◌∙◌, Bool, ap, length, subst, sym, true, false}
use Rattle.std.proofs.lemmas.List.{length-map}
use Rattle.category_tables.specs.Tables.{IsTable, TableValue, entry_value, table_value}
use Rattle.category_tables.specs.Texts.{entry_in, table_in}
use Rattle.category_tables.proofs.OwnedLaws.{owned_table, table_owned}
use Rattle.category_tables.proofs.PlaceLaws.{all_ended, ended_all}
use Rattle.category_tables.proofs.read.read_table.Goals as goal
use Rattle.category_tables.proofs.read.read_table.Goals.{else-have_ends-via-then-have_ends+else-are_owned, else-have_ends-via-else-have_ends}

differ : (b : Bool) → b ≡ true → b ≡ false → ⊥
differ b is isnt = let e = sym is ∙ isnt in cc

pub returns-then-are_owned : goal.returns-then-are_owned
unfolding table_in
returns-then-are_owned c =
    let whole : length c.table_in-table.result.entries ≡ 16 = omega arith in
    let are = ap (λ (t : TableValue). t.entries) c.table_in-table.ensures in
    let table = owned_table (table_value c.table_in-table.result) (length-map c.table_in-table.result.entries entry_value ∙ whole) (c.are_owned.ensures.0 c.if-are_owned.true) in (
      record {
        long = omega arith;
        ended = ended_all (entry_in c.args.bytes.now) c.table_in-table.result.entries whole are (c.have_ends.ensures.0 c.if-have_ends.true);
        table = subst IsTable c.table_in-table.ensures table;
      },
      c.table_in-table.ensures,
    )

pub returns-else-have_ends : goal.returns-else-have_ends
unfolding table_in
returns-else-have_ends c =
    λ holds.
    let whole : length c.table_in-table.result.entries ≡ 16 = omega arith in
    let are = ap (λ (t : TableValue). t.entries) c.table_in-table.ensures in
    elim c.else-have_ends.branch [
      | else-have_ends-via-then-have_ends+else-are_owned w ↦
          let yes : w.are_owned.result ≡ true =
          w.are_owned.ensures.1 (table_owned (table_value c.table_in-table.result) (subst IsTable (sym c.table_in-table.ensures) holds.table)) in
          differ w.are_owned.result yes w.if-are_owned.false
      | else-have_ends-via-else-have_ends w ↦
          let yes : c.have_ends.result ≡ true =
          c.have_ends.ensures.1 (all_ended (entry_in c.args.bytes.now) c.table_in-table.result.entries whole are holds.ended) in
          differ c.have_ends.result yes w.if-have_ends.false
    ]
