use Rattle.std.proofs.Common.{arith, ◌≡◌, ◌∙◌, List, ap, refl, sym, true, false}
use Rattle.std.proofs.Math.ListN.{set}
use Rattle.category_tables.specs.Tables.{CategoryValue, is_renamed, table_value}
use Rattle.category_tables.proofs.PlaceLaws.{relabelled-map}
use Rattle.category_tables.proofs.merging.Merging.join.Goals as goal
use Rattle.category_tables.proofs.merging.Merging.join.Goals.{then-is_renamed, else-is_renamed}

pub returns-after-is_renamed : goal.returns-after-is_renamed
returns-after-is_renamed c =
    elim c.if-is_renamed.branch [
      | then-is_renamed w ↦
          let renamed : is_renamed (table_value c.args.desktop.now) c.args.number ≡ true = sym c.is_renamed.ensures ∙ w.if-is_renamed.true in
          let there = rw c.in-Some.is at c.requires.there in
          rw (w.self-is, c.in-Some.is, renamed)
          (ap (λ (l : List CategoryValue). record { entries = l; places = set c.args.self.now.places c.args.number c.in-Some.place })
          (relabelled-map c.args.self.now.entries c.args.desktop.now.entries c.in-Some.place c.args.number _ _ (omega (arith, there)) (omega arith)))
      | else-is_renamed w ↦
          let renamed : is_renamed (table_value c.args.desktop.now) c.args.number ≡ false = sym c.is_renamed.ensures ∙ w.if-is_renamed.false in
          rw (w.self-is, c.in-Some.is, renamed) refl
    ]
