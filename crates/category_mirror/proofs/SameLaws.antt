-- What does not change stays as it was.
use Rattle.std.proofs.lemmas.Bool.Decides.{nat_tests}
use Rattle.std.proofs.lemmas.Bool.{eqb-true, or_parts}
use Rattle.std.proofs.lemmas.List.{take-append-drop}
use Rattle.std.proofs.Common.{arith, ◌≡◌, ◌∙◌, ap, refl, sym, ℕ, ◌==◌, Bool, true, false, not, List, [], ◌∷◌, ◌++◌}
use Rattle.std.proofs.Common.{drop, get_or, length, map, take}
use Rattle.std.specs.Prelude.{IsSome, Option, None, Some, filter, if◌then◌else◌}
use Rattle.pdb_values.proofs.NamedLaws.{bytes_eq-is}
use Rattle.pdb_values.specs.Databases.{DatabaseValue}
use Rattle.pdb_values.specs.declared.record.Record.{Record}
use Rattle.category_tables.specs.Tables.{TableValue}
use Rattle.category_tables.specs.Texts.{table_text}
use Rattle.category_mirror.specs.Blocks.{MergeValue, begins_with, block_bytes, merged_block, side_block}
use Rattle.category_mirror.specs.Refiled.{is_moved, is_refiled, moved_count, refiled_record, refiled_rows}

pub block_stays : (table : TableValue) (block : List ℕ) → begins_with table block ≡ true → merged_block table block ≡ block
block_stays table block begins =
    ap (λ head. head ++ drop 276 block) (sym (bytes_eq-is (take 276 block) (table_text table) begins)) ∙ take-append-drop 276 block

-- no block begins with no table
pub not_begun : (table : TableValue) → begins_with table [] ≡ false
unfolding table_text
not_begun table = refl

none_moved : (numbers : List ℕ) (item : Record) (records : List Record) (b : Bool) → is_moved numbers item ≡ b
    → length (if b then item ∷ filter (is_moved numbers) records else filter (is_moved numbers) records) ≡ 0
    → (get_or numbers item.content.category 0 ≡ item.content.category) × (length (filter (is_moved numbers) records) ≡ 0)
none_moved numbers item records true is none = absurd (omega (arith, none))
none_moved numbers item records false is none = (grind (arith, nat_tests, is), none)

pub records_stay : (numbers : List ℕ) (records : List Record) → moved_count numbers records ≡ 0 → map (refiled_record numbers) records ≡ records
records_stay numbers [] none = refl
records_stay numbers (item ∷ records) none =
    let both = none_moved numbers item records (is_moved numbers item) refl none in
    ap (λ n. record item { content = record item.content { category = n } } ∷ map (refiled_record numbers) records) both.0
    ∙ ap (λ rest. item ∷ rest) (records_stay numbers records both.1)

true_of : (b : Bool) → not b ≡ false → b ≡ true
true_of b e = grind arith

rows_by_app : (merge : MergeValue) (rows : DatabaseValue) (app : Option (List ℕ)) → rows.app ≡ app → IsSome app → begins_with merge.table (block_bytes app) ≡ true
    → moved_count merge.numbers rows.records ≡ 0 → refiled_rows merge rows ≡ rows
unfolding refiled_rows
rows_by_app merge rows None is some begins none = absurd (let no = some in cc)
rows_by_app merge rows (Some block) is some begins none =
    ap (λ (o : Option (List ℕ)). record rows { app = Some (side_block merge o); records = map (refiled_record merge.numbers) rows.records }) is
    ∙ ap (λ (b : List ℕ). record rows { app = Some b; records = map (refiled_record merge.numbers) rows.records }) (block_stays merge.table block begins)
    ∙ ap (λ (rs : List Record). record rows { app = Some block; records = rs }) (records_stay merge.numbers rows.records none)
    ∙ ap (λ (o : Option (List ℕ)). record rows { app = o }) (sym is)

-- where rows don't change no record is in another category then
pub moved_none : (merge : MergeValue) (rows : DatabaseValue) → is_refiled merge rows ≡ false → moved_count merge.numbers rows.records ≡ 0
moved_none merge rows still =
    let both = or_parts (not (begins_with merge.table (block_bytes rows.app))) (not (moved_count merge.numbers rows.records == 0)) still in
    eqb-true (moved_count merge.numbers rows.records) 0 (true_of _ both.1)

-- rows that don't change have a block
pub still_some : (merge : MergeValue) (rows : DatabaseValue) → is_refiled merge rows ≡ false → IsSome rows.app
still_some merge rows still =
    let both = or_parts (not (begins_with merge.table (block_bytes rows.app))) (not (moved_count merge.numbers rows.records == 0)) still in
    by rows.app (true_of _ both.0)
  where
    by : (app : Option (List ℕ)) → begins_with merge.table (block_bytes app) ≡ true → IsSome app
    by None begins = absurd (let no = sym begins ∙ not_begun merge.table in cc)
    by (Some block) begins = refl

pub rows_stay : (merge : MergeValue) (rows : DatabaseValue) → IsSome rows.app → is_refiled merge rows ≡ false → refiled_rows merge rows ≡ rows
rows_stay merge rows some still =
    let both = or_parts (not (begins_with merge.table (block_bytes rows.app))) (not (moved_count merge.numbers rows.records == 0)) still in
    rows_by_app merge rows rows.app refl some (true_of _ both.0) (moved_none merge rows still)
