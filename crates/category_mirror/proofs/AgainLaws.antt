-- A session that stopped, and one behind it, leave what one alone leaves.
use Rattle.std.proofs.Math.Seq.{drop-append_seam, take-append_seam}
use Rattle.std.proofs.Common.{arith, inl, inr, ◌⊎◌, ◌≡◌, ◌∙◌, ap, refl, sym, subst, ℕ, ◌<◌, ◌==◌, Bool, true, false, not, List, [], ◌∷◌, ◌++◌}
use Rattle.std.proofs.Common.{drop, get_or, length, map, take}
use Rattle.std.specs.Str.{bytes_eq}
use Rattle.pdb_values.proofs.NamedLaws.{bytes_eq-own}
use Rattle.std.proofs.lemmas.Bool.Decides.{nat_tests}
use Rattle.std.specs.Prelude.{Option, None, Some}
use Rattle.pdb_values.specs.Databases.{DatabaseValue}
use Rattle.pdb_values.specs.declared.record.Record.{Record}
use Rattle.category_tables.specs.Merges.{merged_table, places_of}
use Rattle.category_tables.specs.Tables.{IsTable, TableValue}
use Rattle.category_tables.specs.Texts.{table_in, table_text}
use Rattle.category_tables.proofs.MergedLaws.{merged_again, merged_is_merged, merged_is_table, own_same, own_stays, places_used, self_again}
use Rattle.category_tables.proofs.TextLaws.{table-read, text_holds}
use Rattle.category_mirror.specs.Blocks.{MergeValue, begins_with, block_bytes, block_table, blocks_merge, desktop_block, handheld_block, head_table, holds_table, merged_block, rest_for, side_block, tables_merge, written_block}
use Rattle.category_mirror.specs.Filings.{AreOfCategories, block_by, filed_block, filed_rows, rows_by}
use Rattle.category_mirror.specs.Refiled.{is_moved, is_refiled, moved_count, refiled_record, refiled_rows}
use Rattle.category_mirror.proofs.BlockLaws.{holds-is, numbers_small, table-at}
use Rattle.category_mirror.proofs.LabelLaws.{AreLabels, length-text, merged_labels, merged_text, read_labels}

-- a table such as is read from a block
pub record IsRead (table : TableValue) : Type 0 where
  pub table_is : IsTable table
  pub labels : AreLabels table.entries

pub head_read : (head : List ℕ) (table : TableValue) → head_table head ≡ Some table → IsRead table
head_read head table is = by (holds_table head) refl
  where
    by : (b : Bool) → holds_table head ≡ b → IsRead table
    by true e =
        let holds = holds-is head e in
        let is : Some (table_in head) ≡ Some table = sym (rw e refl) ∙ is in
        let same : table_in head ≡ table = cc in
        subst IsRead same (record { table_is = holds.table; labels = read_labels head holds })
    by false e = absurd (let none : None ≡ Some table = sym (rw e refl) ∙ is in cc)

pub block_read : (block : Option (List ℕ)) (table : TableValue) → block_table block ≡ Some table → IsRead table
unfolding block_table
block_read None table is = absurd cc
block_read (Some bytes) table is = head_read (take 276 bytes) table is

-- ---- a merged block

module _ (handheld desktop : TableValue) (one : IsRead handheld) (other : IsRead desktop) where
  abbrev merged : TableValue
  merged = merged_table handheld desktop

  pub merged_whole : length (table_text merged) ≡ 276
  merged_whole =
      length-text merged (merged_labels handheld desktop one.labels other.labels) (merged_is_table handheld desktop one.table_is other.table_is).whole

  -- a block with it at its head, whatever stands behind it
  abbrev text_then : List ℕ → List ℕ
  text_then rest = table_text merged ++ rest

  head_then : (rest : List ℕ) → take 276 (text_then rest) ≡ table_text merged
  head_then rest = ap (λ n. take n (text_then rest)) (sym merged_whole) ∙ take-append_seam (table_text merged) rest

  pub rest_then : (rest : List ℕ) → drop 276 (text_then rest) ≡ rest
  rest_then rest = ap (λ n. drop n (text_then rest)) (sym merged_whole) ∙ drop-append_seam (table_text merged) rest

  pub merged_same : (rest : List ℕ) → merged_block merged (text_then rest) ≡ text_then rest
  merged_same rest = ap text_then (rest_then rest)

  -- it is read as the merged table
  pub merged_read : (rest : List ℕ) → block_table (Some (text_then rest)) ≡ Some merged
  unfolding block_table
  merged_read rest =
      let has = merged_text handheld desktop one.table_is other.table_is one.labels other.labels in
      ap head_table (head_then rest) ∙ table-at (table_text merged) (text_holds merged has) ∙ ap (λ t. Some t) (table-read merged has)

  -- ---- rows

  record_stays : (item : Record) → item.content.category < 16
      → refiled_record (places_of merged merged) (refiled_record (places_of handheld desktop) item) ≡ refiled_record (places_of handheld desktop) item
  record_stays item few =
      let small = numbers_small handheld desktop one.table_is other.table_is item.content.category few in
      let used = places_used handheld desktop item.content.category one.table_is other.table_is few in
      let stays = own_stays merged _ (merged_is_merged handheld desktop one.table_is other.table_is) small used in
      ap (λ n. record item { content = record item.content { category = n } }) stays

  records_stay : (records : List Record) → AreOfCategories records
      → map (refiled_record (places_of merged merged)) (map (refiled_record (places_of handheld desktop)) records)
      ≡ map (refiled_record (places_of handheld desktop)) records
  records_stay [] all = refl
  records_stay (item ∷ records) all =
      ap (λ first. first ∷ map (refiled_record (places_of merged merged)) (map (refiled_record (places_of handheld desktop)) records)) (record_stays item all.0)
      ∙ ap (λ rest. refiled_record (places_of handheld desktop) item ∷ rest) (records_stay records all.1)

  abbrev pub the_merge : List ℕ → MergeValue
  the_merge rest = record { table = merged; numbers = places_of handheld desktop; rest = rest }

  abbrev own_merge : List ℕ → MergeValue
  own_merge rest = record { table = merged; numbers = places_of merged merged; rest = rest }

  -- what stands behind the table does not matter to rows with a block
  pub rows_again : (rest own : List ℕ) (rows : DatabaseValue) → AreOfCategories rows.records
      → refiled_rows (own_merge own) (refiled_rows (the_merge rest) rows) ≡ refiled_rows (the_merge rest) rows
  unfolding refiled_rows
  rows_again rest own rows all =
      ap (λ (block : List ℕ). record rows {
        app = Some block;
        records = map (refiled_record (places_of merged merged)) (map (refiled_record (places_of handheld desktop)) rows.records);
      }) (merged_same (rest_for (the_merge rest) rows.app))
      ∙ ap (λ (records : List Record). record rows { app = Some (side_block (the_merge rest) rows.app); records = records }) (records_stay rows.records all)

  begins_merged : (rest : List ℕ) → begins_with merged (text_then rest) ≡ true
  begins_merged rest = ap (λ head. bytes_eq head (table_text merged)) (head_then rest) ∙ bytes_eq-own (table_text merged)

  item_still : (item : Record) → item.content.category < 16
      → is_moved (places_of merged merged) (refiled_record (places_of handheld desktop) item) ≡ false
  item_still item few =
      let small = numbers_small handheld desktop one.table_is other.table_is item.content.category few in
      let used = places_used handheld desktop item.content.category one.table_is other.table_is few in
      let stays = own_stays merged _ (merged_is_merged handheld desktop one.table_is other.table_is) small used in
      rw stays (same_not (get_or (places_of handheld desktop) item.content.category 0))
    where
      same_not : (n : ℕ) → not (n == n) ≡ false
      same_not n = grind (arith, nat_tests)

  items_still : (records : List Record) → AreOfCategories records
      → moved_count (places_of merged merged) (map (refiled_record (places_of handheld desktop)) records) ≡ 0
  items_still [] all = refl
  items_still (item ∷ records) all = rw (item_still item all.0) (items_still records all.1)

  rows_still : (rest own : List ℕ) (rows : DatabaseValue) → AreOfCategories rows.records → is_refiled (own_merge own) (refiled_rows (the_merge rest) rows) ≡ false
  unfolding refiled_rows
  rows_still rest own rows all = rw (begins_merged (rest_for (the_merge rest) rows.app), items_still rows.records all) refl

  -- ---- both cases of a stop

  pub again_before : (rest : List ℕ) → tables_merge rest (Some merged) (Some desktop) ≡ Some (the_merge rest)
  again_before rest =
      let same = merged_again handheld desktop one.table_is other.table_is in
      ap (λ t. Some (record { table = t; numbers = places_of merged desktop; rest = rest })) same.0
      ∙ ap (λ n. Some (record { table = merged; numbers = n; rest = rest })) same.1

  pub again_behind : (rest : List ℕ) → tables_merge rest (Some merged) (Some merged) ≡ Some (own_merge rest)
  again_behind rest =
      ap (λ t. Some (record { table = t; numbers = places_of merged merged; rest = rest }))
      (own_same merged (merged_is_merged handheld desktop one.table_is other.table_is))

-- one side's table alone, which both sides have then
pub again_alone : (t : TableValue) (one : IsRead t) (rest : List ℕ)
    → tables_merge rest (Some (merged_table t t)) (Some (merged_table t t)) ≡ Some (the_merge t t one one rest)
again_alone t one rest =
    again_behind t t one one rest ∙ ap (λ n. Some (record { table = merged_table t t; numbers = n; rest = rest })) (self_again t one.table_is)

-- ---- the blocks of both sides

-- what a second session finds: on the handheld the merged block, and on the desktop what was there before, or what was committed
pub record IsMade (handheld : Option (List ℕ)) (rows : DatabaseValue) : Type 0 where
  pub before_block : filed_block (filed_block handheld rows) rows ≡ filed_block handheld rows
  pub before_rows : filed_rows (filed_block handheld rows) rows ≡ filed_rows handheld rows
  pub behind_block : AreOfCategories rows.records → filed_block (filed_block handheld rows) (filed_rows handheld rows) ≡ filed_block handheld rows
  pub behind_rows : AreOfCategories rows.records → filed_rows (filed_block handheld rows) (filed_rows handheld rows) ≡ filed_rows handheld rows

-- nothing comes together: all is as it was
none_made : (handheld : Option (List ℕ)) (rows : DatabaseValue) → blocks_merge handheld rows.app ≡ None → IsMade handheld rows
unfolding filed_block filed_rows
none_made handheld rows none =
    let block : block_by handheld (blocks_merge handheld rows.app) ≡ handheld = rw none refl in
    let here : rows_by (blocks_merge handheld rows.app) rows ≡ rows = rw none refl in
    record {
      before_block = rw block block;
      before_rows = rw block refl;
      behind_block = λ all. rw (here, block) block;
      behind_rows = λ all. rw (here, block) here;
    }

-- what both sides come together by
pub record ComeTogether (handheld desktop : Option (List ℕ)) : Type 0 where
  pub own : TableValue
  pub other : TableValue
  pub own_is : IsRead own
  pub other_is : IsRead other
  pub rest : List ℕ
  pub rest_is : rest ≡ drop 276 (block_bytes (desktop_block handheld desktop))
  pub here : block_table (handheld_block handheld desktop) ≡ Some own
  pub there : block_table (desktop_block handheld desktop) ≡ Some other
  pub merge : blocks_merge handheld desktop ≡ Some (the_merge own other own_is other_is rest)

-- or they don't
pub together : (handheld desktop : Option (List ℕ)) → (blocks_merge handheld desktop ≡ None) ⊎ ComeTogether handheld desktop
unfolding blocks_merge
together handheld desktop = by (block_table (handheld_block handheld desktop)) refl (block_table (desktop_block handheld desktop)) refl
  where
    by : (one : Option TableValue) → block_table (handheld_block handheld desktop) ≡ one → (other : Option TableValue)
        → block_table (desktop_block handheld desktop) ≡ other
        → (tables_merge (drop 276 (block_bytes (desktop_block handheld desktop))) (block_table (handheld_block handheld desktop))
        (block_table (desktop_block handheld desktop)) ≡ None) ⊎ ComeTogether handheld desktop
    by None here other there = inl (rw here refl)
    by (Some own) here None there = inl (rw (here, there) refl)
    by (Some own) here (Some other) there = inr (record {
      own = own;
      other = other;
      own_is = block_read (handheld_block handheld desktop) own here;
      other_is = block_read (desktop_block handheld desktop) other there;
      rest = drop 276 (block_bytes (desktop_block handheld desktop));
      rest_is = refl;
      here = here;
      there = there;
      merge = rw (here, there) refl;
    })

abbrev pub merge_of_both : {handheld desktop : Option (List ℕ)} → ComeTogether handheld desktop → MergeValue
merge_of_both both = the_merge both.own both.other both.own_is both.other_is both.rest

pub own_read : {handheld desktop : Option (List ℕ)} (both : ComeTogether handheld desktop) (block : Option (List ℕ))
    → block_table (Some (side_block (merge_of_both both) block)) ≡ Some (merged_table both.own both.other)
own_read both block = merged_read both.own both.other both.own_is both.other_is (rest_for (merge_of_both both) block)

alone : (own other : TableValue) → own ≡ other → IsRead own → (rest : List ℕ)
    → tables_merge rest (Some (merged_table own other)) (Some (merged_table own other))
    ≡ Some (record { table = merged_table own other; numbers = places_of own other; rest = rest })
alone own other same is rest =
    subst (λ (t : TableValue). tables_merge rest (Some (merged_table own t)) (Some (merged_table own t))
    ≡ Some (record { table = merged_table own t; numbers = places_of own t; rest = rest })) same (again_alone own is rest)

-- where the handheld has its block then, they come together as before
pub behind_own : (handheld desktop : Option (List ℕ)) (both : ComeTogether handheld desktop)
    → blocks_merge (Some (side_block (merge_of_both both) handheld)) desktop ≡ Some (merge_of_both both)
unfolding blocks_merge block_table
behind_own handheld (Some block) both =
    ap (λ (t : Option TableValue). tables_merge (drop 276 block) t (block_table (Some block))) (own_read both handheld)
    ∙ ap (tables_merge (drop 276 block) (Some (merged_table both.own both.other))) both.there
    ∙ again_before both.own both.other both.own_is both.other_is (drop 276 block)
    ∙ ap (λ rest. Some (the_merge both.own both.other both.own_is both.other_is rest)) (sym both.rest_is)
behind_own None None both = absurd (let none = both.there in cc)
behind_own (Some block) None both =
    let same : both.own ≡ both.other = let twice = sym both.here ∙ both.there in cc in
    let text = side_block (merge_of_both both) (Some block) in
    ap (λ rest. tables_merge rest (block_table (Some text)) (block_table (Some text)))
    (rest_then both.own both.other both.own_is both.other_is (drop 276 block))
    ∙ ap (λ (t : Option TableValue). tables_merge (drop 276 block) t t) (own_read both (Some block))
    ∙ alone both.own both.other same both.own_is (drop 276 block)
    ∙ ap (λ rest. Some (the_merge both.own both.other both.own_is both.other_is rest)) (sym both.rest_is)

abbrev merge_behind : {handheld desktop : Option (List ℕ)} → ComeTogether handheld desktop → MergeValue
merge_behind {desktop = desktop} both =
    own_merge both.own both.other both.own_is both.other_is (drop 276 (side_block (merge_of_both both) desktop))

-- where both have theirs
behind_both : (handheld desktop : Option (List ℕ)) (both : ComeTogether handheld desktop)
    → blocks_merge (Some (side_block (merge_of_both both) handheld)) (Some (side_block (merge_of_both both) desktop)) ≡ Some (merge_behind both)
unfolding blocks_merge
behind_both handheld desktop both =
    let rest = drop 276 (side_block (merge_of_both both) desktop) in
    ap (λ (t : Option TableValue). tables_merge rest t (block_table (Some (side_block (merge_of_both both) desktop)))) (own_read both handheld)
    ∙ ap (tables_merge rest (Some (merged_table both.own both.other))) (own_read both desktop)
    ∙ again_behind both.own both.other both.own_is both.other_is rest

refiled_app : (merge : MergeValue) (rows : DatabaseValue) → (refiled_rows merge rows).app ≡ Some (side_block merge rows.app)
unfolding refiled_rows
refiled_app merge rows = refl

some_made : (handheld : Option (List ℕ)) (rows : DatabaseValue) → ComeTogether handheld rows.app → IsMade handheld rows
unfolding filed_block filed_rows
some_made handheld rows both =
    let merge = merge_of_both both in
    let first = both.merge in
    let second = behind_own handheld rows.app both in
    let third : blocks_merge (Some (side_block merge handheld)) (refiled_rows merge rows).app ≡ Some (merge_behind both) =
    ap (blocks_merge (Some (side_block merge handheld))) (refiled_app merge rows) ∙ behind_both handheld rows.app both in
    let same : ◌≡◌ {A = Option (List ℕ)} (Some (side_block merge (Some (side_block merge handheld)))) (Some (side_block merge handheld)) =
    ap (λ (b : List ℕ). Some b) (merged_same both.own both.other both.own_is both.other_is (rest_for merge handheld)) in
    record {
      before_block = rw (first, second) same;
      before_rows = rw (first, second) refl;
      behind_block = λ all. rw (first, third) same;
      behind_rows = λ all. rw (first, third) (rows_again both.own both.other both.own_is both.other_is both.rest (drop 276 (side_block merge rows.app)) rows all);
    }

pub made : (handheld : Option (List ℕ)) (rows : DatabaseValue) → IsMade handheld rows
made handheld rows = elim (together handheld rows.app) [ inl none ↦ none_made handheld rows none | inr both ↦ some_made handheld rows both ]

-- ---- once more behind the end

-- a second session that finds what the first one left writes no block, and changes no row
pub record IsStill (handheld : Option (List ℕ)) (rows : DatabaseValue) : Type 0 where
  pub block : written_block (filed_block handheld rows) (blocks_merge (filed_block handheld rows) (filed_rows handheld rows).app) ≡ None
  pub rows_too : (merge : MergeValue) → blocks_merge (filed_block handheld rows) (filed_rows handheld rows).app ≡ Some merge
      → is_refiled merge (filed_rows handheld rows) ≡ false

none_still : (handheld : Option (List ℕ)) (rows : DatabaseValue) → blocks_merge handheld rows.app ≡ None → IsStill handheld rows
unfolding filed_block filed_rows
none_still handheld rows none =
    let block : block_by handheld (blocks_merge handheld rows.app) ≡ handheld = rw none refl in
    let here : rows_by (blocks_merge handheld rows.app) rows ≡ rows = rw none refl in
    record {
      block = rw (here, block, none) refl;
      rows_too = λ merge is. absurd (let no : None ≡ Some merge = sym (rw (here, block) none) ∙ is in cc);
    }

some_still : (handheld : Option (List ℕ)) (rows : DatabaseValue) → AreOfCategories rows.records → ComeTogether handheld rows.app → IsStill handheld rows
unfolding filed_block filed_rows
some_still handheld rows all both =
    let merge = merge_of_both both in
    let first = both.merge in
    let third : blocks_merge (Some (side_block merge handheld)) (refiled_rows merge rows).app ≡ Some (merge_behind both) =
    ap (blocks_merge (Some (side_block merge handheld))) (refiled_app merge rows) ∙ behind_both handheld rows.app both in
    record {
      block = rw (first, third, begins_merged both.own both.other both.own_is both.other_is (rest_for merge handheld)) refl;
      rows_too = λ next is. rw first (by (refiled_rows merge rows) next (sym third ∙ (rw first at is))
          (rows_still both.own both.other both.own_is both.other_is both.rest (drop 276 (side_block merge rows.app)) rows all));
    }
  where
    by : {own : MergeValue} (left : DatabaseValue) (merge : MergeValue) → ◌≡◌ {A = Option MergeValue} (Some own) (Some merge) → is_refiled own left ≡ false
        → is_refiled merge left ≡ false
    by {own} left merge is still = let same : own ≡ merge = cc in subst (λ (m : MergeValue). is_refiled m left ≡ false) same still

pub still : (handheld : Option (List ℕ)) (rows : DatabaseValue) → AreOfCategories rows.records → IsStill handheld rows
still handheld rows all =
    elim (together handheld rows.app) [ inl none ↦ none_still handheld rows none | inr both ↦ some_still handheld rows all both ]
