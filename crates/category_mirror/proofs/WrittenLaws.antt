-- The block that a handheld gets: it is as long as one of those that were there, and makes the database the filed one.
use Rattle.std.proofs.lemmas.Bool.Decides.{nat_tests}
use Rattle.std.proofs.lemmas.List.{length-append, length-drop, length-take}
use Rattle.std.proofs.Common.{arith, inl, inr, ◌⊎◌, ◌≡◌, ◌∙◌, ◌≤◌, ◌+◌, ◌++◌, ap, refl, subst, sym, ℕ, Bool, true, false, List, drop, length, take}
use Rattle.std.specs.Prelude.{Option, Some, None, nat_lt, if◌then◌else◌}
use Rattle.pdb_values.specs.Blocks.{block_length}
use Rattle.pdb_values.specs.Databases.{DatabaseValue}
use Rattle.category_tables.specs.Tables.{TableValue}
use Rattle.category_tables.specs.Texts.{table_in, table_text}
use Rattle.category_tables.specs.Merges.{merged_table}
use Rattle.category_mirror.specs.Blocks.{MergeValue, begins_with, block_bytes, block_table, blocks_merge, head_table, holds_table, side_block, written_block}
use Rattle.category_mirror.specs.Filings.{block_by}
use Rattle.category_mirror.specs.Sides.{with_merge}
use Rattle.category_mirror.proofs.AgainLaws.{ComeTogether, IsRead, merge_of_both, merged_whole, together}
use Rattle.category_mirror.proofs.BlockLaws.{holds-is}
use Rattle.category_mirror.proofs.OneLaws.{written_into}
use Rattle.category_mirror.proofs.SameLaws.{block_stays, not_begun}

-- ---- its length

long_head : (head : List ℕ) (table : TableValue) → head_table head ≡ Some table → 276 ≤ length head
long_head head table is = by (holds_table head) refl is
  where
    by : (b : Bool) → holds_table head ≡ b → (if b then Some (table_in head) else None) ≡ Some table → 276 ≤ length head
    by true holds is = (holds-is head holds).long
    by false holds is = absurd cc

long_block : (block : List ℕ) (table : TableValue) → block_table (Some block) ≡ Some table → 276 ≤ length block
unfolding block_table
long_block block table is =
    let long = long_head (take 276 block) table is in
    let taken = length-take 276 block in omega (arith, long, taken)

-- the table, and what stood behind another one
text_length : (handheld desktop : TableValue) → IsRead handheld → IsRead desktop → (block : List ℕ) → 276 ≤ length block
    → length (table_text (merged_table handheld desktop) ++ drop 276 block) ≡ length block
text_length handheld desktop one other block long =
    length-append (table_text (merged_table handheld desktop)) (drop 276 block)
    ∙ (let whole = merged_whole handheld desktop one other in let rest = length-drop 276 block in
    let same : length (table_text (merged_table handheld desktop)) + length (drop 276 block) ≡ length block = omega (arith, whole, rest, long) in same)

-- ---- what is written

-- a side's block then is no longer than a block can be
short_block : (block other : Option (List ℕ)) (both : ComeTogether block other) → block_length block ≤ 65500
    → length (side_block (merge_of_both both) block) ≤ 65500
unfolding block_table
short_block (Some block) other both short =
    let same = text_length both.own both.other both.own_is both.other_is block (long_block block both.own both.here) in omega (arith, same, short)
short_block None None both short = absurd (let none = both.there in cc)
short_block None (Some other) both short = by (nat_lt 65500 (length other)) refl
  where
    by : (b : Bool) → nat_lt 65500 (length other) ≡ b → length (side_block (merge_of_both both) None) ≤ 65500
    by true long =
        absurd (let none : block_table (if true then None else Some other) ≡ Some both.own =
        ap (λ b. block_table (if b then None else Some other)) (sym long) ∙ both.here in cc)
    by false few =
        let same = text_length both.own both.other both.own_is both.other_is other (long_block other both.other both.there) in
        let small : length other ≤ 65500 = grind (arith, nat_tests, few) in
        let is : length (side_block (merge_of_both both) None) ≡ length other =
        ap (λ rest. length (table_text (merged_table both.own both.other) ++ rest)) both.rest_is ∙ same in
        omega (arith, is, small)

pub short_written : (block other : Option (List ℕ)) (merge : Option MergeValue) → (merge ≡ None) ⊎ (merge ≡ blocks_merge block other) → block_length block ≤ 65500
    → block_length (written_block block merge) ≤ 65500
short_written block other None is short = omega arith
short_written block other (Some merge) (inl none) short = absurd cc
short_written block other (Some merge) (inr is) short = found (together block other)
  where
    by : (b : Bool) → length (side_block merge block) ≤ 65500 → block_length (if b then None else Some (side_block merge block)) ≤ 65500
    by true few = omega arith
    by false few = few

    found : (blocks_merge block other ≡ None) ⊎ ComeTogether block other → block_length (written_block block (Some merge)) ≤ 65500
    found (inl none) = absurd (let no : Some merge ≡ None = is ∙ none in cc)
    found (inr both) =
        let same : merge_of_both both ≡ merge = let twice = sym both.merge ∙ sym is in cc in
        by (begins_with merge.table (block_bytes block))
        (subst (λ (m : MergeValue). length (side_block m block) ≤ 65500) same (short_block block other both short))

-- and what the database is then
pub written_is : (database : DatabaseValue) (merge : Option MergeValue) → written_into database (written_block database.app merge) ≡ with_merge merge database
unfolding table_text
written_is database merge = by database.app refl merge
  where
    by : (app : Option (List ℕ)) → database.app ≡ app → (merge : Option MergeValue)
        → written_into database (written_block app merge) ≡ record database { app = block_by app merge }
    by app is None = λ k. record database { app = is k }
    by app is (Some merge) = chosen (begins_with merge.table (block_bytes app)) refl
      where
        own_block : (o : Option (List ℕ)) → begins_with merge.table (block_bytes o) ≡ true → o ≡ Some (side_block merge o)
        own_block None begins = absurd (let no = sym begins ∙ not_begun merge.table in cc)
        own_block (Some block) begins = ap (λ (b : List ℕ). Some b) (sym (block_stays merge.table block begins))

        chosen : (b : Bool) → begins_with merge.table (block_bytes app) ≡ b
            → written_into database (if b then None else Some (side_block merge app)) ≡ record database { app = Some (side_block merge app) }
        chosen true begins = λ k. record database { app = (is ∙ own_block app begins) k }
        chosen false begins = refl
