-- What the sides of made items hold: short texts, and on the handheld ids that rise.
use Rattle.std.proofs.Common.{◌≡◌, ◌∙◌, ◌+◌, ◌<◌, ◌≤◌, ◌==◌, ◌&&◌, not, ℕ, zero, suc, Bool, true, false, refl, sym, ap, subst, arith, List, [], ◌∷◌, ◌++◌}
use Rattle.std.proofs.Common.{length, length-append, map}
use Rattle.std.specs.Prelude.{Option, None, Some, cond, option_map, option_to_list, replicate}
use Rattle.std.specs.Fmt.{decimal}
use Rattle.std.specs.List.{AllByRecursion, list_all}
use Rattle.std.proofs.lemmas.Bool.{eqb-true}
use Rattle.std.proofs.lemmas.Fmt.{length-decimal-le}
use Rattle.std.proofs.lemmas.List.{length-replicate}
use Rattle.rand_pcg.specs.Lcg.{Lcg}
use Rattle.rand_pcg.specs.Pcg.{pcg32}
use Rattle.pdb_values.specs.declared.record.Record.{Record}
use Rattle.pdb_values.specs.Databases.{IsDatabase}
use Rattle.pdb_files.specs.Blocks.{AreShort}
use Rattle.pdb_files.specs.Entries.{record_data}
use Rattle.pdb_files.specs.Files.{FitsHeader, FitsRecord, IsFileText, canonical}
use Rattle.pdb_files.proofs.WriteLaws.{canonical_is_text}
use Rattle.palm_device.specs.FreshIds.{is_among}
use Rattle.handheld_files.specs.Settled.{are_ids, as_opened}
use Rattle.handheld_files.proofs.SettledLaws.{as_opened-settled}
use Rattle.made_folders.specs.Drawn.{IsDrawn}
use Rattle.made_folders.specs.Items.{items_from}
use Rattle.made_folders.specs.Numbers.{AreMade}
use Rattle.made_folders.specs.Sides.{letter_on, made_database, made_head, record_on, record_with, records_on, text_of}
use Rattle.made_folders.specs.declared.item.Item.{Item}
use Rattle.made_folders.specs.declared.side.MadeSide.{MadeSide}
use Rattle.made_folders.specs.declared.side.MadeSide.TheVariants.{Handheld}
use Rattle.desk_journal.proofs.StepLaws.{all-append}

-- ---- items

-- items that were drawn have small numbers and short fills
pub drawn_short : (number count : ℕ) (generator : Lcg) → number + count ≤ 5001 → AllByRecursion IsDrawn (items_from number count generator)
unfolding items_from
drawn_short number zero generator few = tt
drawn_short number (suc count) generator few = grind (arith, drawn_short (suc number) count (pcg32 generator).1 (omega arith))

-- ---- the records of a side

each_record : (P : Record → Type 0) (side : MadeSide) (items : List Item) → ((item : Item) (letter : ℕ) → IsDrawn item → P (record_with item letter))
    → AllByRecursion IsDrawn items → AllByRecursion P (records_on side items)
each_record P side [] holds drawn = tt
each_record P side (item ∷ items) holds drawn =
    all-append P (option_to_list (record_on side item)) (records_on side items) (one (letter_on side item.kind)) (each_record P side items holds drawn.1)
  where
    one : (letter : Option ℕ) → AllByRecursion P (option_to_list (option_map (record_with item) letter))
    one None = tt
    one (Some letter) = (holds item letter drawn.0, tt)

-- a side has at most one record of each item
pub records-few : (side : MadeSide) (items : List Item) → length (records_on side items) ≤ length items
records-few side [] = omega arith
records-few side (item ∷ items) = grind (arith, records-few side items, length-append (option_to_list (record_on side item)) (records_on side items))

-- ---- their files

text-short : (letter : ℕ) (item : Item) → IsDrawn item → length (text_of letter item) ≤ 65500
text-short letter item drawn =
    let digits : length (decimal item.number) ≤ 4 = length-decimal-le 4 item.number (omega arith) (omega (arith, drawn.number)) (omega (arith, drawn.number)) in
    let xs : List ℕ = replicate item.fill 120 in
    let parts = length-append (letter ∷ decimal item.number) xs in
    let fill : length xs ≡ item.fill = length-replicate item.fill 120 in
    omega (arith, digits, parts, fill, drawn.fill)

record-fits : (item : Item) (letter : ℕ) → IsDrawn item → FitsRecord (record_with item letter)
record-fits item letter drawn = grind arith

data-short : (records : List Record) → AllByRecursion (λ (r : Record). length r.content.bytes ≤ 65500) records → AreShort (record_data records)
data-short [] all = tt
data-short (r ∷ records) all = (all.0, data-short records all.1)

head-fits : FitsHeader made_head
head-fits = grind arith

made-sound : (side : MadeSide) (items : List Item) → length items ≤ 5000 → IsDatabase (made_database side items)
made-sound side items few = grind (arith, records-few side items)

-- the file of a side is a text of its database
pub made_text : (side : MadeSide) (items : List Item) → AllByRecursion IsDrawn items → length items ≤ 5000
    → IsFileText (made_database side items) (canonical (made_database side items))
made_text side items drawn few =
    let records = records-few side items in
    canonical_is_text (made_database side items) (made-sound side items few) head-fits (omega (arith, records))
    (each_record FitsRecord side items record-fits drawn) tt
    (data-short (records_on side items)
    (each_record (λ (r : Record). length r.content.bytes ≤ 65500) side items (λ item letter d. text-short letter item d) drawn))

-- ---- the ids of the handheld

ids_on : List Item → List ℕ
ids_on items = map (λ (r : Record). r.id) (records_on Handheld items)

-- the ids of one item more
ids_with : Option ℕ → Item → List ℕ → List ℕ
ids_with None item ids = ids
ids_with (Some letter) item ids = item.number ∷ ids

none_at_nine : (kind : ℕ) → (kind == 9) ≡ true → letter_on Handheld kind ≡ None
none_at_nine kind is = subst (λ (k : ℕ). letter_on Handheld k ≡ None) (sym (eqb-true kind 9 is)) refl

ids-next : (item : Item) (items : List Item) → ids_on (item ∷ items) ≡ ids_with (letter_on Handheld item.kind) item (ids_on items)
unfolding ids_on ids_with
ids-next item items = by (letter_on Handheld item.kind) refl (item.kind == 9) refl
  where
    by : (letter : Option ℕ) → letter_on Handheld item.kind ≡ letter → (nine : Bool) → (item.kind == 9) ≡ nine
        → map (λ (r : Record). r.id) (option_to_list (option_map (record_with item) letter) ++ records_on Handheld items) ≡ ids_with letter item
        (map (λ (r : Record). r.id) (records_on Handheld items))
    by None is nine test = refl
    by (Some letter) is true test = let none = none_at_nine item.kind test in absurd (cc (sym is ∙ none))
    by (Some letter) is false test = ap (λ (t : Bool). cond t 0 item.number ∷ map (λ (r : Record). r.id) (records_on Handheld items)) test

-- none of them is below the first number
not_among : (id from : ℕ) (items : List Item) → AreMade from items → id < from → is_among id (ids_on items) ≡ false
unfolding ids_on ids_with
not_among id from [] are below = grind arith
not_among id from (item ∷ items) are below = grind (arith, not_among id (suc from) items are.1.1 (omega arith), ids-next item items)

ids-are : (from : ℕ) (items : List Item) → AreMade from items → 0 < from → are_ids (ids_on items) ≡ true
unfolding ids_on ids_with
ids-are from [] are some = grind arith
ids-are from (item ∷ items) are some =
    grind (arith, ids-next item items, ids-are (suc from) items are.1.1 (omega arith), not_among item.number (suc from) items are.1.1 (omega (arith, are.0)))

idle-all : (records : List Record) → AllByRecursion (λ (r : Record). r.busy ≡ false) records → list_all (λ (r : Record). not r.busy) records ≡ true
idle-all [] all = refl
idle-all (r ∷ records) all = rw all.0 (idle-all records all.1)

-- opening a store leaves the made database as it is
pub made_settled : (items : List Item) → AreMade 1 items → AllByRecursion IsDrawn items
    → as_opened (made_database Handheld items) ≡ made_database Handheld items
unfolding ids_on ids_with
made_settled items are drawn =
    as_opened-settled (made_database Handheld items)
    (both (list_all (λ (r : Record). not r.busy) (records_on Handheld items)) (are_ids (map (λ (r : Record). r.id) (records_on Handheld items)))
    (idle-all (records_on Handheld items) (each_record (λ (r : Record). r.busy ≡ false) Handheld items (λ item letter d. refl) drawn)) ids)
  where
    both : (a b : Bool) → a ≡ true → b ≡ true → (a && b) ≡ true
    both true b h k = k
    both false b h k = absurd cc

    ids : are_ids (map (λ (r : Record). r.id) (records_on Handheld items)) ≡ true
    ids = ids-are 1 items are (omega arith)
