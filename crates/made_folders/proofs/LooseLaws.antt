-- The desktop's rows without a base row: those that it made.
use Rattle.std.proofs.lemmas.Grind.{common_steps}
use Rattle.std.proofs.Common.{◌≡◌, ◌<◌, ◌+◌, ℕ, suc, ◌==◌, Bool, true, false, refl, ap, ◌∙◌, arith, List, [], ◌∷◌, ◌++◌, if◌then◌else◌, Option, Some, None}
use Rattle.std.proofs.Common.{option_to_list}
use Rattle.std.specs.Prelude.{cond, flat_map, nat_lt}
use Rattle.std.specs.Option.{option_map}
use Rattle.std.proofs.lemmas.Bool.Decides.{nat_tests}
use Rattle.std.proofs.lemmas.List.Sums.{sum_by-cons}
use Rattle.pdb_values.specs.Contents.{ContentValue}
use Rattle.pdb_values.specs.declared.record.Record.{Record}
use Rattle.conduit_rules.specs.ById.{put}
use Rattle.conduit_rules.specs.Contents.{count_of, same_content}
use Rattle.conduit_rules.specs.News.{archived_records, live_contents, loose, unpaired}
use Rattle.made_folders.specs.Sides.{letter_on, record_with, records_on, text_of}
use Rattle.made_folders.specs.declared.item.Item.{Item}
use Rattle.made_folders.specs.declared.side.MadeSide.TheVariants.{Desktop}
use Rattle.made_folders.specs.Numbers.{AreMade}

-- what the desktop made
abbrev pub new_contents : Item → List ContentValue
new_contents item = if item.kind == 9 then record { category = 0; secret = false; bytes = text_of 100 item } ∷ [] else []

-- each row that the desktop didn't make has a base row
abbrev pub AreBased : (ℕ → Bool) → List Item → Type 0
AreBased based [] = Unit {0}
AreBased based (item ∷ items) = (nat_lt item.kind 7 ≡ true → based item.number ≡ true) × AreBased based items

based_later : (based : ℕ → Bool) (number from : ℕ) (items : List Item) → AreMade from items → number < from → AreBased based items
    → AreBased (put based number false) items
based_later based number from [] are before rows = tt
based_later based number from (item ∷ items) are before rows =
    (λ (old : nat_lt item.kind 7 ≡ true). grind (arith, nat_tests, are.0, rows.0 old), based_later based number (suc from) items are.1.1 (omega arith) rows.1)

still_free : (is : Bool) (based : ℕ → Bool) (number : ℕ) → 0 < number → based 0 ≡ false → (if is then put based number false else based) 0 ≡ false
still_free is based number e f = grind arith

still_based : (is : Bool) (based : ℕ → Bool) (number from : ℕ) (items : List Item) → AreMade from items → number < from → AreBased based items
    → AreBased (if is then put based number false else based) items
still_based true based number from items are before rows = based_later based number from items are before rows
still_based false based number from items are before rows = rows

-- where the base has a row of each that the desktop didn't make
pub loose_made : (based : ℕ → Bool) (from : ℕ) (items : List Item) → AreMade from items → 0 < from → based 0 ≡ false → AreBased based items
    → live_contents (loose based (records_on Desktop items)) ≡ flat_map new_contents items
loose_made based from [] are some free rows = refl
loose_made based from (item ∷ items) are some free rows =
    grind (
      arith,
      loose_made (if nat_lt item.kind 7 then put based item.number false else based) (suc from) items are.1.1 (omega arith)
          (still_free (nat_lt item.kind 7) based item.number (omega (arith, are.0, some)) free)
          (still_based (nat_lt item.kind 7) based item.number (suc from) items are.1.1 (omega (arith, are.0)) rows.1),
    )

none_archived : (based : ℕ → Bool) (item : Item) (letter : Option ℕ) (rows : List Record)
    → ((other : ℕ → Bool) → archived_records (loose other rows) ≡ [])
    → archived_records (loose based (option_to_list (option_map (record_with item) letter) ++ rows)) ≡ []
none_archived based item letter rows e = grind arith

-- none of them is archived
pub loose_archived : (items : List Item) (based : ℕ → Bool) → archived_records (loose based (records_on Desktop items)) ≡ []
loose_archived [] based = refl
loose_archived (item ∷ items) based = none_archived based item (letter_on Desktop item.kind) (records_on Desktop items) (loose_archived items)

-- ---- none of them has a partner

one_new : (free : ContentValue → ℕ) (item : Item) (rest : List ContentValue) {later : List ContentValue} (is : Bool)
    → free (record { category = 0; secret = false; bytes = text_of 100 item }) ≡ 0 → unpaired free rest ≡ later
    → unpaired free ((if is then record { category = 0; secret = false; bytes = text_of 100 item } ∷ [] else []) ++ rest)
    ≡ (if is then record { category = 0; secret = false; bytes = text_of 100 item } ∷ [] else []) ++ later
one_new free item rest is e f = grind arith

pub new_unpaired : (free : ContentValue → ℕ) (items : List Item)
    → ((item : Item) → free (record { category = 0; secret = false; bytes = text_of 100 item }) ≡ 0) → unpaired free (flat_map new_contents items)
    ≡ flat_map new_contents items
new_unpaired free [] none = refl
new_unpaired free (item ∷ items) none = one_new free item (flat_map new_contents items) (item.kind == 9) (none item) (new_unpaired free items none)

-- what the handheld made
abbrev pub mate_contents : Item → List ContentValue
mate_contents item = if item.kind == 8 then record { category = 0; secret = false; bytes = text_of 104 item } ∷ [] else []

other_letter : (item other : Item) → same_content (record { category = 0; secret = false; bytes = text_of 104 item })
    (record { category = 0; secret = false; bytes = text_of 100 other }) ≡ false
unfolding same_content
other_letter item other = grind arith

one_mate : (c : ContentValue) (item : Item) (rest : List ContentValue) (is : Bool)
    → same_content (record { category = 0; secret = false; bytes = text_of 104 item }) c ≡ false
    → count_of c ((if is then record { category = 0; secret = false; bytes = text_of 104 item } ∷ [] else []) ++ rest) ≡ count_of c rest
one_mate c item rest is e = grind arith

pub no_mate : (other : Item) (items : List Item) → count_of (record { category = 0; secret = false; bytes = text_of 100 other })
    (flat_map mate_contents items) ≡ 0
no_mate other [] = refl
no_mate other (item ∷ items) =
    one_mate (record { category = 0; secret = false; bytes = text_of 100 other }) item (flat_map mate_contents items) (item.kind == 8)
    (other_letter item other) ∙ no_mate other items
