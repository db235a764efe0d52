-- Rows at their places: one place more.
use Rattle.std.proofs.Common.{◌≡◌, ℕ, ◌+◌, ◌<◌, List, [], ◌∷◌, ◌++◌, refl, Option, Some, None, Bool, true, false, if◌then◌else◌, length, take}
use Rattle.std.proofs.Common.{get_or, set, map, option_to_list, append-nil, append_assoc, Bor, rules}
use Rattle.std.specs.Option.{option_copied, option_map}
use Rattle.std.proofs.lemmas.List.{take_more, map-append, map-set}
use Rattle.std.proofs.lemmas.List.Concat.{flat_map-append}
use Rattle.pdb_values.specs.Contents.{ContentValue}
use Rattle.pdb_values.specs.declared.record.Record.{Record}
use Rattle.conduit_rules.specs.ById.{with_id}
use Rattle.conduit_rules.specs.News.{live_contents, archived_records, found_in, noted}
use Rattle.conduit_rules.specs.States.{record_held, live_of, archived_of}

copied_if : (b : Bool) (item : Bor Record) → option_copied (if b then Some item else None) ≡ (if b then Some item.now else None)
copied_if true item = refl
copied_if false item = refl

pub noted-set : (items : List (Option (Bor Record))) (place : ℕ) (item : Bor Record) (row : Option (ℕ × Bor Record)) (b : Bool) (slot : Option (Bor Record))
    → row ≡ Some (place, item) → slot ≡ (if b then Some item else None)
    → map option_copied (set items place slot) ≡ noted (option_map (λ e. (e.0, e.1.now)) row) b (map option_copied items)
noted-set items place item row b slot is slot_is =
    cc (map-set option_copied items place slot, copied_if b item)

abbrev pub found_upto : ℕ → List (Option (Bor Record)) → List Record
found_upto k slots = found_in (map option_copied (take k slots))

found-more : (slots : List (Option (Bor Record))) (k : ℕ) (o : Option (Bor Record)) → k < length slots → o ≡ get_or slots k o
    → found_upto (k + 1) slots ≡ found_upto k slots ++ option_to_list (option_copied o)
found-more slots k o within is =
    cc (
      take_more slots k o within,
      map-append option_copied (take k slots) (o ∷ []),
      flat_map-append option_to_list (map option_copied (take k slots))
          (option_copied o ∷ []),
      append-nil (option_to_list (option_copied o)),
    )

abbrev pub live_in : Option Record → List ContentValue
live_in None = []
live_in (Some r) = option_to_list (live_of (record_held r))

abbrev pub archived_in : Option Record → List (ℕ × ContentValue)
archived_in None = []
archived_in (Some r) = with_id 0 (archived_of (record_held r))

live_one : (o : Option Record) → live_contents (option_to_list o) ≡ live_in o
live_one o = search (rules, append-nil)

pub live-more : (slots : List (Option (Bor Record))) (k : ℕ) (o : Option (Bor Record)) (old new : List ContentValue) → k < length slots → o ≡ get_or slots k o
    → new ≡ (old ++ live_contents (found_upto k slots)) ++ live_in (option_copied o)
    → new ≡ old ++ live_contents (found_upto (k + 1) slots)
live-more slots k o old new within is grew =
    cc (
      append_assoc old (live_contents (found_upto k slots)) (live_in (option_copied o)),
      live_one (option_copied o),
      flat_map-append (λ r. option_to_list
          (live_of (record_held r))) (found_upto k slots) (option_to_list (option_copied o)),
      found-more slots k o within is,
    )

abbrev with_zero : ContentValue → ℕ × ContentValue
with_zero c = (0, c)

archived_content : (o : Option ContentValue) → map with_zero (option_to_list o ++ []) ≡ with_id 0 o
archived_content None = refl
archived_content (Some c) = refl

archived_one : (o : Option Record) → map with_zero (archived_records (option_to_list o)) ≡ archived_in o
archived_one o = search (rules, archived_content)

pub archived-more : (slots : List (Option (Bor Record))) (k : ℕ) (o : Option (Bor Record)) (old new : List (ℕ × ContentValue)) → k < length slots
    → o ≡ get_or slots k o
    → new ≡ (old ++ map with_zero (archived_records (found_upto k slots))) ++ archived_in (option_copied o)
    → new ≡ old ++ map with_zero (archived_records (found_upto (k + 1) slots))
archived-more slots k o old new within is grew =
    let so_far = archived_records (found_upto k slots) in
    cc (
      append_assoc old (map with_zero so_far) (archived_in (option_copied o)),
      archived_one (option_copied o),
      map-append with_zero so_far
          (archived_records (option_to_list (option_copied o))),
      flat_map-append (λ r. option_to_list (archived_of (record_held r))) (found_upto k slots)
          (option_to_list (option_copied o)),
      found-more slots k o within is,
    )
