-- Where the handheld's user has no slot, a session changes no row.
use Rattle.std.proofs.Math.ListN.{get_or-eq_default}
use Rattle.std.proofs.Common.{◌≡◌, ◌∙◌, ◌++◌, ap, arith, refl, ℕ, List, [], ◌∷◌, length}
use Rattle.std.specs.Prelude.{IsErr, Option, None, Some, flat_map}
use Rattle.pdb_values.specs.Databases.{DatabaseValue}
use Rattle.pdb_values.specs.NamedDatabases.{database_of}
use Rattle.pdb_values.specs.declared.user.Marks.{Marks}
use Rattle.desktop_session.specs.Seats.{no_wish, seat_for}
use Rattle.pdb_values.specs.declared.slot.Slot.{Slot}
use Rattle.pdb_values.specs.declared.slot.Slot.TheVariants as slot
use Rattle.pdb_values.specs.declared.user.UserInfo.{UserInfo}
use Rattle.palm_device.specs.Devices.{Device}
use Rattle.desk_store.specs.Desks.{place_of}
use Rattle.desk_store.specs.Shelves.{SlotValue, new_slot, number_of}
use Rattle.desk_store.specs.declared.change.DbChange.{DbChange}
use Rattle.desktop_session.specs.Greetings.{user_with}
use Rattle.category_mirror.specs.Blocks.{MergeValue}
use Rattle.category_mirror.specs.Changes.{change_filed, change_for}
use Rattle.category_mirror.specs.FilingEnds.{marks_in, seat_of}
use Rattle.category_mirror.specs.Sides.{Filing, filing_changes, filing_of, merge_named, names, shelves_of, slot_of}

-- its place is behind the last slot
place_past : (marks : List Marks) (user : UserInfo) (count : ℕ) (found : Slot) → IsErr (user_with marks user found) → place_of count found ≡ count
place_past marks user count (slot.Old place) refused = absurd (let never : ⊥ = cc in never)
place_past marks user count slot.New refused = refl
place_past marks user count slot.Refused refused = refl
place_past marks user count slot.Full refused = refl

none_for : (merge : Option MergeValue) (base archive : Option DatabaseValue) → change_for merge None base archive ≡ []
none_for None base archive = refl
none_for (Some merge) base archive = refl

module _ (device : Device) (slots : List SlotValue) (unseated : IsErr (seat_of (filing_of device slots))) where
  abbrev filing : Filing
  filing = filing_of device slots

  new_picked : slot_of filing ≡ new_slot (number_of slots)
  new_picked =
      let past = place_past (marks_in filing) device.user (length slots) (seat_for (marks_in filing) no_wish device.user) unseated in
      get_or-eq_default slots (new_slot (number_of slots)) (omega (arith, past))

  no_rows : (shelves_of filing).rows ≡ []
  no_rows = ap (λ (s : SlotValue). s.shelves.rows) new_picked

  none_filed : (n : List ℕ) → change_filed (shelves_of filing) n (merge_named filing n) ≡ []
  unfolding change_filed
  none_filed n =
      ap (λ (rows : List DatabaseValue). change_for (merge_named filing n) (database_of n rows) (database_of n (shelves_of filing).bases)
      (database_of n (shelves_of filing).archives)) no_rows
      ∙ none_for (merge_named filing n) (database_of n (shelves_of filing).bases) (database_of n (shelves_of filing).archives)

  none_changes : (ns : List (List ℕ)) → flat_map (λ name. change_filed (shelves_of filing) name (merge_named filing name)) ns ≡ []
  none_changes [] = refl
  none_changes (n ∷ ns) =
      ap (λ (cs : List DbChange). cs ++ flat_map (λ name. change_filed (shelves_of filing) name (merge_named filing name)) ns) (none_filed n)
      ∙ none_changes ns

  pub unseated_changes : filing_changes filing ≡ []
  unfolding filing_changes
  unseated_changes = none_changes (names filing)
