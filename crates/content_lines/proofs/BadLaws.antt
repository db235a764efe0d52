-- The first record that is exported and out of its form.
use Rattle.std.proofs.Common.{◌≡◌, ◌<◌, ◌≤◌, ◌∷◌, ◌∙◌, ap, refl, sym, ℕ, suc, ◌+◌, Bool, true, false, List, Option, None, Some, Ok, Err, add-one, drop, drop-cons, drop_of_length-le, get_or, length}
use Rattle.pdb_values.specs.declared.record.Record.{Record}
use Rattle.palm_records.specs.declared.choice.BrokenRecords.TheVariants.{Refused}
use Rattle.palm_records.specs.declared.choice.Privacy.{Privacy}
use Rattle.palm_records.specs.declared.fault.ExportFault.{ExportFault}
use Rattle.palm_records.specs.Choices.{BadItem, first_bad, is_exported, or_later}
use Rattle.content_lines.specs.Refusals.{fault_seen, refusal, refusal_at}

by_export : (b : Bool) (f : Record → Option ℕ) (w : Privacy) (i : ℕ) (item : Record) (items : List Record) → is_exported w item ≡ b
    → first_bad f w i (item ∷ items) ≡ or_later i (fault_seen f w item) (first_bad f w (suc i) items)
unfolding first_bad
by_export true f w i item items is = rw is refl
by_export false f w i item items is = rw is refl

-- one record, and those behind it
pub first_bad-drop : (f : Record → Option ℕ) (w : Privacy) (i : ℕ) (item : Record) (items : List Record) → i < length items → item ≡ get_or items i item
    → first_bad f w i (drop i items) ≡ or_later i (fault_seen f w item) (first_bad f w (i + 1) (drop (i + 1) items))
first_bad-drop f w i item items inside is =
    rw (add-one, drop-cons items i item inside, sym is) (by_export (is_exported w item) f w i item (drop (suc i) items) refl)

-- it is this one
pub refused : (i : ℕ) (o : Option ℕ) (first later : Option BadItem) (fault : ExportFault) → first ≡ or_later i o later → refusal_at i o ≡ Err fault
    → refusal Refused first ≡ Err fault
refused i None first later fault is bad = cc
refused i (Some place) first later fault is bad = ap (refusal Refused) is ∙ bad

-- it is a later one
pub accepted : (i : ℕ) (o : Option ℕ) (first later : Option BadItem) (u : Unit {0}) → first ≡ or_later i o later → refusal_at i o ≡ Ok u → later ≡ first
accepted i None first later u is fine = sym is
accepted i (Some place) first later u is fine = cc

-- there is none
pub none_left : (f : Record → Option ℕ) (w : Privacy) (i : ℕ) (items : List Record) (first : Option BadItem) → length items ≤ i
    → first_bad f w i (drop i items) ≡ first → refusal Refused first ≡ Ok tt
unfolding first_bad
none_left f w i items first past so_far = ap (refusal Refused) (sym so_far ∙ ap (first_bad f w i) (drop_of_length-le items {i = i} past))
