-- Items by their numbers, and the records that the sides have under them.
use Rattle.std.proofs.lemmas.Grind.{common_steps}
use Rattle.std.proofs.Common.{◌≡◌, ◌≤◌, ◌<◌, ◌+◌, ℕ, zero, suc, ◌==◌, ◌%◌, Bool, true, false, refl, sym, subst, ap, ◌∙◌, arith, List, [], ◌∷◌, length}
use Rattle.std.proofs.Common.{if◌then◌else◌, Option, Some, None, option_to_list}
use Rattle.std.specs.Option.{option_map, option_and_then, option_or}
use Rattle.std.proofs.lemmas.Bool.Decides.{nat_tests}
use Rattle.std.proofs.lemmas.List.Folds.{find-append}
use Rattle.rand_pcg.specs.Lcg.{Lcg}
use Rattle.rand_pcg.specs.Pcg.{pcg32}
use Rattle.pdb_values.specs.declared.record.Record.{Record}
use Rattle.conduit_rules.specs.States.{first}
use Rattle.made_folders.specs.Items.{items_from}
use Rattle.made_folders.specs.Sides.{letter_on, record_on, record_with, records_on}
use Rattle.made_folders.specs.declared.item.Item.{Item}
use Rattle.made_folders.specs.declared.side.MadeSide.{MadeSide}
use Rattle.made_folders.specs.Numbers.{AreMade, item_at, known_on}
use Rattle.made_folders.proofs.ItemLaws.{items_from-suc, items_from-zero}

below_ten : (word : ℕ) → word % 10 < 10
below_ten word = omega arith

-- items that were drawn
pub drawn_are_made : (from count : ℕ) (generator : Lcg) → AreMade from (items_from from count generator)
drawn_are_made from zero generator = subst (AreMade from) (sym (items_from-zero from generator)) tt
drawn_are_made from (suc count) generator =
    subst (AreMade from) (sym (items_from-suc from count generator))
    (refl, (below_ten (pcg32 generator).0, drawn_are_made (suc from) count (pcg32 generator).1))

-- no item has a number below the first one
pub item_at-before : (number from : ℕ) (items : List Item) → AreMade from items → number < from → item_at number items ≡ None
item_at-before number from [] are before = refl
item_at-before number from (item ∷ items) are before = grind (arith, nat_tests, are.0, item_at-before number (suc from) items are.1.1 (omega arith))

-- nor one behind the last
pub item_at-behind : (number from : ℕ) (items : List Item) → AreMade from items → length items + from ≤ number → item_at number items ≡ None
item_at-behind number from [] are behind = refl
item_at-behind number from (item ∷ items) are behind = grind (arith, nat_tests, are.0, item_at-behind number (suc from) items are.1.1 (omega arith))

-- ---- records under a number

one_letter : (number : ℕ) (item : Item) (letter : Option ℕ) → 0 < number
    → first number (option_to_list (option_map (record_with item) letter)) ≡
    (if item.number == number then (if item.kind == 9 then None else option_map (record_with item) letter) else None)
one_letter number item letter e = grind arith

one_record : (side : MadeSide) (number : ℕ) (item : Item) → 0 < number
    → first number (option_to_list (record_on side item)) ≡ (if item.number == number then known_on side item else None)
one_record side number item some = one_letter number item (letter_on side item.kind) some

or_none : {A : Type 0} (o : Option A) → option_or o None ≡ o
or_none o = grind arith

here_or_later : (side : MadeSide) (item : Item) (later : Option Item) (is : Bool) → (is ≡ true → later ≡ None)
    → option_or (if is then known_on side item else None) (option_and_then (known_on side) later) ≡ option_and_then (known_on side)
    (if is then Some item else later)
here_or_later side item later is e = grind arith

-- the first record of a number is that of its item
pub first_on : (side : MadeSide) (number from : ℕ) (items : List Item) → AreMade from items → 0 < number
    → first number (records_on side items) ≡ option_and_then (known_on side) (item_at number items)
first_on side number from [] are some = refl
first_on side number from (item ∷ items) are some =
    find-append (λ (r : Record). r.id == number) (option_to_list (record_on side item)) (records_on side items)
    ∙ ap {A = Option Record × Option Record} (λ p. option_or p.0 p.1)
    (λ k. (one_record side number item some k, first_on side number (suc from) items are.1.1 some k))
    ∙ here_or_later side item (item_at number items) (item.number == number) (λ is. item_at-before number (suc from) items are.1.1
    (grind (arith, nat_tests, is, are.0)))
