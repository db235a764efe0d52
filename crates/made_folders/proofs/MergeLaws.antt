-- Made folders are merged by the kinds of their items.
use Rattle.std.proofs.lemmas.Grind.{common_steps}
use Rattle.std.proofs.Common.{◌≡◌, ◌<◌, ◌≤◌, ◌+◌, ℕ, zero, suc, ◌==◌, Bool, true, false, refl, sym, subst, ap, ◌∙◌, arith, List, [], ◌∷◌, ◌++◌, length}
use Rattle.std.proofs.Common.{if◌then◌else◌, append-nil, Option, Some, None, option_to_list, map}
use Rattle.std.specs.Prelude.{cond, filter, flat_map, nat_lt}
use Rattle.std.specs.Option.{option_map, option_and_then}
use Rattle.std.proofs.lemmas.Bool.Decides.{nat_tests}
use Rattle.pdb_values.specs.Contents.{ContentValue}
use Rattle.pdb_values.specs.declared.record.Record.{Record}
use Rattle.conduit_rules.specs.ById.{each_id, id_bound, with_id}
use Rattle.conduit_rules.specs.Choices.{fate_at, kept_twice, partner, partners}
use Rattle.conduit_rules.specs.Contents.{count_of}
use Rattle.conduit_rules.specs.Fates.{Fate, fate}
use Rattle.conduit_rules.specs.News.{unpaired}
use Rattle.conduit_rules.specs.Plans.{purged_at, replacement}
use Rattle.conduit_rules.specs.States.{BaseState, SideState, base_at, first, has_row, held, held_where, is_row, no_base}
use Rattle.conduit_rules.specs.Views.{IsHonest, IsHonestUnder, fast_seen, view_held}
use Rattle.conduit_rules.specs.declared.action.Action.TheVariants.{Sync}
use Rattle.conduit_rules.specs.declared.view.Seen.{Seen}
use Rattle.conduit_rules.proofs.ViewLaws.{first-id, view_held-fast}
use Rattle.conduit_rules.proofs.SettledLaws.{only}
use Rattle.made_folders.specs.Items.{generator_of, made}
use Rattle.made_folders.specs.Sides.{letter_on, record_with, records_on, text_of}
use Rattle.made_folders.specs.declared.item.Item.{Item}
use Rattle.made_folders.specs.declared.side.MadeSide.TheVariants.{Base, Desktop, Handheld}
use Rattle.made_folders.proofs.ItemLaws.{length-items_from}
use Rattle.made_folders.specs.MadeMerges.{IsMadeMerge, made_choice, made_sides, made_view, was_received}
use Rattle.made_folders.specs.Numbers.{AreMade, item_at, kinds, known_on}
use Rattle.made_folders.proofs.CellLaws.{base_on, facts, held_on, kept_on, seen_on}
use Rattle.made_folders.proofs.EachLaws.{but_kinds, each_nothing, each_of, filter_each, of_kind, of_kinds}
use Rattle.made_folders.proofs.LooseLaws.{AreBased, loose_archived, loose_made, mate_contents, new_contents, new_unpaired, no_mate}
use Rattle.made_folders.proofs.NumberLaws.{drawn_are_made, first_on, item_at-before}

-- ---- what lies under a number

module _ (number : ℕ) {item : Item} where
  at_step : (one : Item) (items : List Item) (P : Item → Type 0) (is : Bool) → (one.number == number) ≡ is → item_at number (one ∷ items) ≡ Some item
      → (one.number ≡ number → P one) → (item_at number items ≡ Some item → P item) → P item
  at_step one items P true is found here later =
      let same_option : Some one ≡ Some item = grind (arith, is, found) in
      let same : one ≡ item = cc in
      let equal : one.number ≡ number = grind (arith, nat_tests, is) in
      subst P same (here equal)
  at_step one items P false is found here later = later (grind (arith, is, found))

  found_few : (from : ℕ) (items : List Item) → AreMade from items → item_at number items ≡ Some item → item.kind < 10
  found_few from [] are found = absurd (cc)
  found_few from (one ∷ items) are found =
      at_step one items (λ (x : Item). x.kind < 10) (one.number == number) refl found (λ equal. are.1.0) (found_few (suc from) items are.1.1)

  found_number : (items : List Item) → item_at number items ≡ Some item → item.number ≡ number
  found_number [] found = absurd (cc)
  found_number (one ∷ items) found =
      at_step one items (λ (x : Item). x.number ≡ number) (one.number == number) refl found (λ equal. equal) (found_number items)

base_is : (number : ℕ) (items : List Item) → AreMade 1 items → 0 < number
    → base_at (records_on Base items) false number ≡ base_on (item_at number items)
base_is number items are some = grind (arith, nat_tests, first_on Base number 1 items are some)

no_letter : (item : Item) (letter : Option ℕ) (records : List Record) → ◌≡◌ {A = Option ℕ} letter (letter_on Handheld item.kind) → 0 < item.number
    → first 0 records ≡ None → first 0 (option_to_list (option_map (record_with item) letter) ++ records) ≡ None
no_letter item letter records e f g = grind arith

first_zero : (from : ℕ) (items : List Item) → AreMade from items → 0 < from → first 0 (records_on Handheld items) ≡ None
first_zero from [] are some = refl
first_zero from (item ∷ items) are some =
    no_letter item (letter_on Handheld item.kind) (records_on Handheld items) refl (omega (arith, are.0, some))
    (first_zero (suc from) items are.1.1 (omega arith))

-- each record of the handheld that is read by changes alone has the content of its base row
honest_under : (number : ℕ) (items : List Item) (r : Record) (o : Option Item) → AreMade 1 items → item_at number items ≡ o
    → option_and_then (known_on Handheld) o ≡ Some r → IsHonestUnder (base_on o) r
honest_under number items r None are is found = absurd (cc)
honest_under number items r (Some item) are is found = (facts item (found_few number 1 items are is)).honest r found

is_honest : (items : List Item) → AreMade 1 items → IsHonest (records_on Base items) (records_on Handheld items)
is_honest items are zero r found = tt
is_honest items are (suc i) r found =
    subst (λ b. IsHonestUnder b r) (sym (base_is (suc i) items are (omega arith)))
    (honest_under (suc i) items r (item_at (suc i) items) are refl (sym (first_on Handheld (suc i) 1 items are (omega arith)) ∙ found))

-- what the handheld holds, as it was seen
seen_is : (number : ℕ) (items : List Item) → AreMade 1 items → number < id_bound
    → view_held (made_view items) number ≡ held (records_on Handheld items) number
seen_is number items are within = view_held-fast (records_on Base items) (records_on Handheld items) number (grind (arith, nat_tests, within))
    (is_honest items are)

pub handheld_is : (number : ℕ) (items : List Item) → AreMade 1 items → number < id_bound
    → (made_sides items).handheld number ≡ held_on Handheld (item_at number items)
handheld_is zero items are within =
    grind (arith, seen_is zero items are within, first_zero 1 items are (omega arith), item_at-before 0 1 items are (omega arith))
handheld_is (suc i) items are within = seen_is (suc i) items are within ∙ ap held_where (first_on Handheld (suc i) 1 items are (omega arith))

abbrev becomes_at : Option Item → Fate
becomes_at None = only None
becomes_at (Some item) = only (kept_on item)

becomes_is : (number : ℕ) (items : List Item) (o : Option Item) → AreMade 1 items → item_at number items ≡ o
    → fate (base_on o) (held_on Handheld o) (held_on Desktop o) ≡ becomes_at o
becomes_is number items None are is = refl
becomes_is number items (Some item) are is = (facts item (found_few number 1 items are is)).becomes

pub fate_is : (number : ℕ) (items : List Item) → AreMade 1 items → number < id_bound
    → fate_at (made_sides items) number ≡ becomes_at (item_at number items)
fate_is zero items are within = grind (arith, handheld_is 0 items are within, item_at-before 0 1 items are (omega arith))
fate_is (suc i) items are within =
    ap {A = BaseState × SideState × SideState} (λ x. fate x.0 x.1 x.2) (λ k. (
      base_is (suc i) items are (omega arith) k,
      handheld_is (suc i) items are within k,
      ap held_where (first_on Desktop (suc i) 1 items are (omega arith)) k,
    ))
    ∙ becomes_is (suc i) items (item_at (suc i) items) are refl

-- ---- what is kept, replaced and purged

module _ (items : List Item) (are : AreMade 1 items) where
  keep_is : (number : ℕ) {o : Option Item} → number < id_bound → item_at number items ≡ o → (made_choice items).keep number ≡ (becomes_at o).keep
  keep_is number within is = ap (λ (f : Fate). f.keep) (fate_is number items are within ∙ ap becomes_at is)

  held_is : (number : ℕ) {o : Option Item} → number < id_bound → item_at number items ≡ o → (made_sides items).handheld number ≡ held_on Handheld o
  held_is number within is = handheld_is number items are within ∙ ap (λ x. held_on Handheld x) is

  kept_by : length items ≤ 5000
      → each_id (λ i. with_id i ((made_choice items).keep i)) ≡ flat_map (λ (item : Item). with_id item.number (kept_on item)) items
  kept_by few =
      each_of (λ i. with_id i ((made_choice items).keep i)) (λ (item : Item). with_id item.number (kept_on item)) items are few
      (λ number none within. ap (with_id number) (keep_is number within none))
      (λ item found ten some within. ap (with_id item.number) (keep_is item.number within found))

  replaced_by : length items ≤ 5000
      → each_id (λ i. with_id i (replacement ((made_choice items).keep i) ((made_sides items).handheld i))) ≡ flat_map
      (λ (item : Item). with_id item.number (replacement (kept_on item) (held_on Handheld (Some item)))) items
  replaced_by few =
      each_of (λ i. with_id i (replacement ((made_choice items).keep i) ((made_sides items).handheld i)))
      (λ (item : Item). with_id item.number (replacement (kept_on item) (held_on Handheld (Some item)))) items are few
      (λ number none within. ap {A = Option ContentValue × SideState} (λ x. with_id number (replacement x.0 x.1))
      (λ k. (keep_is number within none k, held_is number within none k)))
      (λ item found ten some within. ap {A = Option ContentValue × SideState} (λ x. with_id item.number (replacement x.0 x.1))
      (λ k. (keep_is item.number within found k, held_is item.number within found k)))

  purged_by : length items ≤ 5000
      → each_id (λ i. purged_at ((made_choice items).keep i) ((made_sides items).handheld i) i) ≡ flat_map
      (λ (item : Item). purged_at (kept_on item) (held_on Handheld (Some item)) item.number) items
  purged_by few =
      each_of (λ i. purged_at ((made_choice items).keep i) ((made_sides items).handheld i) i) (λ (item : Item). purged_at (kept_on item)
      (held_on Handheld (Some item)) item.number) items are few
      (λ number none within. ap {A = Option ContentValue × SideState} (λ x. purged_at x.0 x.1 number)
      (λ k. (keep_is number within none k, held_is number within none k)))
      (λ item found ten some within. ap {A = Option ContentValue × SideState} (λ x. purged_at x.0 x.1 item.number)
      (λ k. (keep_is item.number within found k, held_is item.number within found k)))

  -- ---- nothing is archived, and what the desktop made is added

  news_none : (number : ℕ) → number < id_bound → option_to_list (fate_at (made_sides items) number).news ≡ []
  news_none number within = ap (λ (f : Fate). option_to_list f.news) (fate_is number items are within ∙ ap becomes_at refl)
      ∙ no_news (item_at number items)
    where
      no_news : (o : Option Item) → option_to_list (becomes_at o).news ≡ []
      no_news None = refl
      no_news (Some item) = refl

abbrev under : ℕ → List ContentValue → List (ℕ × ContentValue)
under number contents = map (λ c. (number, c)) contents

archive_none : (items : List Item) (number : ℕ) → AreMade 1 items → number < id_bound → under number (fate_at (made_sides items) number).archive ≡ []
archive_none items number are within = grind (arith, fate_is number items are within)

base_zero : (items : List Item) → has_row (records_on Base items) 0 ≡ false
base_zero items = refl

based_from : (whole : List Item) (from : ℕ) (items : List Item) → AreMade 1 whole → AreMade from items → 0 < from
    → ((number : ℕ) → from ≤ number → item_at number whole ≡ item_at number items) → AreBased (has_row (records_on Base whole)) items
based_from whole from [] are rest some same = tt
based_from whole from (item ∷ items) are rest some same =
    let found : item_at item.number whole ≡ Some item = same item.number (omega (arith, rest.0)) ∙ grind (arith, nat_tests) in (
      (λ (old : nat_lt item.kind 7 ≡ true). ap is_row (base_is item.number whole are (omega (arith, rest.0, some)) ∙ ap base_on found)
          ∙ (facts item rest.1.0).based old),
      based_from whole (suc from) items are rest.1.1 (omega arith) (λ number behind. same number (omega arith) ∙ grind (arith, nat_tests, rest.0)),
    )

partner_is : (number : ℕ) (items : List Item) {o : Option Item} → AreMade 1 items → number < id_bound → item_at number items ≡ o
    → option_to_list (partner (base_at (records_on Base items) false number) ((made_sides items).handheld number)) ≡ option_to_list
    (partner (base_on o) (held_on Handheld o))
partner_is zero items {o} are within is =
    let none : o ≡ None = sym is ∙ item_at-before 0 1 items are (omega arith) in
    ap (λ h. option_to_list (partner no_base h)) (held_is items are 0 within is)
    ∙ ap (λ x. option_to_list (partner (base_on x) (held_on Handheld o))) (sym none)
partner_is (suc i) items are within is =
    ap {A = BaseState × SideState} (λ x. option_to_list (partner x.0 x.1)) (λ k. (
      (base_is (suc i) items are (omega arith) ∙ ap base_on is) k,
      held_is items are (suc i) within is k,
    ))

mates_are : (items : List Item) → AreMade 1 items → length items ≤ 5000 → partners (made_sides items) ≡ flat_map mate_contents items
mates_are items are few =
    each_of (λ i. option_to_list (partner (base_at (records_on Base items) false i) ((made_sides items).handheld i))) mate_contents items are few
    (λ number none within. partner_is number items are within none)
    (λ item found ten some within. partner_is item.number items are within found ∙ (facts item ten).mate)

-- no record was changed on both sides
twice_none : (items : List Item) → AreMade 1 items → kept_twice Sync (made_sides items) ≡ []
twice_none items are =
    each_nothing (λ i. option_to_list (fate_at (made_sides items) i).news) (λ number within. news_none items are number within)

adds_are : (items : List Item) → AreMade 1 items → length items ≤ 5000 → (made_choice items).adds ≡ flat_map new_contents items
adds_are items are few =
    let rows = loose_made (has_row (records_on Base items)) 1 items are (omega arith) (base_zero items)
    (based_from items 1 items are are (omega arith) (λ number behind. refl)) in
    let news = twice_none items are in
    ap {A = List ContentValue × List ContentValue} (λ x. unpaired (λ c. count_of c x.0) x.1) (λ k. (
      mates_are items are few k,
      (ap {A = List ContentValue × List ContentValue} (λ x. x.0 ++ x.1) (λ m. (rows m, news m))
          ∙ append-nil (flat_map new_contents items)) k,
    ))
    ∙ new_unpaired (λ c. count_of c (flat_map mate_contents items)) items (λ item. no_mate item items)

archive_is : (items : List Item) → AreMade 1 items → (made_choice items).archive ≡ []
archive_is items are =
    ap {A = List ContentValue × List (ℕ × ContentValue)} (λ x. under 0 x.0 ++ x.1) (λ k. (
      loose_archived items (has_row (records_on Base items)) k,
      each_nothing (λ i. under i (fate_at (made_sides items) i).archive) (λ number within. archive_none items number are within) k,
    ))

-- ---- what is received

abbrev is_received : Seen → Bool
is_received seen = was_received seen.state

-- what a reading receives of a number
abbrev received_at : List Item → ℕ → List Seen
received_at items number = filter is_received (option_to_list (option_map (fast_seen (records_on Base items)) (first number (records_on Handheld items))))

abbrev received_of : Item → List Seen
received_of item = filter is_received (option_to_list (option_map (seen_on (base_on (Some item))) (known_on Handheld item)))

none_received : (items : List Item) (number : ℕ) → AreMade 1 items → item_at number items ≡ None → received_at items number ≡ []
none_received items zero are none = grind (arith, first_zero 1 items are (omega arith))
none_received items (suc i) are none = grind (arith, first_on Handheld (suc i) 1 items are (omega arith))

one_received : (items : List Item) (item : Item) → AreMade 1 items → item_at item.number items ≡ Some item → 0 < item.number
    → received_at items item.number ≡ received_of item
one_received items item are found some = grind (arith, first_on Handheld item.number 1 items are some, base_is item.number items are some)

received_is : (items : List Item) → AreMade 1 items → length items ≤ 5000 → filter is_received (made_view items) ≡ flat_map received_of items
received_is items are few =
    filter_each is_received (λ i. option_to_list (option_map (fast_seen (records_on Base items)) (first i (records_on Handheld items)))) id_bound
    ∙ each_of (received_at items) received_of items are few (λ number none within. none_received items number are none)
    (λ item found ten some within. one_received items item are found some)

-- ---- the law

one_if_new : (item : Item) → length (new_contents item) ≡ cond (item.kind == 9) 1 0
one_if_new item = grind arith

merged_by_kinds : (items : List Item) → AreMade 1 items → length items ≤ 5000 → IsMadeMerge items
merged_by_kinds items are few = record {
  received = ap length (received_is items are few) ∙ of_kinds received_of 5 8 1 items are (λ item ten. (facts item ten).received);
  replaced = ap length (replaced_by items are few) ∙ of_kind
      (λ (item : Item). with_id item.number (replacement (kept_on item) (held_on Handheld (Some item)))) 6 1 items are
      (λ item ten. (facts item ten).replaced);
  added = ap length (adds_are items are few) ∙ of_kind new_contents 9 1 items are (λ item ten. one_if_new item);
  purged = ap length (purged_by items are few) ∙ of_kind (λ (item : Item). purged_at (kept_on item) (held_on Handheld (Some item)) item.number) 7 1
      items are (λ item ten. (facts item ten).purged);
  archived = archive_is items are;
  twice = ap length (twice_none items are);
  rows = ap (λ ys. length ys + (kinds 9 items + kinds 7 items)) (kept_by items are few)
      ∙ but_kinds (λ (item : Item). with_id item.number (kept_on item)) 9 7 1 items are (λ item ten. (facts item ten).kept);
}

-- what a seed and a count make
pub made_merge : (seed count : ℕ) → count ≤ 5000 → IsMadeMerge (made seed count)
made_merge seed count few =
    merged_by_kinds (made seed count) (drawn_are_made 1 count (generator_of seed))
    (subst (λ n. n ≤ 5000) (sym (length-items_from 1 count (generator_of seed))) few)
