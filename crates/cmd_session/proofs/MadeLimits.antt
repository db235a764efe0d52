-- A session between made folders passes no limit, and costs the desktop no live row.
use Rattle.std.proofs.lemmas.Grind.{common_steps}
use Rattle.std.proofs.Common.{◌≡◌, ◌∙◌, ◌+◌, ◌<◌, ◌≤◌, ◌&&◌, ◌||◌, not, ℕ, suc, Bool, true, false, refl, ap, arith, le-ltb, List, [], ◌∷◌, ◌++◌, length, length-append}
use Rattle.std.specs.Prelude.{◌==◌, Option, None, Some, if◌then◌else◌, is_some, nat_lt, option_map, option_to_list}
use Rattle.std.specs.List.{flat_map, list_any}
use Rattle.std.proofs.lemmas.Bool.Decides.{nat_tests}
use Rattle.pdb_values.specs.Contents.{ContentValue}
use Rattle.pdb_values.specs.declared.record.Record.{Record}
use Rattle.conduit_rules.specs.ById.{each_id, id_bound, with_id}
use Rattle.conduit_rules.specs.Choices.{Choice, Sides}
use Rattle.conduit_rules.specs.declared.view.Seen.{Seen}
use Rattle.conduit_rules.proofs.ByIdLaws.{id_bound-is}
use Rattle.conduit_rules.specs.Plans.{gone_rows, kept_rows, lost}
use Rattle.conduit_rules.specs.States.{first}
use Rattle.record_merge.specs.Merging.{merged_archive, new_under, one_copy_behind}
use Rattle.session_plan.specs.Choosing.{choice, seen_held, view}
use Rattle.session_plan.specs.Limits.{first_behind, first_over, gone_count, new_count, row_count, sizes_of}
use Rattle.session_plan.specs.Losses.{first_loss, has_lost_all, is_agreed_on, is_loss, is_met, is_there, loses_live_rows}
use Rattle.session_plan.specs.Sizes.{is_over}
use Rattle.session_plan.specs.Skips.{active}
use Rattle.session_plan.specs.declared.wishes.Wishes.{Wishes}
use Rattle.made_folders.specs.Sides.{id_of, letter_on, record_on, record_with, records_on}
use Rattle.made_folders.specs.declared.item.Item.{Item}
use Rattle.made_folders.specs.declared.side.MadeSide.TheVariants.{Base, Handheld}
use Rattle.made_folders.specs.MadeMerges.{IsMadeMerge, made_choice, made_sides}
use Rattle.made_folders.specs.Numbers.{AreMade, item_at, kinds}
use Rattle.made_folders.proofs.EachLaws.{each_of}
use Rattle.made_folders.proofs.MergeLaws.{fate_is, handheld_is}
use Rattle.cmd_session.proofs.MadeItems.{records-few}
use Rattle.cmd_session.proofs.MadeReports.{AsksNothing, choice_is, made_device, made_meeting, made_slot, made_task, not_skipped, sides_are, tasks_are}
use Rattle.cmd_session.proofs.MadeSides.{AreItems}
use Rattle.session_plan.proofs.LossLaws.{there-view}
use Rattle.front_laws.proofs.DesktopLaws.{new_none}
use Rattle.std.proofs.lemmas.Bool.{or_from}

-- what is made by id, at most one of each and none where no item is, is not more than there are items
each_few : {A : Type 0} (g : ℕ → List A) (items : List Item) → AreMade 1 items → length items ≤ 5000
    → ((number : ℕ) → item_at number items ≡ None → number < id_bound → g number ≡ []) → ((number : ℕ) → length (g number) ≤ 1)
    → length (each_id g) ≤ length items
each_few {A} g items are few none one =
    let all : each_id g ≡ flat_map (λ (item : Item). g item.number) items =
    each_of g (λ (item : Item). g item.number) items are few none (λ item found ten some within. refl) in
    let sum = flat items in
    let same : length (each_id g) ≡ length (flat_map (λ (item : Item). g item.number) items) = ap length all in
    omega (arith, same, sum)
  where
    flat : (items : List Item) → length (flat_map (λ (item : Item). g item.number) items) ≤ length items
    flat [] = omega arith
    flat (item ∷ items) =
        let here = one item.number in
        let later = flat items in
        let both = length-append (g item.number) (flat_map (λ (item : Item). g item.number) items) in
        omega (arith, here, later, both)

with-one : (number : ℕ) (o : Option ContentValue) → length (with_id number o) ≤ 1
with-one number o = grind (arith, common_steps)

new-one : (number : ℕ) (r : Option Record) (o : Option ContentValue) → length (new_under number r o) ≤ 1
new-one number r o = grind (arith, common_steps)

-- nothing is kept or held where no item is
module _ (items : List Item) (number : ℕ) (are : AreMade 1 items) (none : item_at number items ≡ None) (within : number < id_bound) where
  keeps-none : (made_choice items).keep number ≡ None
  keeps-none = grind (arith, fate_is number items are within)

  loses-none : lost ((made_choice items).keep number) ((made_sides items).handheld number) ≡ None
  loses-none = grind (arith, handheld_is number items are within, keeps-none)

gone-few : {items : List Item} → AreItems items → length (gone_rows (made_choice items).keep (made_sides items).handheld) ≤ length items
gone-few {items} are =
    each_few (λ i. with_id i (lost ((made_choice items).keep i) ((made_sides items).handheld i))) items are.are are.few
    (λ number none within. ap (with_id number) (loses-none items number are.are none within))
    (λ number. with-one number (lost ((made_choice items).keep number) ((made_sides items).handheld number)))

new-few : {items : List Item} → AreItems items
    → length (each_id (λ i. new_under i (first i (records_on Handheld items)) ((made_choice items).keep i))) ≤ length items
new-few {items} are =
    each_few (λ i. new_under i (first i (records_on Handheld items)) ((made_choice items).keep i)) items are.are are.few
    (λ number none within. ap (new_under number (first number (records_on Handheld items))) (keeps-none items number are.are none within)
    ∙ new_none number (first number (records_on Handheld items)))
    (λ number. new-one number (first number (records_on Handheld items)) ((made_choice items).keep number))

not_over : {items : List Item} {wishes : Wishes} → AreItems items → AsksNothing wishes → IsMadeMerge items
    → is_over (sizes_of (made_meeting items wishes) 1 1 (made_task items)) ≡ false
unfolding made_task
not_over {items} {wishes} are asks merged =
    let meeting = made_meeting items wishes in
    let task = made_task items in
    let chosen = choice_is items asks in
    let both = sides_are items asks in
    let many = are.few in
    let records = records-few Handheld items in
    let added : length (choice meeting task).adds ≡ kinds 9 items = ap (λ (c : Choice). length c.adds) chosen ∙ merged.added in
    let kept : length (kept_rows (choice meeting task).keep) ≡ length (kept_rows (made_choice items).keep) =
    ap (λ (c : Choice). length (kept_rows c.keep)) chosen in
    let new : length (each_id (λ i. new_under i (first i (records_on Handheld items)) ((choice meeting task).keep i)))
    ≡ length (each_id (λ i. new_under i (first i (records_on Handheld items)) ((made_choice items).keep i))) =
    ap (λ (c : Choice). length (each_id (λ i. new_under i (first i (records_on Handheld items)) (c.keep i)))) chosen in
    let new_most = new-few are in
    let gone : gone_count meeting task ≡ length (gone_rows (made_choice items).keep (made_sides items).handheld) =
    ap (λ (c : Choice). length (gone_rows c.keep (seen_held meeting task))) chosen
    ∙ ap (λ (s : Sides). length (gone_rows (made_choice items).keep s.handheld)) both in
    let gone_most = gone-few are in
    let archive : length (merged_archive (choice meeting task) []) ≡ 0 =
    ap (λ (c : Choice). length (one_copy_behind [] ([] ++ c.archive))) chosen ∙ ap (λ (l : List _). length (one_copy_behind [] ([] ++ l))) merged.archived in
    let rows = merged.rows in
    or_from (nat_lt 200 0) _ refl (or_from (nat_lt 200 0) _ refl
    (or_from (nat_lt 65535 (length (records_on Handheld items) + new_count meeting task)) _
    (le-ltb _ _ (omega (arith, many, records, added, new, new_most, rows)))
    (or_from (nat_lt 65535 (row_count meeting task)) _ (le-ltb _ _ (omega (arith, many, added, kept, rows)))
    (or_from (nat_lt 65535 (row_count meeting task + gone_count meeting task)) (nat_lt 65535 (length (merged_archive (choice meeting task) [])))
    (le-ltb _ _ (omega (arith, many, added, kept, rows, gone, gone_most)))
    (le-ltb _ _ (omega (arith, archive)))))))

-- no database would pass a limit
pub none_over : {items : List Item} {wishes : Wishes} → AreItems items → AsksNothing wishes → IsMadeMerge items
    → first_over (made_meeting items wishes) ≡ None
unfolding first_over first_behind active made_task made_meeting made_device made_slot
none_over {items} {wishes} are asks merged =
    grind (arith, made_meeting items wishes, tasks_are items asks, made_task items, [], not_skipped items, not_over are asks merged)

-- ---- the handheld has all that the base has

-- a record of an item that the base has a row of
module _ (item : Item) (old : nat_lt item.kind 8 ≡ true) where
  own_number : id_of item ≡ item.number
  own_number = grind (arith, nat_tests, old)

  has_record : (later : List Record) → is_some (first (id_of item) (option_to_list (record_on Handheld item) ++ later)) ≡ true
  has_record later = by ((item.kind == 5) || (item.kind == 8)) (nat_lt item.kind 8) old
    where
      one : (letter : ℕ) → is_some (first (id_of item) (record_with item letter ∷ later)) ≡ true
      one letter = let own : (id_of item == id_of item) ≡ true = grind (arith, nat_tests) in rw own refl

      by : (changed there : Bool) → there ≡ true
          → is_some (first (id_of item) (option_to_list (option_map (record_with item) (if changed then Some 104 else if there then Some 114 else None)) ++ later))
          ≡ true
      by true there is = one 104
      by false true is = one 114
      by false false is = absurd cc

-- those of later items are there too
has_later : (item : Item) (later : List Record) (i : ℕ) → is_some (first i later) ≡ true
    → is_some (first i (option_to_list (record_on Handheld item) ++ later)) ≡ true
has_later item later i is = by (letter_on Handheld item.kind)
  where
    by : (letter : Option ℕ) → is_some (first i (option_to_list (option_map (record_with item) letter) ++ later)) ≡ true
    by None = is
    by (Some letter) = one (id_of item == i)
      where
        one : (b : Bool) → is_some (if b then Some (record_with item letter) else first i later) ≡ true
        one true = refl
        one false = is

lost_by : (own there some rest : Bool) → own ≡ true → there ≡ true → ((own || some) && not ((own && there) || rest)) ≡ false
lost_by own there some rest is met = grind arith

has_all : (seen : List Seen) (from : ℕ) (items : List Item) → AreMade from items → 0 < from → length items + from ≤ id_bound
    → ((i : ℕ) → nat_lt i id_bound ≡ true → is_some (first i (records_on Handheld items)) ≡ true → is_there seen i ≡ true)
    → has_lost_all (records_on Base items) seen ≡ false
has_all seen from [] are some within there = refl
has_all seen from (item ∷ items) are some within there =
    by (nat_lt item.kind 8) refl
    (has_all seen (suc from) items are.1.1 (omega arith) (omega (arith, within))
    (λ i below is. there i below (has_later item (records_on Handheld items) i is)))
  where
    by : (b : Bool) → nat_lt item.kind 8 ≡ b → has_lost_all (records_on Base items) seen ≡ false
        → has_lost_all (option_to_list (option_map (record_with item) (if b then Some 114 else None)) ++ records_on Base items) seen ≡ false
    by true old rest =
        let own = own_number item old in
        let some_id : not (id_of item == 0) ≡ true = grind (arith, nat_tests, own, are.0, some) in
        let below : nat_lt (id_of item) id_bound ≡ true = grind (arith, nat_tests, own, are.0, within) in
        lost_by (not (id_of item == 0)) (is_there seen (id_of item)) (list_any is_agreed_on (records_on Base items))
        (list_any (is_met seen) (records_on Base items)) some_id (there (id_of item) below (has_record item old (records_on Handheld items)))
    by false new rest = rest

not_lost : {items : List Item} (wishes : Wishes) → AreItems items → is_loss (made_meeting items wishes) (made_task items) ≡ false
unfolding made_task made_meeting made_slot made_device
not_lost {items} wishes are =
    let meeting = made_meeting items wishes in
    let task = made_task items in
    let bound : id_bound ≡ 16777216 = id_bound-is in
    let all : has_lost_all (records_on Base items) (view meeting task) ≡ false =
    has_all (view meeting task) 1 items are.are (omega arith) (let few = are.few in omega (arith, few, bound))
    (λ i below is. there-view meeting task i ∙ by (nat_lt i id_bound) (is_some (first i (records_on Handheld items))) below is) in
    none_by (has_lost_all (records_on Base items) (view meeting task)) (loses_live_rows meeting task) all
  where
    by : (b c : Bool) → b ≡ true → c ≡ true → (b && c) ≡ true
    by b c is too = grind arith

    none_by : (b c : Bool) → b ≡ false → (b && c) ≡ false
    none_by b c is = grind arith

-- the desktop of a made folder was never synchronised, and the handheld has all that the base has
pub none_lost : {items : List Item} {wishes : Wishes} → AreItems items → AsksNothing wishes → first_loss (made_meeting items wishes) ≡ None
unfolding first_loss active made_task made_meeting made_device made_slot
none_lost {items} {wishes} are asks =
    grind (arith, made_meeting items wishes, tasks_are items asks, made_task items, [], not_skipped items, not_lost wishes are)
