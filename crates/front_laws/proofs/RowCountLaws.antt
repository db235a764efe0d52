-- How many databases a desktop has once a session is merged: no more than its limit, where that isn't passed.
use Rattle.std.proofs.lemmas.List.Sums.{sum_by-cons, sum_by-set}
use Rattle.std.proofs.Common.{◌≡◌, ◌∙◌, ◌+◌, ◌≤◌, ◌||◌, ap, sym, refl, arith, ℕ, Bool, true, false, cond, List, [], ◌∷◌, ◌++◌, length, take, drop, get_or, set, is_some}
use Rattle.std.specs.Prelude.{Option, Some, None, nat_lt}
use Rattle.std.specs.List.{AllByRecursion}
use Rattle.std.specs.Str.{bytes_eq}
use Rattle.pdb_values.specs.Bounds.{most_databases, most_entries}
use Rattle.pdb_values.specs.Databases.{DatabaseValue}
use Rattle.pdb_values.specs.NamedDatabases.{database_of, with_put}
use Rattle.pdb_values.proofs.NamedLaws.{database_of-with_put, length-replaced, length-with_new, with_put-cases}
use Rattle.desk_store.specs.Desks.{all_rows}
use Rattle.desk_store.specs.Shelves.{ShelvesValue, SlotValue, new_slot, number_of, with_place}
use Rattle.desk_store.proofs.SlotListLaws.{place_there, with_place-cases}
use Rattle.session_plan.specs.Limits.{first_behind, first_over, sizes_of, with_one}
use Rattle.session_plan.specs.Merges.{merged_of, merged_shelves, merged_slot, merged_slots, rows_before, shelve}
use Rattle.session_plan.specs.Choosing.{add_count}
use Rattle.session_plan.specs.Sizes.{is_over}
use Rattle.session_plan.specs.Skips.{active}
use Rattle.session_plan.specs.Tasks.{Meeting, Task, slot_of, task_of}
use Rattle.session_plan.specs.declared.sizes.Sizes.{Sizes}
use Rattle.front_laws.proofs.MergedLaws.{AreTasks}
use Rattle.front_laws.proofs.ShelfLaws.{rows_name}
use Rattle.front_laws.proofs.TaskLaws.{are-active}
use Rattle.front_laws.proofs.PhaseActs.{first_not}
use Rattle.front_laws.proofs.SkipLaws.{right_false}
use Rattle.sync_session.proofs.PlannedLaws.{at_most}
use Rattle.folder_files.proofs.ValueLaws.{or_first}

-- ---- one database more, or none

put-new : (new : DatabaseValue) (databases : List DatabaseValue) → length (with_put new databases) ≤ length databases + 1
put-new new databases =
    with_put-cases (λ ds. length ds ≤ length databases + 1) new databases (λ none. let count = length-with_new new databases in omega (arith, count))
    (λ was there. let count = length-replaced new databases in omega (arith, count))

pub no_both : (b : Bool) → b ≡ false → b ≡ true → ⊥
no_both b is_false is_true = cc

put-old : (new : DatabaseValue) (databases : List DatabaseValue) → is_some (database_of new.head.name databases) ≡ true
    → length (with_put new databases) ≡ length databases
put-old new databases some =
    with_put-cases (λ ds. length ds ≡ length databases) new databases
    (λ none. absurd (no_both (is_some (database_of new.head.name databases)) (ap is_some none) some)) (λ was there. length-replaced new databases)

put-there : (new : DatabaseValue) (databases : List DatabaseValue) (name : List ℕ) → is_some (database_of name databases) ≡ true
    → is_some (database_of name (with_put new databases)) ≡ true
put-there new databases name some = ap is_some (database_of-with_put name new databases) ∙ by (bytes_eq new.head.name name)
  where
    by : (b : Bool) → is_some (cond b (Some new) (database_of name databases)) ≡ true
    by true = refl
    by false = some

-- ---- the rows of a slot

desktops-within : (sizes : Sizes) → is_over sizes ≡ false → sizes.desktops ≤ 200
desktops-within sizes is =
    let a = nat_lt most_databases sizes.handhelds in
    let b = nat_lt most_databases sizes.desktops in
    let c = nat_lt most_entries sizes.records
    || (nat_lt most_entries sizes.rows || (nat_lt most_entries sizes.base || nat_lt most_entries sizes.archive)) in
    at_most most_databases sizes.desktops (or_first b c (right_false a (b || c) is))

-- each database that has rows has them on the shelf
abbrev AreThere : List Task → List DatabaseValue → Type 0
AreThere ts rows = AllByRecursion (λ (t : Task). is_some t.rows ≡ true → is_some (database_of t.name rows) ≡ true) ts

module _ (m : Meeting) (b : ℕ) where
  module _ (t : Task) (is : t ≡ task_of m t.name) (ids : List ℕ) (shelves : ShelvesValue) where
    abbrev then_rows : List DatabaseValue
    then_rows = (shelve m t ids (rows_before m.wishes.date t.rows t.handheld) shelves).rows

    step-few : (d : ℕ) → (is_some t.rows ≡ true → is_some (database_of t.name shelves.rows) ≡ true) → length shelves.rows + b ≤ d
        → length then_rows + b ≤ with_one t.rows d
    step-few d there few = by t.rows refl (rows_before m.wishes.date t.rows t.handheld) refl
      where
        by : (r : Option DatabaseValue) → t.rows ≡ r → (o : Option DatabaseValue) → rows_before m.wishes.date t.rows t.handheld ≡ o
            → length (shelve m t ids o shelves).rows + b ≤ with_one r d
        by None none None before = omega (arith, few)
        by None none (Some r) before = let more = put-new (merged_of m t ids r).rows shelves.rows in omega (arith, few, more)
        by (Some x) some None before = few
        by (Some x) some (Some r) before =
            let named = rows_name m t is before in
            let same = put-old (merged_of m t ids r).rows shelves.rows
            (ap (λ n. is_some (database_of n shelves.rows)) named ∙ there (ap is_some some)) in
            omega (arith, few, same)

    then-there : (ts : List Task) → AreThere ts shelves.rows → AreThere ts then_rows
    then-there [] there = tt
    then-there (u ∷ ts) there = (λ some. by (rows_before m.wishes.date t.rows t.handheld) (there.0 some), then-there ts there.1)
      where
        by : (o : Option DatabaseValue) → is_some (database_of u.name shelves.rows) ≡ true
            → is_some (database_of u.name (shelve m t ids o shelves).rows) ≡ true
        by None some = some
        by (Some r) some = put-there (merged_of m t ids r).rows shelves.rows u.name some

  one-within : (t : Task) (handhelds d : ℕ) → is_over (sizes_of m handhelds d t) ≡ false → d ≤ 200 → with_one t.rows d ≤ 200
  one-within t handhelds d is most = by t.rows refl (desktops-within (sizes_of m handhelds d t) is)
    where
      by : (r : Option DatabaseValue) → t.rows ≡ r → (sizes_of m handhelds d t).desktops ≤ 200 → with_one r d ≤ 200
      by None none within = grind (arith, none, within)
      by (Some x) some within = most

  rows-grow : (ts : List Task) (given : List ℕ) (shelves : ShelvesValue) (handhelds d : ℕ) → AreTasks m ts → AreThere ts shelves.rows
      → first_behind m handhelds d ts ≡ None → length shelves.rows + b ≤ d → d ≤ 200 → length (merged_shelves m ts given shelves).rows + b ≤ 200
  unfolding merged_shelves
  rows-grow [] given shelves handhelds d are there none few most = omega (arith, few, most)
  rows-grow (t ∷ ts) given shelves handhelds d are there none few most =
      let ids = take (add_count m t) given in
      let parts = first_not m t ts handhelds d none in
      rows-grow ts (drop (add_count m t) given) (shelve m t ids (rows_before m.wishes.date t.rows t.handheld) shelves) (with_one t.handheld handhelds)
      (with_one t.rows d) are.2 (then-there t are.0 ids shelves ts there.1) parts.1 (step-few t are.0 ids shelves d there.0 few)
      (one-within t handhelds d parts.0 most)

-- ---- all slots

all-there : (m : Meeting) (ts : List Task) → AreTasks m ts → AreThere ts (slot_of m).shelves.rows
all-there m [] are = tt
all-there m (t ∷ ts) are = (λ some. sym (ap (λ (u : Task). is_some u.rows) are.0) ∙ some, all-there m ts are.2)

get-end : (slots : List SlotValue) (x : SlotValue) → get_or slots (length slots) x ≡ x
get-end [] x = refl
get-end (slot ∷ slots) x = get-end slots x

get-pushed : (slots : List SlotValue) (x : SlotValue) → get_or (slots ++ x ∷ []) (length slots) x ≡ x
get-pushed [] x = refl
get-pushed (slot ∷ slots) x = get-pushed slots x

abbrev row_count : SlotValue → ℕ
row_count slot = length slot.shelves.rows

rows-pushed : (slots : List SlotValue) (x : SlotValue) → row_count x ≡ 0 → all_rows (slots ++ x ∷ []) ≡ all_rows slots
rows-pushed [] x none = sum_by-cons row_count x [] ∙ ap (λ n. n + 0) none
rows-pushed (slot ∷ slots) x none =
    sum_by-cons row_count slot (slots ++ x ∷ []) ∙ ap (λ n. row_count slot + n) (rows-pushed slots x none) ∙ sym (sum_by-cons row_count slot slots)

-- the picked slot has its place, and its rows are counted
record IsPlaced (m : Meeting) (placed : List SlotValue) : Type 0 where
  own : row_count (get_or placed m.picked (new_slot (number_of m.slots))) ≡ row_count (slot_of m)
  all : all_rows placed ≡ all_rows m.slots

placed-of : (m : Meeting) → m.picked ≤ length m.slots → IsPlaced m (with_place m.slots m.picked)
placed-of m near =
    let fresh = new_slot (number_of m.slots) in
    with_place-cases (IsPlaced m) m.slots m.picked near (λ less. record { own = refl; all = refl }) (λ is. record {
      own = ap (λ k. row_count (get_or (m.slots ++ fresh ∷ []) k fresh)) is ∙ ap row_count (get-pushed m.slots fresh)
          ∙ sym (ap (λ k. row_count (get_or m.slots k fresh)) is ∙ ap row_count (get-end m.slots fresh));
      all = rows-pushed m.slots fresh refl;
    })

pub merged-few : (m : Meeting) (given : List ℕ) → first_over m ≡ None → m.picked ≤ length m.slots → all_rows m.slots ≤ 200
    → all_rows (merged_slots m given) ≤ 200
unfolding first_over merged_slots merged_slot
merged-few m given none near most =
    let placed = with_place m.slots m.picked in
    let fresh = new_slot (number_of m.slots) in
    let is = placed-of m near in
    let own = is.own in
    let all = is.all in
    let there = place_there m.slots m.picked near in
    let others = all_rows (set placed m.picked fresh) in
    let without = sum_by-set row_count placed m.picked fresh fresh there in
    let with = sum_by-set row_count placed m.picked (merged_slot m given) fresh there in
    let start : row_count (slot_of m) + others ≤ all_rows m.slots = omega (arith, without, own, all) in
    let grown : length (merged_shelves m (active m) given (slot_of m).shelves).rows + others ≤ 200 =
    rows-grow m others (active m) given (slot_of m).shelves (length m.device.databases) (all_rows m.slots) (are-active m)
    (all-there m (active m) (are-active m)) none start most in
    omega (arith, with, without, grown)
