-- The databases of a session have names of their own.
use Rattle.std.proofs.lemmas.Grind.{common_steps}
use Rattle.std.proofs.lemmas.Bool.Decides.{nat_tests}
use Rattle.std.proofs.Common.{◌≡◌, inl, inr, ℕ, ◌+◌, ◌≤◌, ◌||◌, List, [], ◌∷◌, refl, ap, ◌∙◌, sym, subst, arith, Bool, true, false, cond, if◌then◌else◌, Option}
use Rattle.std.proofs.Common.{Some, None, is_none, is_some, map, filter, sum_by}
use Rattle.std.specs.Prelude.{insert}
use Rattle.std.specs.List.{list_any, position_or_len}
use Rattle.std.specs.Str.{bytes_eq}
use Rattle.std.proofs.lemmas.List.Sums.{sum_by-cons, sum_by-insert}
use Rattle.pdb_values.specs.Databases.{DatabaseValue}
use Rattle.pdb_values.specs.NamedDatabases.{comes_before, database_of}
use Rattle.pdb_values.proofs.NamedLaws.{bytes_eq-is, bytes_eq-own}
use Rattle.session_plan.specs.Skips.{active, skip_of}
use Rattle.session_plan.specs.Tasks.{Meeting, Task, task_of, tasks, names, names_of, with_name, with_names, slot_of}
use Rattle.front_laws.proofs.MergedLaws.{AreTasks, IsTask, NotNamed}

-- how often a name stands in a list
abbrev count_of : List ℕ → List (List ℕ) → ℕ
count_of name ns = sum_by (λ other. cond (bytes_eq other name) 1 0) ns

-- no name stands twice
abbrev Once : List (List ℕ) → Type 0
Once ns = (name : List ℕ) → count_of name ns ≤ 1

none_counted : (name : List ℕ) (ns : List (List ℕ)) → list_any (λ other. bytes_eq other name) ns ≡ false → count_of name ns ≡ 0
none_counted name [] is = refl
none_counted name (n ∷ ns) is = grind (arith, none_counted name ns)

once-insert : (name : List ℕ) (ns : List (List ℕ)) (k : ℕ) → list_any (λ other. bytes_eq other name) ns ≡ false → Once ns → Once (insert ns k name)
once-insert name ns k none once n = subst (λ m. m ≤ 1) (sym (sum_by-insert (λ other. cond (bytes_eq other n) 1 0) ns k name)) (by (bytes_eq name n) refl)
  where
    by : (b : Bool) → bytes_eq name n ≡ b → count_of n ns + cond b 1 0 ≤ 1
    by true is = let zero_here : count_of n ns ≡ 0 = ap (λ x. count_of x ns) (sym (bytes_eq-is name n is))
        ∙ none_counted name ns none in omega (arith, zero_here)
    by false is = let few = once n in omega (arith, few)

once-name : (name : List ℕ) (ns : List (List ℕ)) → Once ns → Once (with_name name ns)
once-name name ns once = by (list_any (λ other. bytes_eq other name) ns) refl
  where
    by : (b : Bool) → list_any (λ other. bytes_eq other name) ns ≡ b
        → Once (if b then ns else insert ns (position_or_len (λ other. comes_before name other) ns) name)
    by true is = once
    by false is = once-insert name ns (position_or_len (λ other. comes_before name other) ns) is once

once-names : (more ns : List (List ℕ)) → Once ns → Once (with_names more ns)
once-names [] ns once = once
once-names (n ∷ more) ns once = once-names more (with_name n ns) (once-name n ns once)

pub names-once : (m : Meeting) → Once (names m)
names-once m = once-names (names_of (slot_of m).shelves.rows) (with_names (names_of m.device.databases) [])
    (once-names (names_of m.device.databases) [] (λ n. omega arith))

-- ---- tasks of such names

abbrev tasks_by : Meeting → (Task → Bool) → List (List ℕ) → List Task
tasks_by m p ns = filter p (map (task_of m) ns)

not_named : (m : Meeting) (p : Task → Bool) (name : List ℕ) (ns : List (List ℕ)) → count_of name ns ≡ 0 → NotNamed name (tasks_by m p ns)
not_named m p name [] none = tt
not_named m p name (n ∷ ns) none =
    by (bytes_eq n name) (p (task_of m n)) refl (sym (sum_by-cons (λ other. cond (bytes_eq other name) 1 0) n ns) ∙ none) (λ e. not_named m p name ns e)
  where
    by : (b keeps : Bool) → bytes_eq n name ≡ b → cond b 1 0 + count_of name ns ≡ 0 → (count_of name ns ≡ 0 → NotNamed name (tasks_by m p ns))
        → NotNamed name (if keeps then task_of m n ∷ tasks_by m p ns else tasks_by m p ns)
    by true keeps is none rest = absurd (omega (arith, none))
    by false true is none rest = (is, rest (omega (arith, none)))
    by false false is none rest = rest (omega (arith, none))

are_tasks : (m : Meeting) (p : Task → Bool) (ns : List (List ℕ)) → Once ns → AreTasks m (tasks_by m p ns)
are_tasks m p [] once = tt
are_tasks m p (n ∷ ns) once = by (p (task_of m n)) (are_tasks m p ns (λ name. fewer name)) (not_named m p n ns alone)
  where
    fewer : (name : List ℕ) → count_of name ns ≤ 1
    fewer name = let few = once name in let is = sum_by-cons (λ other. cond (bytes_eq other name) 1 0) n ns in omega (arith, few, is)

    alone : count_of n ns ≡ 0
    alone =
        let few = once n in
        let is : count_of n (n ∷ ns) ≡ 1 + count_of n ns = sum_by-cons (λ other. cond (bytes_eq other n) 1 0) n ns
        ∙ ap (λ b. cond b 1 0 + count_of n ns) (bytes_eq-own n) in
        omega (arith, few, is)

    by : (keeps : Bool) → AreTasks m (tasks_by m p ns) → NotNamed n (tasks_by m p ns)
        → AreTasks m (if keeps then task_of m n ∷ tasks_by m p ns else tasks_by m p ns)
    by true are unnamed = (refl, unnamed, are)
    by false are unnamed = are

is_task : (m : Meeting) (p : Task → Bool) (name : List ℕ) (ns : List (List ℕ)) → list_any (λ other. bytes_eq other name) ns ≡ true
    → p (task_of m name) ≡ true → IsTask (task_of m name) (tasks_by m p ns)
is_task m p name [] there keeps = absurd (cc)
is_task m p name (n ∷ ns) there keeps = by (bytes_eq n name) refl there (λ e. is_task m p name ns e keeps)
  where
    behind : (b : Bool) → IsTask (task_of m name) (tasks_by m p ns)
        → IsTask (task_of m name) (if b then task_of m n ∷ tasks_by m p ns else tasks_by m p ns)
    behind true is = inr is
    behind false is = is

    by : (b : Bool) → bytes_eq n name ≡ b → (b || list_any (λ other. bytes_eq other name) ns) ≡ true
        → (list_any (λ other. bytes_eq other name) ns ≡ true → IsTask (task_of m name) (tasks_by m p ns))
        → IsTask (task_of m name) (if p (task_of m n) then task_of m n ∷ tasks_by m p ns else tasks_by m p ns)
    by true is there rest =
        let same : task_of m n ≡ task_of m name = ap (task_of m) (bytes_eq-is n name is) in
        subst (λ b. IsTask (task_of m name) (if b then task_of m n ∷ tasks_by m p ns else tasks_by m p ns)) (sym (ap p same ∙ keeps)) (inl same)
    by false is there rest = behind (p (task_of m n)) (rest there)

pub are-active : (m : Meeting) → AreTasks m (active m)
unfolding active tasks
are-active m = are_tasks m (λ t. is_none (skip_of t)) (names m) (names-once m)

pub is-active : (m : Meeting) (name : List ℕ) → list_any (λ other. bytes_eq other name) (names m) ≡ true → is_none (skip_of (task_of m name)) ≡ true
    → IsTask (task_of m name) (active m)
unfolding active tasks
is-active m name there keeps = is_task m (λ t. is_none (skip_of t)) name (names m) there keeps

-- ---- a name of a session is one of a side

any_counted : (name : List ℕ) (ns : List (List ℕ)) → list_any (λ other. bytes_eq other name) ns ≡ true → 1 ≤ count_of name ns
any_counted name [] is = absurd (cc)
any_counted name (n ∷ ns) is = subst (λ m. 1 ≤ m) (sym (sum_by-cons (λ other. cond (bytes_eq other name) 1 0) n ns))
    (by (bytes_eq n name) is (λ e. any_counted name ns e))
  where
    by : (b : Bool) → (b || list_any (λ other. bytes_eq other name) ns) ≡ true
        → (list_any (λ other. bytes_eq other name) ns ≡ true → 1 ≤ count_of name ns) → 1 ≤ cond b 1 0 + count_of name ns
    by true is rest = omega arith
    by false is rest = let l = rest is in omega (arith, l)

with_names_counted : (name : List ℕ) (more ns : List (List ℕ)) → count_of name (with_names more ns) ≤ count_of name more + count_of name ns
with_names_counted name [] ns = omega arith
with_names_counted name (n ∷ more) ns = grind (arith, common_steps, with_names_counted name more (with_name n ns))

none_named : (name : List ℕ) (databases : List DatabaseValue) → database_of name databases ≡ None → count_of name (names_of databases) ≡ 0
none_named name [] none = refl
none_named name (d ∷ databases) none = grind (arith, none_named name databases)

-- a task that neither side has isn't one of the session
pub on_a_side : (m : Meeting) (name : List ℕ) → list_any (λ other. bytes_eq other name) (names m) ≡ true
    → (is_some (task_of m name).handheld || is_some (task_of m name).rows) ≡ true
on_a_side m name there = by (task_of m name).handheld (task_of m name).rows refl refl
  where
    by : (h r : Option DatabaseValue) → database_of name m.device.databases ≡ h → database_of name (slot_of m).shelves.rows ≡ r
        → (is_some h || is_some r) ≡ true
    by (Some d) r is_h is_r = refl
    by None (Some d) is_h is_r = refl
    by None None is_h is_r =
        let some = any_counted name (names m) there in
        let all = with_names_counted name (names_of (slot_of m).shelves.rows) (with_names (names_of m.device.databases) []) in
        let device = with_names_counted name (names_of m.device.databases) [] in
        let no_device = none_named name m.device.databases is_h in
        let no_rows = none_named name (slot_of m).shelves.rows is_r in
        absurd (omega (arith, some, all, device, no_device, no_rows))

-- ---- a name of a side is one of the session

counted_any : (name : List ℕ) (ns : List (List ℕ)) → 1 ≤ count_of name ns → list_any (λ other. bytes_eq other name) ns ≡ true
counted_any name ns l = by (list_any (λ other. bytes_eq other name) ns) refl
  where
    by : (b : Bool) → list_any (λ other. bytes_eq other name) ns ≡ b → list_any (λ other. bytes_eq other name) ns ≡ true
    by true is = is
    by false is = let none = none_counted name ns is in absurd (omega (arith, l, none))

with_names_more : (name : List ℕ) (more ns : List (List ℕ)) → count_of name ns ≤ count_of name (with_names more ns)
with_names_more name [] ns = omega arith
with_names_more name (n ∷ more) ns = grind (arith, nat_tests, common_steps, with_names_more name more (with_name n ns))

with_own : (n : List ℕ) (ns : List (List ℕ)) → 1 ≤ count_of n (with_name n ns)
with_own n ns = by (list_any (λ other. bytes_eq other n) ns) refl
  where
    by : (b : Bool) → list_any (λ other. bytes_eq other n) ns ≡ b
        → 1 ≤ count_of n (if b then ns else insert ns (position_or_len (λ other. comes_before n other) ns) n)
    by true is = any_counted n ns is
    by false is =
        let all : count_of n (insert ns (position_or_len (λ other. comes_before n other) ns) n) ≡ count_of n ns + 1 =
        sum_by-insert (λ other. cond (bytes_eq other n) 1 0) ns (position_or_len (λ other. comes_before n other) ns) n
        ∙ ap (λ b. count_of n ns + cond b 1 0) (bytes_eq-own n) in
        omega (arith, all)

in_names : (name : List ℕ) (databases : List DatabaseValue) (ns : List (List ℕ)) → is_some (database_of name databases) ≡ true
    → 1 ≤ count_of name (with_names (names_of databases) ns)
in_names name [] ns there = absurd (cc)
in_names name (d ∷ databases) ns there = by (bytes_eq d.head.name name) refl there (λ e. in_names name databases (with_name d.head.name ns) e)
  where
    by : (b : Bool) → bytes_eq d.head.name name ≡ b → is_some (if b then Some d else database_of name databases) ≡ true
        → (is_some (database_of name databases) ≡ true → 1 ≤ count_of name (with_names (names_of databases) (with_name d.head.name ns)))
        → 1 ≤ count_of name (with_names (names_of databases) (with_name d.head.name ns))
    by true is there rest =
        let here : 1 ≤ count_of name (with_name d.head.name ns) =
        subst (λ n. 1 ≤ count_of n (with_name d.head.name ns)) (bytes_eq-is d.head.name name is) (with_own d.head.name ns) in
        let more = with_names_more name (names_of databases) (with_name d.head.name ns) in
        omega (arith, here, more)
    by false is there rest = rest there

pub rows-name : (m : Meeting) (name : List ℕ) → is_some (task_of m name).rows ≡ true → list_any (λ other. bytes_eq other name) (names m) ≡ true
rows-name m name there = counted_any name (names m) (in_names name (slot_of m).shelves.rows (with_names (names_of m.device.databases) []) there)

pub device-name : (m : Meeting) (name : List ℕ) → is_some (task_of m name).handheld ≡ true → list_any (λ other. bytes_eq other name) (names m) ≡ true
device-name m name there =
    let here = in_names name m.device.databases [] there in
    let more = with_names_more name (names_of (slot_of m).shelves.rows) (with_names (names_of m.device.databases) []) in
    counted_any name (names m) (omega (arith, here, more))
