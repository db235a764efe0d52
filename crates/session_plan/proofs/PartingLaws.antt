-- What a slot keeps of databases that took no part.
use Rattle.std.proofs.Common.{◌≡◌, ◌∙◌, ◌<◌, ◌≤◌, ◌+◌, refl, sym, ap, subst, ℕ, Bool, true, false, cond, List, [], ◌∷◌, length, Option, Some, None, arith}
use Rattle.std.specs.Prelude.{◌||◌, bytes_eq, if◌then◌else◌, is_some, map, nat_lt}
use Rattle.std.specs.List.{list_any}
use Rattle.std.proofs.lemmas.Bool.{ltb-false}
use Rattle.std.proofs.lemmas.List.{length-map}
use Rattle.pdb_values.proofs.NamedLaws.{bytes_eq-is, bytes_eq-own}
use Rattle.folder_files.specs.Partings.{PartedRise, is_parted, most_parted, parting_of, with_one}
use Rattle.folder_files.specs.declared.parted.Parted.{Parted}
use Rattle.folder_files.specs.declared.parted.Parting.{Parting}
use Rattle.folder_files.proofs.PartedLists.{StemsRise-with_one, length-with_one, parting_of-with_one}
use Rattle.session_parts.specs.declared.skip.Skip.{Skip}
use Rattle.session_plan.specs.Losses.{is_stranger}
use Rattle.session_plan.specs.Merges.{parted_met}
use Rattle.session_plan.specs.Partings.{parting_by, with_parting}
use Rattle.session_plan.specs.Skips.{skip_of}
use Rattle.session_plan.specs.Tasks.{Meeting, Task, slot_of, task_of}

-- ---- one more

pub rise-with_one : (one : Parted) (parted : List Parted) → length parted < most_parted → PartedRise parted → PartedRise (with_one one parted)
rise-with_one one parted room rise =
    let more = length-with_one one parted in
    record { few = omega (arith, room); rise = StemsRise-with_one one parted rise.rise }

length-with_parting : (name : List ℕ) (how : Option Parting) (parted : List Parted) → length (with_parting name how parted) ≤ length parted + 1
length-with_parting name None parted = omega arith
length-with_parting name (Some how) parted = by (nat_lt (length parted) most_parted)
  where
    by : (room : Bool) → length (if room then with_one (record { name = name; how = how }) parted else parted) ≤ length parted + 1
    by true = length-with_one (record { name = name; how = how }) parted
    by false = omega arith

-- ---- a look-up

found-with_one : (name : List ℕ) (one : Parted) (parted : List Parted) → bytes_eq one.name name ≡ true → is_parted name (with_one one parted) ≡ true
found-with_one name one parted own = ap is_some (parting_of-with_one name one parted) ∙ by (bytes_eq one.name name) own
  where
    by : (b : Bool) → b ≡ true → is_some (cond b (Some one.how) (parting_of name parted)) ≡ true
    by true is = refl
    by false is = absurd cc

own-with_parting : (name : List ℕ) (how : Parting) (parted : List Parted) → length parted < most_parted
    → is_parted name (with_parting name (Some how) parted) ≡ true
own-with_parting name how parted room = by (nat_lt (length parted) most_parted) refl
  where
    by : (b : Bool) → nat_lt (length parted) most_parted ≡ b
        → is_parted name (if b then with_one (record { name = name; how = how }) parted else parted) ≡ true
    by true is = found-with_one name (record { name = name; how = how }) parted (bytes_eq-own name)
    by false is = absurd (omega (arith, room, ltb-false _ _ is))

other-with_parting : (name other : List ℕ) (how : Option Parting) (parted : List Parted) → is_parted name parted ≡ true
    → is_parted name (with_parting other how parted) ≡ true
other-with_parting name other None parted there = there
other-with_parting name other (Some how) parted there = by (nat_lt (length parted) most_parted)
  where
    found : (b : Bool) → is_some (cond b (Some how) (parting_of name parted)) ≡ true
    found true = refl
    found false = there

    by : (room : Bool) → is_parted name (if room then with_one (record { name = other; how = how }) parted else parted) ≡ true
    by true = ap is_some (parting_of-with_one name (record { name = other; how = how }) parted) ∙ found (bytes_eq other name)
    by false = there

-- ---- a session

length-parted_met : (meeting : Meeting) (ts : List Task) → length (parted_met meeting ts) ≤ length ts
length-parted_met meeting [] = omega arith
length-parted_met meeting (t ∷ ts) =
    let later = length-parted_met meeting ts in
    let more = length-with_parting t.name
    (parting_by (is_stranger meeting) (is_some t.base) (parting_of t.name (slot_of meeting).parted) (skip_of t)) (parted_met meeting ts) in
    omega arith

-- it takes no part, and the slot has base rows of it
pub record TakesNoPart (meeting : Meeting) (name : List ℕ) : Type 0 where
  pub why : Skip
  pub skipped : skip_of (task_of meeting name) ≡ Some why
  pub based : is_some (task_of meeting name).base ≡ true

pub kept-parted_met : (meeting : Meeting) (ns : List (List ℕ)) (name : List ℕ) → length ns ≤ most_parted
    → list_any (λ other. bytes_eq other name) ns ≡ true → TakesNoPart meeting name → is_parted name (parted_met meeting (map (task_of meeting) ns)) ≡ true
kept-parted_met meeting [] name few there none = absurd cc
kept-parted_met meeting (n ∷ ns) name few there none =
    by (bytes_eq n name) refl there (λ later. kept-parted_met meeting ns name (omega (arith, few)) later none)
  where
    rest : List Parted
    rest = parted_met meeting (map (task_of meeting) ns)

    own : is_parted name (with_parting name (parting_by (is_stranger meeting) (is_some (task_of meeting name).base)
        (parting_of name (slot_of meeting).parted) (skip_of (task_of meeting name))) rest) ≡ true
    own =
        let count = length-parted_met meeting (map (task_of meeting) ns) in
        let all = length-map ns (task_of meeting) in
        rw (none.skipped, none.based) (own-with_parting name _ rest (omega (arith, count, all, few)))

    by : (b : Bool) → bytes_eq n name ≡ b → (b || list_any (λ other. bytes_eq other name) ns) ≡ true
        → (list_any (λ other. bytes_eq other name) ns ≡ true → is_parted name rest ≡ true)
        → is_parted name (parted_met meeting (map (task_of meeting) (n ∷ ns))) ≡ true
    by true is there later =
        subst (λ (k : List ℕ). is_parted name (parted_met meeting (map (task_of meeting) (k ∷ ns))) ≡ true) (sym (bytes_eq-is n name is)) own
    by false is there later = other-with_parting name n _ rest (later there)
