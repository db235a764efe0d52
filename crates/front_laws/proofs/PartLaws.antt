-- A database that took no part in a session isn't agreed on.
use Rattle.std.proofs.Common.{arith, ◌≡◌, ◌∙◌, ◌+◌, ◌≤◌, ap, refl, sym, ℕ, Bool, true, false, List, [], ◌∷◌, length, map, is_some, if◌then◌else◌}
use Rattle.std.specs.Prelude.{Option, Some, None, ◌&&◌, insert, not, sum_by}
use Rattle.std.specs.List.{list_any, position_or_len}
use Rattle.std.specs.Str.{bytes_eq}
use Rattle.std.proofs.lemmas.Bool.{and_left}
use Rattle.std.proofs.lemmas.List.{length-map}
use Rattle.std.proofs.lemmas.List.Sums.{sum_by-cons, sum_by-insert}
use Rattle.pdb_values.specs.Databases.{DatabaseValue}
use Rattle.pdb_values.specs.NamedDatabases.{comes_before}
use Rattle.folder_files.specs.Partings.{is_parted, most_parted}
use Rattle.folder_files.specs.declared.parted.Parted.{Parted}
use Rattle.mirrors.specs.Agreements.{agreed}
use Rattle.session_parts.specs.declared.skip.Skip.{Skip}
use Rattle.session_plan.specs.Choosing.{action_or_sync, agrees, is_fast, is_sync}
use Rattle.session_plan.specs.Merges.{merged_slot, parted_met}
use Rattle.session_plan.specs.Partings.{agrees_with}
use Rattle.session_plan.specs.Skips.{skip_of}
use Rattle.session_plan.specs.Tasks.{Meeting, Task, names, names_of, slot_of, task_of, tasks, with_name, with_names}
use Rattle.session_plan.proofs.PartingLaws as parting
use Rattle.session_plan.proofs.PartingLaws.{kept-parted_met}
use Rattle.front_laws.specs.Meetings.{found_of}
use Rattle.front_laws.specs.Parts.{HasFewRows, IsReadAnew, TakesNoPart}
use Rattle.front_laws.specs.Sound.{IsSoundMeeting}

-- ---- how many names a session has

ones : (ns : List (List ℕ)) → sum_by (λ (n : List ℕ). 1) ns ≡ length ns
ones [] = refl
ones (n ∷ ns) =
    let one = sum_by-cons (λ (n : List ℕ). 1) n ns in
    let rest = ones ns in
    omega (arith, one, rest)

length-with_name : (name : List ℕ) (ns : List (List ℕ)) → length (with_name name ns) ≤ length ns + 1
length-with_name name ns = by (list_any (λ other. bytes_eq other name) ns)
  where
    place : ℕ
    place = position_or_len (λ other. comes_before name other) ns

    by : (b : Bool) → length (if b then ns else insert ns place name) ≤ length ns + 1
    by true = omega arith
    by false =
        let all = sum_by-insert (λ (n : List ℕ). 1) ns place name in
        let more = ones (insert ns place name) in
        let old = ones ns in
        omega (arith, all, more, old)

length-with_names : (more ns : List (List ℕ)) → length (with_names more ns) ≤ length more + length ns
length-with_names [] ns = omega arith
length-with_names (n ∷ more) ns =
    let rest = length-with_names more (with_name n ns) in
    let one = length-with_name n ns in
    omega (arith, rest, one)

pub few-names : (m : Meeting) → IsSoundMeeting m → HasFewRows m → length (names m) ≤ most_parted
few-names m sound few =
    let own = length-with_names (names_of m.device.databases) [] in
    let all = length-with_names (names_of (slot_of m).shelves.rows) (with_names (names_of m.device.databases) []) in
    let rows = length-map (slot_of m).shelves.rows (λ (database : DatabaseValue). database.head.name) in
    let databases = length-map m.device.databases (λ (database : DatabaseValue). database.head.name) in
    let held = sound.device.sound.few in
    omega (arith, own, all, rows, databases, held, few)

-- ---- what the slot keeps

parted-is : (m : Meeting) (given : List ℕ) → (merged_slot m given).parted ≡ parted_met m (map (task_of m) (names m))
unfolding merged_slot tasks
parted-is m given = refl

why_of : (o : Option Skip) → is_some o ≡ true → (why : Skip) × (o ≡ Some why)
why_of None is = absurd (cc)
why_of (Some why) is = (why, refl)

pub parted-kept : (m : Meeting) (given name : List ℕ) → IsSoundMeeting m → HasFewRows m → TakesNoPart m name
    → is_parted name (merged_slot m given).parted ≡ true
parted-kept m given name sound few none =
    let why = why_of (skip_of (task_of m name)) none.skipped in
    let apart : parting.TakesNoPart m name = record { why = why.0; skipped = why.1; based = none.based } in
    ap (is_parted name) (parted-is m given) ∙ kept-parted_met m (names m) name (few-names m sound few) none.there apart

-- ---- the next session

not_agreed : (agree parted : Bool) → parted ≡ true → (agree && not parted) ≡ false
not_agreed true parted is = ap not is
not_agreed false parted is = refl

pub apart-agrees : (agree : Bool) (parted : List Parted) (name : List ℕ) → is_parted name parted ≡ true → agrees_with agree parted name ≡ false
apart-agrees agree parted name is = not_agreed agree (is_parted name parted) is

agrees-none : (next : Meeting) (name : List ℕ) → is_parted name (slot_of next).parted ≡ true → agrees next name ≡ false
unfolding agrees
agrees-none next name is = apart-agrees (agreed next.device.user (slot_of next).marks) (slot_of next).parted name is

none-fast : (next : Meeting) (name : List ℕ) → agrees next name ≡ false → is_fast next (task_of next name) ≡ false
unfolding is_fast
none-fast next name none =
    let t = task_of next name in
    and_left (agrees next name)
    (not next.wishes.slow && (is_sync (action_or_sync t.action) && (is_some t.handheld && (is_some t.rows && is_some t.base)))) none

pub read-anew : (m next : Meeting) (given name : List ℕ) → IsSoundMeeting m → HasFewRows m → TakesNoPart m name
    → (slot_of next).parted ≡ (merged_slot m given).parted → IsReadAnew next name
read-anew m next given name sound few none same =
    let apart = agrees-none next name (ap (is_parted name) same ∙ parted-kept m given name sound few none) in
    record { whole = none-fast next name apart; gone = ap not apart }
