-- The files of a commit are those of databases that the session doesn't skip, in the picked slot.
use Rattle.std.proofs.Common.{◌≡◌, ap, refl, sym, subst, inl, inr, ℕ, true, List, [], ◌∷◌, map}
use Rattle.std.specs.Prelude.{IfSome, Option, Some, None, is_none}
use Rattle.std.specs.List.{AllByRecursion, flat_map, list_any}
use Rattle.std.specs.Str.{bytes_eq}
use Rattle.desk_journal.specs.Entries.{EntryValue}
use Rattle.desk_journal.proofs.StepLaws.{all-append}
use Rattle.desk_store.specs.Changes.{archive_entries, db_entries, slots_entry}
use Rattle.desk_store.specs.DeskFiles.{slot_file}
use Rattle.desk_store.specs.Shelves.{infos_of}
use Rattle.desk_store.specs.declared.change.DbChange.{DbChange}
use Rattle.desk_store.specs.declared.role.Role.{Role}
use Rattle.desk_store.specs.declared.role.Role.TheVariants.{Archive, Base, Rows}
use Rattle.sync_session.proofs.MeetingWords.{AreEachPlannedFor, ArePlannedFor, DatabaseValue, Meeting, Plan, Planned, Skip, names, slot_of, skip_of, task_of, tasks}
use Rattle.pdb_values.specs.declared.record.Record.{Record}
use Rattle.sync_session.specs.Outcomes.{IsCommitFile}
use Rattle.session_plan.specs.Takes.{change_from, change_unless, changes_of, taken_entries, taken_slots}
use Rattle.session_plan.specs.Users.{done_of}
use Rattle.sync_session.proofs.SwapLaws.{HasName}
use Rattle.sync_session.proofs.TakenLaws.{change-task, old_at, planned_name, rows_at, rows_name}
use Rattle.std.proofs.lemmas.Bool.{or_left, or_right}
use Rattle.pdb_values.proofs.NamedLaws.{bytes_eq-own}
use Rattle.folder_files.specs.Slots.{SlotInfoValue}

-- ---- the changes

-- each is of a database that isn't skipped
pub record IsTaskChange (meeting : Meeting) (change : DbChange) : Type 0 where
  pub name : List ℕ
  pub there : list_any (λ other. bytes_eq other name) (names meeting) ≡ true
  pub kept : is_none (skip_of (task_of meeting name)) ≡ true
  pub named : HasName name change

module _ (meeting : Meeting) where
  change_by : (name : List ℕ) (s : Option Skip) (plan : Plan) (given : List ℕ) (old : List Record) (rows : Option DatabaseValue)
      → list_any (λ other. bytes_eq other name) (names meeting) ≡ true → skip_of (task_of meeting name) ≡ s
      → ((d : DatabaseValue) → rows ≡ Some d → d.head.name ≡ name)
      → AllByRecursion (IsTaskChange meeting) (change_unless s (change_from plan given old rows))
  change_by name (Some skip) plan given old rows there is named = tt
  change_by name None plan given old None there is named = tt
  change_by name None plan given old (Some d) there is named =
      (record { name = name; there = there; kept = ap is_none is; named = planned_name name plan given old d (named d refl) }, tt)

  abbrev AreNamed : List (List ℕ) → Type 0
  AreNamed ns = AllByRecursion (λ name. list_any (λ other. bytes_eq other name) (names meeting) ≡ true) ns

  changes-of_tasks : (ns : List (List ℕ)) (planned : List Planned) (ids : List (List ℕ)) → AreNamed ns
      → AreEachPlannedFor meeting (map (task_of meeting) ns) planned
      → AllByRecursion (IsTaskChange meeting) (changes_of meeting.wishes.date (slot_of meeting).shelves planned ids)
  unfolding changes_of
  changes-of_tasks [] [] ids there are = tt
  changes-of_tasks (n ∷ ns) (one ∷ planned) [] there are = tt
  changes-of_tasks (n ∷ ns) (one ∷ planned) (given ∷ ids) there are =
      all-append (IsTaskChange meeting) _ (changes_of meeting.wishes.date (slot_of meeting).shelves planned ids)
      (subst (AllByRecursion (IsTaskChange meeting)) (sym (change-task meeting n one given are.0))
      (change_by n (skip_of (task_of meeting n)) one.plan given (old_at meeting n) (rows_at meeting n) there.0 refl (λ d e. rows_name meeting n d e)))
      (changes-of_tasks ns planned ids there.1 are.1)
  changes-of_tasks ns planned ids there are = absurd are

-- ---- names

named_in : (all ns : List (List ℕ)) → ((name : List ℕ) → list_any (λ other. bytes_eq other name) ns ≡ true → list_any (λ other. bytes_eq other name) all ≡ true)
    → AllByRecursion (λ name. list_any (λ other. bytes_eq other name) all ≡ true) ns
named_in all [] into = tt
named_in all (n ∷ ns) into = (
  into n (or_left (bytes_eq n n) (list_any (λ other. bytes_eq other n) ns) (bytes_eq-own n)),
  named_in all ns (λ name is. into name (or_right (bytes_eq n name) (list_any (λ other. bytes_eq other name) ns) is)),
)

-- ---- the files

abbrev pub AreCommitFiles : Meeting → List EntryValue → Type 0
AreCommitFiles meeting entries = AllByRecursion (λ (entry : EntryValue). IsCommitFile meeting entry.name) entries

all_flat : {A B : Type 0} (P : B → Type 0) (Q : A → Type 0) (f : A → List B) (xs : List A) → ((x : A) → Q x → AllByRecursion P (f x))
    → AllByRecursion Q xs → AllByRecursion P (flat_map f xs)
all_flat P Q f [] each all = tt
all_flat P Q f (x ∷ xs) each all = all-append P (f x) (flat_map f xs) (each x all.0) (all_flat P Q f xs each all.1)

module _ (meeting : Meeting) where
  file_of : {change : DbChange} (is : IsTaskChange meeting change) (role : Role) (own : List ℕ) → own ≡ is.name
      → IsCommitFile meeting (slot_file meeting.picked role own)
  file_of is role own same = inr (record { name = is.name; there = is.there; kept = is.kept; role = role; is = ap (slot_file meeting.picked role) same })

  archive_files : {change : DbChange} (is : IsTaskChange meeting change) (archive : Option DatabaseValue) → IfSome archive (λ a. a.head.name ≡ is.name)
      → AreCommitFiles meeting (archive_entries meeting.picked archive)
  archive_files is None named = tt
  archive_files is (Some archive) named = (file_of is Archive archive.head.name named, tt)

  change_files : (change : DbChange) → IsTaskChange meeting change → AreCommitFiles meeting (db_entries meeting.picked change)
  change_files change is = (
    file_of is Rows change.rows.head.name is.named.rows,
    (file_of is Base change.base.head.name is.named.base, archive_files is change.archive is.named.archive),
  )

  pub taken-files : (planned : List Planned) (ids : List (List ℕ)) → ArePlannedFor meeting planned
      → AreCommitFiles meeting (taken_entries (done_of meeting) meeting.device.user planned ids meeting.picked meeting.slots)
  unfolding taken_entries tasks
  taken-files planned ids are =
      let changes : List DbChange = changes_of meeting.wishes.date (slot_of meeting).shelves planned ids in
      let infos : List SlotInfoValue = infos_of (taken_slots (done_of meeting) meeting.device.user planned ids meeting.picked meeting.slots) in
      all-append (λ (entry : EntryValue). IsCommitFile meeting entry.name) (flat_map (db_entries meeting.picked) changes) (slots_entry infos ∷ [])
      (all_flat (λ (entry : EntryValue). IsCommitFile meeting entry.name) (IsTaskChange meeting) (db_entries meeting.picked) changes change_files
      (changes-of_tasks meeting (names meeting) planned ids (named_in (names meeting) (names meeting) (λ name is. is)) are)) (inl refl, tt)
