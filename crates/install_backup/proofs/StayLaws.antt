-- What a front of an install leaves as it was.
use Rattle.std.proofs.lemmas.Bool.Decides.{nat_tests}
use Rattle.std.proofs.Common.{arith, ◌==◌, ◌≡◌, ◌∙◌, ◌≤◌, ◌<◌, ap, refl, sym, subst, inl, inr, ◌⊎◌, ℕ, not, Bool, true, false, cond, List, [], ◌∷◌, ◌++◌, lit<, map}
use Rattle.std.specs.Prelude.{Option, Some, None, filter, flat_map}
use Rattle.std.specs.List.{AllByRecursion}
use Rattle.std.specs.Str.{bytes_eq}
use Rattle.pdb_values.specs.Blocks.{block_length}
use Rattle.pdb_values.specs.Databases.{DatabaseValue}
use Rattle.pdb_values.specs.Heads.{holds_resources}
use Rattle.pdb_values.specs.NamedDatabases.{database_of}
use Rattle.pdb_values.proofs.NamedLaws.{bytes_eq-own}
use Rattle.pdb_values.specs.declared.record.Record.{Record}
use Rattle.pdb_values.specs.declared.resource.Resource.{Resource}
use Rattle.pdb_values.specs.declared.user.Marks.{Marks}
use Rattle.pdb_values.specs.declared.user.UserInfo.{UserInfo}
use Rattle.mirrors.specs.Agreements.{agreed}
use Rattle.palm_device.specs.Bounds.{IsBoundedDatabase, IsBoundedRecord, IsBoundedResource}
use Rattle.palm_device.specs.Devices.{Device}
use Rattle.palm_device.specs.Handles.{no_handles}
use Rattle.palm_device.proofs.BoundLaws.{AllByRecursion-filter}
use Rattle.desktop_session.specs.Acts.{text}
use Rattle.desktop_session.specs.Requests.{closing, ending, resetting, writing_app, writing_sort}
use Rattle.desktop_session.proofs.RequestFits.{close_fits, delete_fits, end_fits, make_fits, put_resource_fits, putting_fits, reset_fits}
use Rattle.desktop_session.proofs.RequestFits.{write_app_fits, write_sort_fits}
use Rattle.session_parts.specs.Fronts.{Front}
use Rattle.install_backup.specs.declared.mark.Mark.{Mark}
use Rattle.install_backup.specs.declared.mark.Mark.TheVariants.{Unchanged}
use Rattle.install_backup.specs.Installed.{installed_head, installed_records}
use Rattle.install_backup.specs.InstallActs as acts
use Rattle.install_backup.specs.InstallActs.{entry_acts, fill_acts, install_acts, install_one, installs_of, is_installable}
use Rattle.install_backup.specs.InstallFronts.{IsAsItWas, IsMarkedFirst, IsReadNext}
use Rattle.install_backup.specs.Marks.{marked_on}
use Rattle.install_backup.proofs.InstalledLaws.{head-bounded}
use Rattle.install_backup.proofs.MarkLaws.{GoesOn, front_cut, marked_apart}
use Rattle.install_backup.proofs.OthersLaws.{IsMine, Keeps, OpenMine, keeps-front, none_open_mine}
use Rattle.install_backup.proofs.RecordLaws.{installed-bounded, installed-numbered}
use Rattle.desk_journal.proofs.StepLaws.{all-append}

numbered_fixed : (id : ℕ) → 0 < id → (id == 0) ≡ false
numbered_fixed id some = grind (arith, nat_tests)

module _ (mine : List ℕ → Bool) where
  -- ---- each request of an install

  app_mine : (block : Option (List ℕ)) → block_length block ≤ 65500 → AllByRecursion (IsMine mine) (acts.block_acts writing_app 1 block)
  app_mine None short = tt
  app_mine (Some []) short = tt
  app_mine (Some (byte ∷ bytes)) short = ((write_app_fits 1 (byte ∷ bytes) (lit< tt) short, refl, tt), tt)

  sort_mine : (block : Option (List ℕ)) → block_length block ≤ 65500 → AllByRecursion (IsMine mine) (acts.block_acts writing_sort 1 block)
  sort_mine None short = tt
  sort_mine (Some []) short = tt
  sort_mine (Some (byte ∷ bytes)) short = ((write_sort_fits 1 (byte ∷ bytes) (lit< tt) short, refl, tt), tt)

  records_mine : (items : List Record) → AllByRecursion IsBoundedRecord items → AllByRecursion (λ (item : Record). 0 < item.id) items
      → AllByRecursion (IsMine mine) (map (acts.put_record 1) items)
  records_mine [] bounded numbered = tt
  records_mine (item ∷ items) bounded numbered =
      let small = bounded.0.id in
      let sorted = bounded.0.category in (
        (putting_fits 1 item.id item.content (lit< tt) (omega (arith, small)) (omega (arith, sorted)) bounded.0.short, numbered_fixed item.id numbered.0, tt),
        records_mine items bounded.1 numbered.1,
      )

  resources_mine : (items : List Resource) → AllByRecursion IsBoundedResource items → AllByRecursion (IsMine mine) (map (acts.put_resource 1) items)
  resources_mine [] bounded = tt
  resources_mine (item ∷ items) bounded =
      ((put_resource_fits 1 item.kind.0 item.id item.bytes (lit< tt) bounded.0.kind bounded.0.id bounded.0.short, refl, tt), resources_mine items bounded.1)

  entries_mine : (database : DatabaseValue) → IsBoundedDatabase database → AllByRecursion (IsMine mine) (entry_acts 1 database)
  unfolding entry_acts
  entries_mine database bounded = by (holds_resources database.head.attributes)
    where
      by : (b : Bool) → AllByRecursion (IsMine mine)
          (cond b (map (acts.put_resource 1) database.resources) (acts.record_acts 1 (installed_records database.records)))
      by true = resources_mine database.resources bounded.resources
      by false =
          all-append (IsMine mine) (map (acts.put_record 1) (installed_records database.records)) (resetting 1 ∷ [])
          (records_mine (installed_records database.records) (installed-bounded database.records bounded.whole.few_records bounded.records)
          (installed-numbered database.records))
          ((reset_fits 1 (lit< tt), refl, tt), tt)

  pub one_mine : (database : DatabaseValue) → IsBoundedDatabase database → mine database.head.name ≡ true
      → AllByRecursion (IsMine mine) (install_one database 1 [])
  unfolding install_one fill_acts
  one_mine database bounded is =
      let head = head-bounded database.head bounded.head in (
        (delete_fits database.head.name bounded.head.name, refl, is),
        (
          (
            make_fits database.head.creator.0 database.head.kind.0 (installed_head database.head).attributes database.head.version database.head.name
                head.creator head.kind head.attributes head.version head.name,
            refl,
            is,
          ),
          all-append (IsMine mine) (fill_acts database 1 []) (closing 1 ∷ [])
              (all-append (IsMine mine) (acts.block_acts writing_app 1 database.app)
              (acts.block_acts writing_sort 1 database.sort ++ entry_acts 1 database) (app_mine database.app bounded.whole.short_app)
              (all-append (IsMine mine) (acts.block_acts writing_sort 1 database.sort) (entry_acts 1 database)
              (sort_mine database.sort bounded.whole.short_sort) (entries_mine database bounded)))
              ((close_fits 1 (lit< tt), refl, tt), tt),
        ),
      )

  all_mine : (databases : List DatabaseValue) → AllByRecursion IsBoundedDatabase databases
      → AllByRecursion (λ (d : DatabaseValue). mine d.head.name ≡ true) databases
      → AllByRecursion (IsMine mine) (flat_map (λ (d : DatabaseValue). install_one d 1 []) databases)
  all_mine [] bounded are = tt
  all_mine (database ∷ databases) bounded are =
      all-append (IsMine mine) (install_one database 1 []) (flat_map (λ (d : DatabaseValue). install_one d 1 []) databases)
      (one_mine database bounded.0 are.0) (all_mine databases bounded.1 are.1)

  -- behind the mark
  pub rest_mine : (databases : List DatabaseValue) → AllByRecursion IsBoundedDatabase databases
      → AllByRecursion (λ (d : DatabaseValue). mine d.head.name ≡ true) (filter is_installable databases)
      → AllByRecursion (IsMine mine) (installs_of databases ++ ending ∷ [])
  unfolding installs_of
  rest_mine databases bounded are =
      all-append (IsMine mine) (installs_of databases) (ending ∷ [])
      (all_mine (filter is_installable databases) (AllByRecursion-filter IsBoundedDatabase is_installable databases bounded) are)
      ((end_fits, refl, tt), tt)

  rest_keeps : (mark : Mark) (device after : Device) (databases : List DatabaseValue) → device.handles ≡ no_handles
      → AllByRecursion IsBoundedDatabase databases
      → AllByRecursion (λ (d : DatabaseValue). mine d.head.name ≡ true) (filter is_installable databases)
      → (on : GoesOn mark device (installs_of databases ++ ending ∷ []) after) → Keeps mine (marked_on mark device) on.reached
  rest_keeps mark device after databases closed bounded are on =
      keeps-front mine on.ran.0 (installs_of databases ++ ending ∷ []) (marked_on mark device) on.reached on.ran.1.0 (rest_mine databases bounded are)
      (subst (OpenMine mine) (sym closed) (none_open_mine mine)) on.ran.1.1

-- ---- the user, and the others

all_any : (databases : List DatabaseValue) → AllByRecursion (λ (d : DatabaseValue). true ≡ true) databases
all_any [] = tt
all_any (d ∷ databases) = (refl, all_any databases)

-- it has the mark, or is as it was
pub user_marked : (mark : Mark) (device after : Device) (databases : List DatabaseValue) (writes : ℕ) (given : List ℕ) → device.handles ≡ no_handles
    → AllByRecursion IsBoundedDatabase databases → Front device (map text (install_acts mark device.user databases)) writes given after
    → IsMarkedFirst mark device after
unfolding install_acts
user_marked mark device after databases writes given closed bounded front =
    by (front_cut mark device after (installs_of databases ++ ending ∷ []) writes given front)
  where
    by : IsAsItWas device after ⊎ GoesOn mark device (installs_of databases ++ ending ∷ []) after → IsMarkedFirst mark device after
    by (inl same) = inr same
    by (inr on) =
        inl (on.user ∙ (rest_keeps (λ name. true) mark device after databases closed bounded (all_any (filter is_installable databases)) on).user)

-- so that no desktop agrees with it
pub read_next : (mark : Mark) (device after : Device) (desktop : Marks) → ¬ (mark ≡ Unchanged) → 0 < desktop.pc → IsMarkedFirst mark device after
    → IsReadNext desktop device after
read_next mark device after desktop says some (inl marked) =
    inl (ap (λ (user : UserInfo). agreed user desktop) marked ∙ marked_apart mark device.user desktop says some)
read_next mark device after desktop says some (inr same) = inr same

-- none of these has the name
others_named : (name : List ℕ) (databases : List DatabaseValue) → database_of name databases ≡ None
    → AllByRecursion (λ (d : DatabaseValue). not (bytes_eq d.head.name name) ≡ true) databases
others_named name [] none = tt
others_named name (database ∷ databases) none = by (bytes_eq database.head.name name) refl (others_named name databases)
  where
    by : (b : Bool) → bytes_eq database.head.name name ≡ b
        → (database_of name databases ≡ None → AllByRecursion (λ (d : DatabaseValue). not (bytes_eq d.head.name name) ≡ true) databases)
        → (not (bytes_eq database.head.name name) ≡ true) × AllByRecursion (λ (d : DatabaseValue). not (bytes_eq d.head.name name) ≡ true) databases
    by true is rest = absurd (let found : Some database ≡ None = rw is at none in cc)
    by false is rest = (ap not is, rest (rw is at none))

pub others_stay : (mark : Mark) (device after : Device) (databases : List DatabaseValue) (writes : ℕ) (given name : List ℕ)
    → device.handles ≡ no_handles → AllByRecursion IsBoundedDatabase databases
    → Front device (map text (install_acts mark device.user databases)) writes given after
    → database_of name (filter is_installable databases) ≡ None → database_of name after.databases ≡ database_of name device.databases
unfolding install_acts
others_stay mark device after databases writes given name closed bounded front none =
    by (front_cut mark device after (installs_of databases ++ ending ∷ []) writes given front)
  where
    by : IsAsItWas device after ⊎ GoesOn mark device (installs_of databases ++ ending ∷ []) after
        → database_of name after.databases ≡ database_of name device.databases
    by (inl same) = ap (database_of name) same.databases
    by (inr on) =
        ap (database_of name) on.databases
        ∙ (rest_keeps (λ other. not (bytes_eq other name)) mark device after databases closed bounded
        (others_named name (filter is_installable databases) none) on).others name (ap not (bytes_eq-own name))
