-- What the changes of a session make of the picked slot's databases.
use Rattle.std.proofs.lemmas.Bool.Decides.{nat_tests}
use Rattle.std.proofs.lemmas.List.{set-get_or}
use Rattle.std.proofs.Common.{arith, inl, inr, ◌⊎◌, ◌≡◌, ◌∙◌, ◌<◌, ◌==◌, ◌&&◌, ◌||◌, ap, refl, sym, subst, not, ℕ, Bool, true, false, cond, List, [], ◌∷◌, ◌++◌, length, map}
use Rattle.std.specs.Prelude.{Option, Some, None, flat_map, nat_lt, slice_set, if◌then◌else◌}
use Rattle.std.specs.List.{AllByRecursion}
use Rattle.std.specs.Option.{option_map, option_or}
use Rattle.std.specs.Str.{bytes_eq}
use Rattle.pdb_values.specs.Databases.{DatabaseValue}
use Rattle.pdb_values.specs.Heads.{holds_resources}
use Rattle.pdb_values.specs.NamedDatabases.{NamesRise, database_of}
use Rattle.pdb_values.specs.declared.head.DbHead.{DbHead}
use Rattle.pdb_values.proofs.NamedLaws.{bytes_eq-is, bytes_eq-own, database_of-name}
use Rattle.desk_store.specs.Changes.{IsDbChange, changed, changed_to, with_changes}
use Rattle.desk_store.specs.Shelves.{AreOrdered, ShelvesValue, SlotValue, new_slot, number_of, shelf_of, with_place}
use Rattle.desk_store.specs.declared.change.DbChange.{DbChange}
use Rattle.desk_store.specs.declared.role.Role.{Role}
use Rattle.desk_store.specs.declared.role.Role.TheVariants.{Rows, Base, Archive}
use Rattle.desk_store.proofs.ChangedLaws.{found_changed, ordered_changes}
use Rattle.session_parts.specs.declared.skip.Skip.{Skip}
use Rattle.session_plan.specs.Fits.{Rise}
use Rattle.category_mirror.specs.Blocks.{MergeValue}
use Rattle.category_mirror.specs.Changes.{change_filed, change_for, changes_filed, cleared_archive, cleared_database, slots_filed}
use Rattle.category_mirror.specs.FilingActs.{rows_app}
use Rattle.category_mirror.specs.Filings.{rows_by}
use Rattle.category_mirror.specs.Jobs.{names_filed}
use Rattle.category_mirror.specs.Refiled.{is_refiled, refiled_base, refiled_rows}
use Rattle.category_mirror.specs.Sides.{Filing, archive_by, base_by, change_by, filed_archive, filed_base, filed_rows, filed_shelves, filed_slots, filing_changes, is_among, job_named, merge_named, merge_of, names, shelves_of, slot_of}
use Rattle.category_mirror.proofs.BaseLaws.{base-head, base-quiet}
use Rattle.category_mirror.proofs.ChangeLaws.{IsOneOf, changes-fit, changes-rise, one_filed}
use Rattle.category_mirror.proofs.DoneLaws.{names_rise, rows-among}
use Rattle.category_mirror.proofs.EvolveLaws.{found-same, jobs_named, merge_is, merge_none, whole}
use Rattle.category_mirror.proofs.NamedMaps.{KeepsNames, map-is, not-among}
use Rattle.category_mirror.proofs.SameLaws.{rows_stay, still_some}
use Rattle.category_mirror.proofs.WholeLaws.{IsWhole}

-- ---- one change among others

skip_one : (role : Role) (n name : List ℕ) (one rest : List DbChange) → IsOneOf n one → bytes_eq n name ≡ false
    → changed role name (one ++ rest) ≡ changed role name rest
skip_one role n name [] rest is differ = refl
skip_one role n name (change ∷ []) rest is differ =
    ap (λ b. cond b (changed_to role change) (changed role name rest)) (ap (λ m. bytes_eq m name) is.named ∙ differ)
skip_one role n name (change ∷ more ∷ changes) rest is differ = absurd is

only_one : (role : Role) (n name : List ℕ) (one rest : List DbChange) → IsOneOf n one → changed role name rest ≡ None
    → changed role name (one ++ rest) ≡ changed role name one
only_one role n name [] rest is none = none
only_one role n name (change ∷ []) rest is none =
    ap (λ (o : Option DatabaseValue). cond (bytes_eq change.rows.head.name name) (changed_to role change) o) none
only_one role n name (change ∷ more ∷ changes) rest is none = absurd is

module _ (filing : Filing) where
  abbrev shelves : ShelvesValue
  shelves = shelves_of filing

  abbrev change_at : List ℕ → List DbChange
  change_at name = change_filed shelves name (merge_named filing name)

  abbrev changes_at : List (List ℕ) → List DbChange
  changes_at ns = flat_map change_at ns

  pub changes-at : (ns : List (List ℕ)) → changes_filed shelves (jobs_named filing ns) (map (merge_of filing) (jobs_named filing ns)) ≡ changes_at ns
  unfolding changes_filed
  changes-at [] = refl
  changes-at (n ∷ ns) = ap (λ (rest : List DbChange). change_at n ++ rest) (changes-at ns)

  changed-at : (role : Role) (name : List ℕ) (ns : List (List ℕ)) → Rise ns
      → changed role name (changes_at ns) ≡ cond (is_among name ns) (changed role name (change_at name)) None
  changed-at role name [] rise = refl
  changed-at role name (n ∷ ns) rise = by (bytes_eq n name) refl (changed-at role name ns rise.1)
    where
      one : IsOneOf n (change_at n)
      one = one_filed shelves n (merge_named filing n)

      by : (b : Bool) → bytes_eq n name ≡ b
          → changed role name (changes_at ns) ≡ cond (is_among name ns) (changed role name (change_at name)) None
          → changed role name (change_at n ++ changes_at ns) ≡ cond (b || is_among name ns) (changed role name (change_at name)) None
      by false differ later = skip_one role n name (change_at n) (changes_at ns) one differ ∙ later
      by true same later =
          let named : n ≡ name = bytes_eq-is n name same in
          let none : is_among name ns ≡ false = ap (λ m. is_among m ns) (sym named) ∙ not-among n ns rise.0 in
          only_one role n name (change_at n) (changes_at ns) one
          (later ∙ ap (λ b. cond b (changed role name (change_at name)) None) none)
          ∙ ap (λ m. changed role name (change_at m)) named

  -- ---- what changes under a name

  abbrev rows_at : List ℕ → Option DatabaseValue
  rows_at name = database_of name shelves.rows

  -- nothing changes
  record IsUnchanged (name : List ℕ) : Type 0 where
    changes : change_at name ≡ []
    quiet : change_by (merge_named filing name) (rows_at name) ≡ false
    rows : option_map (rows_by (merge_named filing name)) (rows_at name) ≡ rows_at name

  -- its rows change
  record IsChangedSo (name : List ℕ) : Type 0 where
    merge : MergeValue
    rows : DatabaseValue
    base : DatabaseValue
    merge_is : merge_named filing name ≡ Some merge
    rows_are : rows_at name ≡ Some rows
    base_is : database_of name shelves.bases ≡ Some base
    refiled : is_refiled merge rows ≡ true
    changes : change_at name ≡ record {
      rows = refiled_rows merge rows;
      base = refiled_base merge base;
      archive = cleared_archive (database_of name shelves.archives);
    } ∷ []

  none_rows : (o : Option DatabaseValue) → option_map (rows_by None) o ≡ o
  none_rows None = refl
  none_rows (Some rows) = refl

  unmerged : (name : List ℕ) → merge_named filing name ≡ None → IsUnchanged name
  unfolding change_filed
  unmerged name none = record {
    changes = ap (λ (m : Option MergeValue). change_for m (rows_at name) (database_of name shelves.bases) (database_of name shelves.archives)) none;
    quiet = ap (λ (m : Option MergeValue). change_by m (rows_at name)) none;
    rows = ap (λ (m : Option MergeValue). option_map (rows_by m) (rows_at name)) none ∙ none_rows (rows_at name);
  }

  -- where both hold records the test is that of the rows
  holds_both : (a b c : Bool) → a ≡ false → b ≡ false → (not a && (not b && c)) ≡ c
  holds_both a b c one two = rw (one, two) refl

  module _ (name : List ℕ) (kept : (job_named filing name).skip ≡ None) where
    abbrev own : IsWhole filing.device.databases shelves name
    own = whole filing name kept

    changes_for : (merge : MergeValue) → merge_named filing name ≡ Some merge → change_at name
        ≡ (if is_refiled merge own.rows then record {
          rows = refiled_rows merge own.rows;
          base = refiled_base merge own.base;
          archive = cleared_archive (database_of name shelves.archives);
        } ∷ [] else [])
    unfolding change_filed
    changes_for merge is =
        ap (λ (m : Option MergeValue). change_for m (rows_at name) (database_of name shelves.bases) (database_of name shelves.archives)) is
        ∙ ap (λ (o : Option DatabaseValue). change_for (Some merge) o (database_of name shelves.bases) (database_of name shelves.archives)) own.rows_there
        ∙ ap (λ (o : Option DatabaseValue). change_for (Some merge) (Some own.rows) o (database_of name shelves.archives)) own.base_there
        ∙ ap (λ b. let change : DbChange = record {
          rows = refiled_rows merge own.rows;
          base = refiled_base merge own.base;
          archive = cleared_archive (database_of name shelves.archives);
        } in if b then change ∷ [] else [])
        (holds_both (holds_resources own.rows.head.attributes) (holds_resources own.base.head.attributes) (is_refiled merge own.rows)
        own.rows_records own.base_records)

    merged_view : (merge : MergeValue) → merge_named filing name ≡ Some merge → (b : Bool) → is_refiled merge own.rows ≡ b
        → IsUnchanged name ⊎ IsChangedSo name
    merged_view merge is true refiled = inr (record {
      merge = merge;
      rows = own.rows;
      base = own.base;
      merge_is = is;
      rows_are = own.rows_there;
      base_is = own.base_there;
      refiled = refiled;
      changes = changes_for merge is ∙ ap (λ b. let change : DbChange = record {
        rows = refiled_rows merge own.rows;
        base = refiled_base merge own.base;
        archive = cleared_archive (database_of name shelves.archives);
      } in if b then change ∷ [] else []) refiled;
    })
    merged_view merge is false still = inl (record {
      changes = changes_for merge is ∙ ap (λ b. let change : DbChange = record {
        rows = refiled_rows merge own.rows;
        base = refiled_base merge own.base;
        archive = cleared_archive (database_of name shelves.archives);
      } in if b then change ∷ [] else []) still;
      quiet = ap (λ (m : Option MergeValue). change_by m (rows_at name)) is ∙ ap (change_by (Some merge)) own.rows_there ∙ still;
      rows = ap (λ (m : Option MergeValue). option_map (rows_by m) (rows_at name)) is ∙ ap (option_map (rows_by (Some merge))) own.rows_there
          ∙ ap (λ (d : DatabaseValue). Some d) (rows_stay merge own.rows (still_some merge own.rows still) still) ∙ sym own.rows_there;
    })

    kept_view : (m : Option MergeValue) → merge_named filing name ≡ m → IsUnchanged name ⊎ IsChangedSo name
    kept_view None is = inl (unmerged name is)
    kept_view (Some merge) is = merged_view merge is (is_refiled merge own.rows) refl

  view : (name : List ℕ) → IsUnchanged name ⊎ IsChangedSo name
  view name = by (job_named filing name).skip refl
    where
      by : (skip : Option Skip) → (job_named filing name).skip ≡ skip → IsUnchanged name ⊎ IsChangedSo name
      by (Some skip) is = inl (unmerged name (merge_none filing name is))
      by None kept = kept_view name kept (merge_named filing name) refl

  -- ---- look-ups

  unchanged_none : (role : Role) (name : List ℕ) → IsUnchanged name → changed role name (changes_at (names filing)) ≡ None
  unchanged_none role name un =
      changed-at role name (names filing) (names_rise filing)
      ∙ ap (λ (cs : List DbChange). cond (is_among name (names filing)) (changed role name cs) None) un.changes
      ∙ both (is_among name (names filing))
    where
      both : (b : Bool) → cond b (let none : Option DatabaseValue = None in none) None ≡ None
      both true = refl
      both false = refl

  changed_some : (role : Role) (name : List ℕ) (so : IsChangedSo name) → changed role name (changes_at (names filing)) ≡ changed_to role (record {
    rows = refiled_rows so.merge so.rows;
    base = refiled_base so.merge so.base;
    archive = cleared_archive (database_of name shelves.archives);
  })
  unfolding refiled_rows
  changed_some role name so =
      let named : so.rows.head.name ≡ name = database_of-name name shelves.rows so.rows so.rows_are in
      changed-at role name (names filing) (names_rise filing)
      ∙ ap (λ b. cond b (changed role name (change_at name)) None) (rows-among filing name so.rows so.rows_are)
      ∙ ap (changed role name) so.changes
      ∙ ap (λ b. cond b (changed_to role (record {
        rows = refiled_rows so.merge so.rows;
        base = refiled_base so.merge so.base;
        archive = cleared_archive (database_of name shelves.archives);
      })) None) (ap (λ n. bytes_eq n name) named ∙ bytes_eq-own name)

  rows_found : (name : List ℕ) → option_or (changed Rows name (changes_at (names filing))) (rows_at name) ≡ option_map (filed_rows filing) (rows_at name)
  rows_found name =
      by (view name)
      ∙ found-same name shelves.rows (rows_at name) refl (λ d named. ap (λ n. rows_by (merge_named filing n) d) (sym named))
    where
      by : IsUnchanged name ⊎ IsChangedSo name
          → option_or (changed Rows name (changes_at (names filing))) (rows_at name) ≡ option_map (rows_by (merge_named filing name)) (rows_at name)
      by (inl un) = ap (λ (o : Option DatabaseValue). option_or o (rows_at name)) (unchanged_none Rows name un) ∙ sym un.rows
      by (inr so) =
          ap (λ (o : Option DatabaseValue). option_or o (rows_at name)) (changed_some Rows name so)
          ∙ sym (ap (λ (m : Option MergeValue). option_map (rows_by m) (rows_at name)) so.merge_is ∙ ap (option_map (rows_by (Some so.merge))) so.rows_are)

  abbrev moved : Option MergeValue → Option DatabaseValue → Option DatabaseValue → Option DatabaseValue
  moved m rows o = option_map (base_by m rows) o

  bases_found : (name : List ℕ)
      → option_or (changed Base name (changes_at (names filing))) (database_of name shelves.bases)
      ≡ option_map (filed_base filing) (database_of name shelves.bases)
  bases_found name =
      by (view name)
      ∙ found-same name shelves.bases (database_of name shelves.bases) refl
      (λ d named. ap (λ n. base_by (merge_named filing n) (rows_at n) d) (sym named))
    where
      kept : (m : Option MergeValue) (rows : Option DatabaseValue) → change_by m rows ≡ false → (o : Option DatabaseValue) → o ≡ moved m rows o
      kept m rows quiet None = refl
      kept m rows quiet (Some d) = ap (λ (x : DatabaseValue). Some x) (sym (base-quiet m rows quiet d))

      by : IsUnchanged name ⊎ IsChangedSo name
          → option_or (changed Base name (changes_at (names filing))) (database_of name shelves.bases)
          ≡ moved (merge_named filing name) (rows_at name) (database_of name shelves.bases)
      by (inl un) =
          ap (λ (o : Option DatabaseValue). option_or o (database_of name shelves.bases)) (unchanged_none Base name un)
          ∙ kept (merge_named filing name) (rows_at name) un.quiet (database_of name shelves.bases)
      by (inr so) =
          ap (λ (o : Option DatabaseValue). option_or o (database_of name shelves.bases)) (changed_some Base name so)
          ∙ sym (ap (λ (o : Option DatabaseValue). moved (merge_named filing name) (rows_at name) o) so.base_is
          ∙ ap (λ (m : Option MergeValue). moved m (rows_at name) (Some so.base)) so.merge_is
          ∙ ap (λ (r : Option DatabaseValue). moved (Some so.merge) r (Some so.base)) so.rows_are
          ∙ ap (λ b. let one : Option DatabaseValue = Some (if b then refiled_base so.merge so.base else so.base) in one) so.refiled)

  archives_found : (name : List ℕ)
      → option_or (changed Archive name (changes_at (names filing))) (database_of name shelves.archives)
      ≡ option_map (filed_archive filing) (database_of name shelves.archives)
  archives_found name =
      by (view name) (database_of name shelves.archives) refl
      ∙ found-same name shelves.archives (database_of name shelves.archives) refl
      (λ d named. ap (λ n. archive_by (change_by (merge_named filing n) (rows_at n)) d) (sym named))
    where
      cleared : (o : Option DatabaseValue) → option_or (cleared_archive o) o ≡ option_map (archive_by true) o
      cleared None = refl
      cleared (Some d) = chosen (holds_resources d.head.attributes || (length d.records == 0))
        where
          chosen : (b : Bool) → option_or (if b then None else Some (cleared_database d)) (Some d)
              ≡ Some (if true && not b then cleared_database d else d)
          chosen true = refl
          chosen false = refl

      kept : (o : Option DatabaseValue) → o ≡ option_map (archive_by false) o
      kept None = refl
      kept (Some d) = refl

      by : IsUnchanged name ⊎ IsChangedSo name → (o : Option DatabaseValue) → database_of name shelves.archives ≡ o
          → option_or (changed Archive name (changes_at (names filing))) (database_of name shelves.archives)
          ≡ option_map (archive_by (change_by (merge_named filing name) (rows_at name))) (database_of name shelves.archives)
      by (inl un) o is =
          ap (λ (c : Option DatabaseValue). option_or c (database_of name shelves.archives)) (unchanged_none Archive name un)
          ∙ kept (database_of name shelves.archives)
          ∙ ap (λ b. option_map (archive_by b) (database_of name shelves.archives)) (sym un.quiet)
      by (inr so) o is =
          ap (λ (c : Option DatabaseValue). option_or c (database_of name shelves.archives)) (changed_some Archive name so)
          ∙ cleared (database_of name shelves.archives)
          ∙ ap (λ b. option_map (archive_by b) (database_of name shelves.archives))
          (sym (ap (λ (m : Option MergeValue). change_by m (rows_at name)) so.merge_is ∙ ap (change_by (Some so.merge)) so.rows_are ∙ so.refiled))

  -- ---- the databases

  rows_keep : KeepsNames (filed_rows filing)
  unfolding refiled_rows
  rows_keep = record { at = λ d. by (merge_named filing d.head.name) d }
    where
      by : (m : Option MergeValue) (d : DatabaseValue) → (rows_by m d).head.name ≡ d.head.name
      by None d = refl
      by (Some merge) d = refl

  bases_keep : KeepsNames (filed_base filing)
  bases_keep = record { at = λ d. ap (λ (h : DbHead). h.name) (base-head (merge_named filing d.head.name) (rows_at d.head.name) d) }

  archives_keep : KeepsNames (filed_archive filing)
  unfolding cleared_database
  archives_keep = record { at = λ d. by (change_by (merge_named filing d.head.name) (rows_at d.head.name)) d }
    where
      chosen : (b : Bool) (d : DatabaseValue) → (if b then cleared_database d else d).head.name ≡ d.head.name
      chosen true d = refl
      chosen false d = refl

      by : (b : Bool) (d : DatabaseValue) → (archive_by b d).head.name ≡ d.head.name
      by b d = chosen (b && not (holds_resources d.head.attributes || (length d.records == 0))) d

  module _ (ordered : AreOrdered shelves) where
    rise : NamesRise (map (λ (change : DbChange). change.rows) (changes_at (names filing)))
    rise =
        subst (λ (cs : List DbChange). NamesRise (map (λ (change : DbChange). change.rows) cs)) (changes-at (names filing))
        (changes-rise shelves (jobs_named filing (names filing)) (map (merge_of filing) (jobs_named filing (names filing)))
        (subst Rise (sym (names-are (names filing))) (names_rise filing)))
      where
        names-are : (ns : List (List ℕ)) → names_filed (jobs_named filing ns) ≡ ns
        names-are [] = refl
        names-are (n ∷ ns) = ap (λ more. n ∷ more) (names-are ns)

    fit : AllByRecursion IsDbChange (changes_at (names filing))
    fit =
        subst (AllByRecursion IsDbChange) (changes-at (names filing))
        (changes-fit shelves (jobs_named filing (names filing)) (map (merge_of filing) (jobs_named filing (names filing))))

    found : (role : Role) (name : List ℕ)
        → database_of name (shelf_of (with_changes (changes_at (names filing)) shelves) role)
        ≡ option_or (changed role name (changes_at (names filing))) (database_of name (shelf_of shelves role))
    found role name = found_changed role name (changes_at (names filing)) shelves rise fit

    after : AreOrdered (with_changes (changes_at (names filing)) shelves)
    after = ordered_changes (changes_at (names filing)) shelves ordered

    pub shelves-are : with_changes (filing_changes filing) shelves ≡ filed_shelves filing
    unfolding filing_changes filed_shelves
    shelves-are = λ k. record {
      rows = map-is rows_keep shelves.rows (with_changes (changes_at (names filing)) shelves).rows ordered.rows after.rows
          (λ name o is. found Rows name ∙ rows_found name ∙ ap (option_map (filed_rows filing)) is) k;
      bases = map-is bases_keep shelves.bases (with_changes (changes_at (names filing)) shelves).bases ordered.bases after.bases
          (λ name o is. found Base name ∙ bases_found name ∙ ap (option_map (filed_base filing)) is) k;
      archives = map-is archives_keep shelves.archives (with_changes (changes_at (names filing)) shelves).archives ordered.archives after.archives
          (λ name o is. found Archive name ∙ archives_found name ∙ ap (option_map (filed_archive filing)) is) k;
    }

    -- ---- the slots

    -- where nothing changes all slots are as they were
    pub slots-none : filing_changes filing ≡ [] → filed_slots filing ≡ filing.slots
    unfolding filed_slots
    slots-none none =
        let same : filed_shelves filing ≡ shelves = sym shelves-are ∙ ap (λ (cs : List DbChange). with_changes cs shelves) none in
        ap (λ (s : ShelvesValue). let slot : SlotValue = record { marks = (slot_of filing).marks; parted = (slot_of filing).parted; shelves = s } in slice_set filing.slots filing.picked slot) same
        ∙ set-get_or filing.slots filing.picked (new_slot (number_of filing.slots))

    pub slots-are : {F : Type 0} (folder : F) → filing.picked < length filing.slots
        → slots_filed (filing_changes filing) (record { folder = folder; slots = filing.slots; picked = filing.picked }) ≡ filed_slots filing
    unfolding slots_filed filed_slots
    slots-are folder within =
        let there : with_place filing.slots filing.picked ≡ filing.slots =
        ap (λ b. if b then filing.slots else filing.slots ++ new_slot (number_of filing.slots) ∷ []) (let less : nat_lt filing.picked (length filing.slots)
        ≡ true = grind (arith, nat_tests, within) in less) in
        ap (λ (ss : List SlotValue). let slot : SlotValue = record { marks = (slot_of filing).marks; parted = (slot_of filing).parted; shelves = with_changes (filing_changes filing) shelves }
        in slice_set ss filing.picked slot) there
        ∙ ap (λ (s : ShelvesValue). let slot : SlotValue = record { marks = (slot_of filing).marks; parted = (slot_of filing).parted; shelves = s } in slice_set filing.slots filing.picked slot)
        shelves-are
