-- Sessions that are run again, over all databases of both sides.
use Rattle.std.proofs.lemmas.List.{set-set}
use Rattle.std.proofs.lemmas.Simd.{map-map}
use Rattle.std.proofs.Common.{arith, ◌≡◌, ◌∙◌, ◌<◌, ◌+◌, ap, refl, sym, subst, ℕ, zero, suc, Bool, true, false, List, [], ◌∷◌, ◌++◌, length, map}
use Rattle.std.specs.Prelude.{Option, Some, None, flat_map, is_some, max, not, option_and_then, slice_set, ◌&&◌, if◌then◌else◌}
use Rattle.std.specs.List.{AllByRecursion}
use Rattle.std.specs.Option.{option_map}
use Rattle.pdb_values.specs.Databases.{DatabaseValue}
use Rattle.pdb_values.specs.NamedDatabases.{NamesRise, database_of}
use Rattle.pdb_values.specs.declared.head.DbHead.{DbHead}
use Rattle.pdb_values.proofs.NamedLaws.{AllByRecursion-database_of, database_of-name, database_of-same}
use Rattle.desk_store.specs.Shelves.{ShelvesValue, SlotValue, slot_at}
use Rattle.desk_store.specs.declared.change.DbChange.{DbChange}
use Rattle.desk_store.proofs.SlotListLaws.{slot_at-set_same}
use Rattle.session_parts.specs.Meets.{greeting}
use Rattle.desktop_session.specs.Acts.{Act}
use Rattle.desktop_session.specs.Lists.{listings}
use Rattle.desktop_session.specs.Requests.{listing}
use Rattle.session_parts.specs.declared.skip.Skip.{Skip}
use Rattle.conduit_rules.specs.declared.action.Action.TheVariants as action
use Rattle.session_plan.specs.Skips.{head_of, reason}
use Rattle.category_mirror.specs.Blocks.{MergeValue, blocks_merge, written_block}
use Rattle.pdb_values.specs.Heads.{holds_resources}
use Rattle.session_plan.specs.Jobs.{head_named}
use Rattle.category_mirror.specs.Changes.{change_filed, change_for, cleared_archive}
use Rattle.category_mirror.specs.FilingActs.{marked_user, marks_for, rows_app}
use Rattle.category_mirror.specs.Filings as one
use Rattle.category_mirror.specs.Filings.{AreOfCategories, block_by, rows_by}
use Rattle.category_mirror.specs.Jobs.{filing_job, filing_reason, or_missing}
use Rattle.category_mirror.specs.Refiled.{is_refiled, refiled_base, refiled_rows}
use Rattle.category_mirror.specs.Sides.{Filing, archive_by, before_end, before_mark, block_writes, change_by, filed_archive, filed_base, filed_database, filed_device, filed_rows, filed_shelves, filed_slots, filing_changes, heads_of, job_acts, job_named, jobs, mark_acts, merge_named, names, shelves_of, slot_of, with_merge, write_count}
use Rattle.category_mirror.proofs.AgainLaws.{IsMade, IsStill, made, still}
use Rattle.category_mirror.proofs.AlongLaws.{count-append, count-is, count_of}
use Rattle.category_mirror.proofs.BaseLaws.{base-head, base-quiet}
use Rattle.category_mirror.proofs.OneLaws.{acts_with}
use Rattle.category_mirror.proofs.EvolveLaws.{acts_are, acts_none, jobs_named, merge_none, own_written, skipped_same, whole}
use Rattle.category_mirror.proofs.NamedMaps.{KeepsNames, NamesRise-map, database_of-map}
use Rattle.category_mirror.proofs.WholeLaws.{IsWhole}
use Rattle.category_mirror.proofs.MadeAgain.{heads-map, map-same, merge_kept}
use Rattle.category_mirror.proofs.MarkLaws.{marks-none}

-- ---- behind the commit: both sides have the merged tables

-- the rows of each database of the picked slot are of categories
abbrev pub AreFileable : List DatabaseValue → Type 0
AreFileable rows = AllByRecursion (λ (d : DatabaseValue). AreOfCategories d.records) rows

rows_head : (m : Option MergeValue) (d : DatabaseValue) → (rows_by m d).head ≡ d.head
unfolding refiled_rows
rows_head None d = refl
rows_head (Some merge) d = refl

pub some_same : {x y : DatabaseValue} → ◌≡◌ {A = Option DatabaseValue} (Some x) (Some y) → x ≡ y
some_same {x} {y} eq = let same : x ≡ y = cc in same

-- the laws of one database, in their parts
block_again : (block : Option (List ℕ)) (rows : DatabaseValue)
    → one.filed_block (one.filed_block block rows) (one.filed_rows block rows) ≡ one.filed_block block rows
    → block_by (one.filed_block block rows) (blocks_merge (one.filed_block block rows) (one.filed_rows block rows).app) ≡ one.filed_block block rows
unfolding one.filed_block
block_again block rows is = is

rows_again : (block : Option (List ℕ)) (rows : DatabaseValue)
    → one.filed_rows (one.filed_block block rows) (one.filed_rows block rows) ≡ one.filed_rows block rows
    → rows_by (blocks_merge (one.filed_block block rows) (one.filed_rows block rows).app) (one.filed_rows block rows) ≡ one.filed_rows block rows
unfolding one.filed_rows
rows_again block rows is = is

still_by : (block : Option (List ℕ)) (rows : DatabaseValue) → IsStill block rows → (m : Option MergeValue)
    → m ≡ blocks_merge (one.filed_block block rows) (one.filed_rows block rows).app → change_by m (Some (one.filed_rows block rows)) ≡ false
still_by block rows is None same = refl
still_by block rows is (Some merge) same = is.rows_too merge (sym same)

-- where no row changes there is no change
none_for : (m : Option MergeValue) (rows base archive : Option DatabaseValue) → change_by m rows ≡ false → change_for m rows base archive ≡ []
none_for None rows base archive none = refl
none_for (Some merge) None base archive none = refl
none_for (Some merge) (Some rows) None archive none = refl
none_for (Some merge) (Some rows) (Some base) archive none =
    by (holds_resources rows.head.attributes) (holds_resources base.head.attributes) (is_refiled merge rows) none (record {
      rows = refiled_rows merge rows;
      base = refiled_base merge base;
      archive = cleared_archive archive;
    })
  where
    by : (a b c : Bool) → c ≡ false → (change : DbChange) → (if not a && (not b && c) then change ∷ [] else []) ≡ []
    by true b c none change = refl
    by false true c none change = refl
    by false false true none change = absurd cc
    by false false false none change = refl

listings_quiet : (count : ℕ) → write_count (listings count) ≡ 0
unfolding listings
listings_quiet zero = refl
listings_quiet (suc count) =
    let both = count-append (listings count) (listing count ∷ []) in
    let last = count-is (listing count ∷ []) in
    let rest = listings_quiet count in omega (arith, both, last, rest)

module _ (filing : Filing) (within : filing.picked < length filing.slots) where
  abbrev pub behind : Filing
  behind = record { device = filed_device filing; slots = filed_slots filing; picked = filing.picked }

  abbrev own_rows : List DatabaseValue
  own_rows = (shelves_of filing).rows

  behind_slot : slot_at (filed_slots filing) filing.picked ≡ record { marks = (slot_of filing).marks; parted = (slot_of filing).parted; shelves = filed_shelves filing }
  unfolding filed_slots
  behind_slot = slot_at-set_same filing.slots filing.picked (record { marks = (slot_of filing).marks; parted = (slot_of filing).parted; shelves = filed_shelves filing }) within

  behind_shelves : shelves_of behind ≡ filed_shelves filing
  behind_shelves = ap (λ (s : SlotValue). s.shelves) behind_slot

  rows_are : (shelves_of behind).rows ≡ map (filed_rows filing) own_rows
  unfolding filed_shelves
  rows_are = ap (λ (s : ShelvesValue). s.rows) behind_shelves

  bases_are : (shelves_of behind).bases ≡ map (filed_base filing) (shelves_of filing).bases
  unfolding filed_shelves
  bases_are = ap (λ (s : ShelvesValue). s.bases) behind_shelves

  archives_are : (shelves_of behind).archives ≡ map (filed_archive filing) (shelves_of filing).archives
  unfolding filed_shelves
  archives_are = ap (λ (s : ShelvesValue). s.archives) behind_shelves

  rows_keep : KeepsNames (filed_rows filing)
  rows_keep = record { at = λ d. ap (λ (h : DbHead). h.name) (rows_head (merge_named filing d.head.name) d) }

  filed_head : (d : DatabaseValue) → (filed_base filing d).head ≡ d.head
  filed_head d = base-head (merge_named filing d.head.name) (database_of d.head.name own_rows) d

  filed_keeps : KeepsNames (filed_database filing)
  filed_keeps = record { at = λ d. refl }

  behind_keeps : KeepsNames (filed_database behind)
  behind_keeps = record { at = λ d. refl }

  behind_rows_keep : KeepsNames (filed_rows behind)
  behind_rows_keep = record { at = λ d. ap (λ (h : DbHead). h.name) (rows_head (merge_named behind d.head.name) d) }

  behind_heads : heads_of behind.device.databases ≡ heads_of filing.device.databases
  unfolding filed_device
  behind_heads = heads-map (filed_database filing) filing.device.databases (λ d. refl)

  found_rows : (n : List ℕ) → database_of n (shelves_of behind).rows ≡ option_map (filed_rows filing) (database_of n own_rows)
  found_rows n = ap (database_of n) rows_are ∙ database_of-map rows_keep n own_rows

  found_held : (n : List ℕ) → database_of n behind.device.databases ≡ option_map (filed_database filing) (database_of n filing.device.databases)
  unfolding filed_device
  found_held n = database_of-map filed_keeps n filing.device.databases

  head_same : (o : Option DatabaseValue) → head_of (option_map (filed_rows filing) o) ≡ head_of o
  head_same None = refl
  head_same (Some d) = ap (λ (h : DbHead). Some h) (rows_head (merge_named filing d.head.name) d)

  bases_keep : KeepsNames (filed_base filing)
  bases_keep = record { at = λ d. ap (λ (h : DbHead). h.name) (filed_head d) }

  found_bases : (n : List ℕ) → database_of n (shelves_of behind).bases ≡ option_map (filed_base filing) (database_of n (shelves_of filing).bases)
  found_bases n = ap (database_of n) bases_are ∙ database_of-map bases_keep n (shelves_of filing).bases

  -- base rows that go along leave no other reason
  reason_same : (handheld rows : Option DbHead) (o : Option DatabaseValue)
      → filing_reason handheld rows (option_map (filed_base filing) o) ≡ filing_reason handheld rows o
  reason_same handheld rows None = refl
  reason_same handheld rows (Some d) =
      ap (λ (h : DbHead). or_missing (reason action.Sync handheld rows true)
      (is_some handheld && (is_some rows && not (holds_resources h.attributes)))) (filed_head d)

  behind_job : (n : List ℕ) → (job_named behind n).skip ≡ (job_named filing n).skip
  behind_job n =
      ap (λ (heads : List DbHead). (filing_job heads (shelves_of behind) n).skip) behind_heads
      ∙ ap (λ (h : Option DbHead). filing_reason (head_named n (heads_of filing.device.databases)) h (database_of n (shelves_of behind).bases))
      (ap head_of (found_rows n) ∙ head_same (database_of n own_rows))
      ∙ ap (λ (o : Option DatabaseValue). filing_reason (head_named n (heads_of filing.device.databases)) (head_of (database_of n own_rows)) o) (found_bases n)
      ∙ reason_same (head_named n (heads_of filing.device.databases)) (head_of (database_of n own_rows)) (database_of n (shelves_of filing).bases)

  -- ---- under each name

  module _ (n : List ℕ) (kept : (job_named filing n).skip ≡ None) where
    abbrev both : IsWhole filing.device.databases (shelves_of filing) n
    both = whole filing n kept

    abbrev block : Option (List ℕ)
    block = both.handheld.app

    first_merge : merge_named filing n ≡ blocks_merge block both.rows.app
    first_merge =
        merge_kept filing n kept
        ∙ ap (λ (o : Option DatabaseValue). blocks_merge (option_and_then (λ (d : DatabaseValue). d.app) o) (rows_app (shelves_of filing) n)) both.there
        ∙ ap (λ (o : Option DatabaseValue). blocks_merge block (option_and_then (λ (d : DatabaseValue). d.app) o)) both.rows_there

    block_is : (filed_database filing both.handheld).app ≡ one.filed_block block both.rows
    unfolding one.filed_block
    block_is =
        ap (λ name. block_by block (merge_named filing name)) (database_of-name n filing.device.databases both.handheld both.there)
        ∙ ap (block_by block) first_merge

    rows_is : filed_rows filing both.rows ≡ one.filed_rows block both.rows
    unfolding one.filed_rows
    rows_is =
        ap (λ name. rows_by (merge_named filing name) both.rows) (database_of-name n own_rows both.rows both.rows_there)
        ∙ ap (λ (m : Option MergeValue). rows_by m both.rows) first_merge

    found_both : database_of n behind.device.databases ≡ Some (filed_database filing both.handheld)
    found_both = found_held n ∙ ap (option_map (filed_database filing)) both.there

    found_filed : database_of n (shelves_of behind).rows ≡ Some (one.filed_rows block both.rows)
    found_filed = found_rows n ∙ ap (option_map (filed_rows filing)) both.rows_there ∙ ap (λ (d : DatabaseValue). Some d) rows_is

    second_merge : merge_named behind n ≡ blocks_merge (one.filed_block block both.rows) (one.filed_rows block both.rows).app
    second_merge =
        merge_kept behind n (behind_job n ∙ kept)
        ∙ ap (λ (o : Option DatabaseValue). blocks_merge (option_and_then (λ (d : DatabaseValue). d.app) o) (rows_app (shelves_of behind) n)) found_both
        ∙ ap (λ (app : Option (List ℕ)). blocks_merge app (rows_app (shelves_of behind) n)) block_is
        ∙ ap (λ (o : Option DatabaseValue). blocks_merge (one.filed_block block both.rows) (option_and_then (λ (d : DatabaseValue). d.app) o)) found_filed

  module _ (fileable : AreFileable own_rows) where
    categories : (n : List ℕ) (kept : (job_named filing n).skip ≡ None) → AreOfCategories (both n kept).rows.records
    categories n kept =
        AllByRecursion-database_of (λ (d : DatabaseValue). AreOfCategories d.records) n own_rows (both n kept).rows fileable (both n kept).rows_there

    own_made : (n : List ℕ) (kept : (job_named filing n).skip ≡ None) → IsMade (block n kept) (both n kept).rows
    own_made n kept = made (block n kept) (both n kept).rows

    own_still : (n : List ℕ) (kept : (job_named filing n).skip ≡ None) → IsStill (block n kept) (both n kept).rows
    own_still n kept = still (block n kept) (both n kept).rows (categories n kept)

    -- ---- the handheld's databases

    app_again : (n : List ℕ) (kept : (job_named filing n).skip ≡ None)
        → block_by (filed_database filing (both n kept).handheld).app (merge_named behind n) ≡ (filed_database filing (both n kept).handheld).app
    app_again n kept =
        ap (λ (app : Option (List ℕ)). block_by app (merge_named behind n)) (block_is n kept)
        ∙ ap (block_by (one.filed_block (block n kept) (both n kept).rows)) (second_merge n kept)
        ∙ again (own_made n kept) ∙ sym (block_is n kept)
      where
        again : IsMade (block n kept) (both n kept).rows
            → block_by (one.filed_block (block n kept) (both n kept).rows)
            (blocks_merge (one.filed_block (block n kept) (both n kept).rows) (one.filed_rows (block n kept) (both n kept).rows).app)
            ≡ one.filed_block (block n kept) (both n kept).rows
        again is = block_again (block n kept) (both n kept).rows (is.behind_block (categories n kept))

    kept_again : (n : List ℕ) (kept : (job_named filing n).skip ≡ None) (d : DatabaseValue) → (both n kept).handheld ≡ d
        → with_merge (merge_named behind n) (filed_database filing d) ≡ filed_database filing d
    kept_again n kept d same =
        subst (λ (x : DatabaseValue). with_merge (merge_named behind n) (filed_database filing x) ≡ filed_database filing x) same
        (λ k. record (both n kept).handheld { app = app_again n kept k })

    database_again : (n : List ℕ) (d : DatabaseValue) → database_of n filing.device.databases ≡ Some d
        → filed_database behind (filed_database filing d) ≡ filed_database filing d
    database_again n d is =
        ap (λ name. with_merge (merge_named behind name) (filed_database filing d)) (database_of-name n filing.device.databases d is)
        ∙ by (job_named filing n).skip refl
      where
        by : (skip : Option Skip) → (job_named filing n).skip ≡ skip → with_merge (merge_named behind n) (filed_database filing d) ≡ filed_database filing d
        by (Some skip) un =
            ap (λ (m : Option MergeValue). with_merge m (filed_database filing d)) (merge_none behind n (behind_job n ∙ un))
            ∙ (λ k. record d { app = skipped_same (filed_database filing d).app k })
        by None kept = kept_again n kept d (some_same (sym (both n kept).there ∙ is))

    -- ---- the desktop

    filed_again : (n : List ℕ) (kept : (job_named filing n).skip ≡ None)
        → rows_by (merge_named behind n) (one.filed_rows (block n kept) (both n kept).rows) ≡ one.filed_rows (block n kept) (both n kept).rows
    filed_again n kept =
        ap (λ (m : Option MergeValue). rows_by m (one.filed_rows (block n kept) (both n kept).rows)) (second_merge n kept)
        ∙ rows_again (block n kept) (both n kept).rows ((own_made n kept).behind_rows (categories n kept))

    kept_rows : (n : List ℕ) (kept : (job_named filing n).skip ≡ None) (d : DatabaseValue) → (both n kept).rows ≡ d
        → rows_by (merge_named behind n) (filed_rows filing d) ≡ filed_rows filing d
    kept_rows n kept d same =
        subst (λ (x : DatabaseValue). rows_by (merge_named behind n) (filed_rows filing x) ≡ filed_rows filing x) same
        (ap (rows_by (merge_named behind n)) (rows_is n kept) ∙ filed_again n kept ∙ sym (rows_is n kept))

    rows_same : (n : List ℕ) (d : DatabaseValue) → database_of n own_rows ≡ Some d → filed_rows behind (filed_rows filing d) ≡ filed_rows filing d
    rows_same n d is =
        ap (λ name. rows_by (merge_named behind name) (filed_rows filing d))
        (ap (λ (h : DbHead). h.name) (rows_head (merge_named filing d.head.name) d) ∙ database_of-name n own_rows d is)
        ∙ by (job_named filing n).skip refl
      where
        by : (skip : Option Skip) → (job_named filing n).skip ≡ skip → rows_by (merge_named behind n) (filed_rows filing d) ≡ filed_rows filing d
        by (Some skip) un = ap (λ (m : Option MergeValue). rows_by m (filed_rows filing d)) (merge_none behind n (behind_job n ∙ un))
        by None kept = kept_rows n kept d (some_same (sym (both n kept).rows_there ∙ is))

    -- no row changes any more
    no_change : (n : List ℕ) → change_by (merge_named behind n) (database_of n (shelves_of behind).rows) ≡ false
    no_change n = by (job_named filing n).skip refl
      where
        by : (skip : Option Skip) → (job_named filing n).skip ≡ skip → change_by (merge_named behind n) (database_of n (shelves_of behind).rows) ≡ false
        by (Some skip) un =
            ap (λ (m : Option MergeValue). change_by m (database_of n (shelves_of behind).rows)) (merge_none behind n (behind_job n ∙ un))
        by None kept =
            ap (change_by (merge_named behind n)) (found_filed n kept)
            ∙ still_by (block n kept) (both n kept).rows (own_still n kept) (merge_named behind n) (second_merge n kept)

    base_again : (d : DatabaseValue) → filed_base behind (filed_base filing d) ≡ filed_base filing d
    base_again d =
        base-quiet (merge_named behind (filed_base filing d).head.name) (database_of (filed_base filing d).head.name (shelves_of behind).rows)
        (no_change (filed_base filing d).head.name) (filed_base filing d)

    archive_again : (d : DatabaseValue) → filed_archive behind (filed_archive filing d) ≡ filed_archive filing d
    archive_again d = ap (λ b. archive_by b (filed_archive filing d)) (no_change (filed_archive filing d).head.name)

    rows_again_all : NamesRise own_rows → map (filed_rows behind) (map (filed_rows filing) own_rows) ≡ map (filed_rows filing) own_rows
    rows_again_all rise =
        let first : List DatabaseValue = map (filed_rows filing) own_rows in
        let first_rise = NamesRise-map rows_keep own_rows rise in
        database_of-same (map (filed_rows behind) first) first (NamesRise-map behind_rows_keep first first_rise) first_rise (λ n.
        database_of-map behind_rows_keep n first ∙ ap (option_map (filed_rows behind)) (database_of-map rows_keep n own_rows)
        ∙ by n (database_of n own_rows) refl ∙ sym (database_of-map rows_keep n own_rows))
      where
        by : (n : List ℕ) (o : Option DatabaseValue) → database_of n own_rows ≡ o
            → option_map (filed_rows behind) (option_map (filed_rows filing) o) ≡ option_map (filed_rows filing) o
        by n None is = refl
        by n (Some d) is = ap (λ (x : DatabaseValue). Some x) (rows_same n d is)

    shelves_again : NamesRise own_rows → filed_shelves behind ≡ filed_shelves filing
    unfolding filed_shelves
    shelves_again rise = λ k. record {
      rows = (ap (map (filed_rows behind)) rows_are ∙ rows_again_all rise) k;
      bases = (ap (map (filed_base behind)) bases_are
          ∙ map-map (filed_base behind) (filed_base filing) (shelves_of filing).bases
          ∙ map-same (λ (d : DatabaseValue). filed_base behind (filed_base filing d)) (filed_base filing) (shelves_of filing).bases base_again) k;
      archives = (ap (map (filed_archive behind)) archives_are
          ∙ map-map (filed_archive behind) (filed_archive filing) (shelves_of filing).archives
          ∙ map-same (λ (d : DatabaseValue). filed_archive behind (filed_archive filing d)) (filed_archive filing) (shelves_of filing).archives archive_again) k;
    }

    pub slots_again : NamesRise own_rows → filed_slots behind ≡ filed_slots filing
    unfolding filed_slots
    slots_again rise =
        (λ k. slice_set (filed_slots filing) filing.picked (record { marks = (behind_slot k).marks; parted = (behind_slot k).parted; shelves = shelves_again rise k }))
        ∙ set-set filing.slots filing.picked (record { marks = (slot_of filing).marks; parted = (slot_of filing).parted; shelves = filed_shelves filing })
        (record { marks = (slot_of filing).marks; parted = (slot_of filing).parted; shelves = filed_shelves filing })

    -- ---- what is said and committed

    none_filed : (n : List ℕ) → change_filed (shelves_of behind) n (merge_named behind n) ≡ []
    unfolding change_filed
    none_filed n =
        none_for (merge_named behind n) (database_of n (shelves_of behind).rows) (database_of n (shelves_of behind).bases)
        (database_of n (shelves_of behind).archives) (no_change n)

    none_changes : (ns : List (List ℕ)) → flat_map (λ name. change_filed (shelves_of behind) name (merge_named behind name)) ns ≡ []
    none_changes [] = refl
    none_changes (n ∷ ns) =
        ap (λ (cs : List DbChange). cs ++ flat_map (λ name. change_filed (shelves_of behind) name (merge_named behind name)) ns) (none_filed n)
        ∙ none_changes ns

    pub changes_none : filing_changes behind ≡ []
    unfolding filing_changes
    changes_none = none_changes (names behind)

    -- ---- the handheld once more

    pub device_again : NamesRise filing.device.databases → filed_device behind ≡ filed_device filing
    unfolding filed_device
    device_again rise =
        let first : List DatabaseValue = map (filed_database filing) filing.device.databases in
        let first_rise = NamesRise-map filed_keeps filing.device.databases rise in
        let databases : map (filed_database behind) first ≡ first =
        database_of-same (map (filed_database behind) first) first (NamesRise-map behind_keeps first first_rise) first_rise (λ n.
        database_of-map behind_keeps n first ∙ ap (option_map (filed_database behind)) (database_of-map filed_keeps n filing.device.databases)
        ∙ by n (database_of n filing.device.databases) refl ∙ sym (database_of-map filed_keeps n filing.device.databases)) in
        λ k. record filing.device {
          databases = databases k;
          user = marked_user (changes_none k) (marked_user (filing_changes filing) filing.device.user);
        }
      where
        by : (n : List ℕ) (o : Option DatabaseValue) → database_of n filing.device.databases ≡ o
            → option_map (filed_database behind) (option_map (filed_database filing) o) ≡ option_map (filed_database filing) o
        by n None is = refl
        by n (Some d) is = ap (λ (x : DatabaseValue). Some x) (database_again n d is)

    written_none : (n : List ℕ) (kept : (job_named behind n).skip ≡ None) → own_written behind n kept ≡ None
    written_none n kept =
        let first : (job_named filing n).skip ≡ None = sym (behind_job n) ∙ kept in
        let same : (whole behind n kept).handheld ≡ filed_database filing (both n first).handheld =
        some_same (sym (whole behind n kept).there ∙ found_both n first) in
        ap (λ (d : DatabaseValue). written_block d.app (merge_named behind n)) same
        ∙ ap (λ (app : Option (List ℕ)). written_block app (merge_named behind n)) (block_is n first)
        ∙ ap (written_block (one.filed_block (block n first) (both n first).rows)) (second_merge n first) ∙ (own_still n first).block

    job_quiet : (n : List ℕ) → write_count (job_acts behind (job_named behind n)) ≡ 0
    job_quiet n = by (job_named behind n).skip refl
      where
        by : (skip : Option Skip) → (job_named behind n).skip ≡ skip → write_count (job_acts behind (job_named behind n)) ≡ 0
        by (Some skip) is = ap write_count (acts_none behind n is)
        by None kept =
            ap write_count (acts_are behind n kept) ∙ count-is (acts_with n (own_written behind n kept))
            ∙ ap (λ (b : Option (List ℕ)). count_of (acts_with n b)) (written_none n kept)

    jobs_quiet : (ns : List (List ℕ)) → write_count (flat_map (job_acts behind) (jobs_named behind ns)) ≡ 0
    jobs_quiet [] = refl
    jobs_quiet (n ∷ ns) =
        count-append (job_acts behind (job_named behind n)) (flat_map (job_acts behind) (jobs_named behind ns))
        ∙ (let one_none = job_quiet n in let rest_none = jobs_quiet ns in
        let same : write_count (job_acts behind (job_named behind n)) + write_count (flat_map (job_acts behind) (jobs_named behind ns)) ≡ 0 =
        omega (arith, one_none, rest_none) in same)

    mark_none : mark_acts behind ≡ []
    unfolding mark_acts
    mark_none = ap (λ (cs : List DbChange). marks_for cs (filed_device filing).user) changes_none ∙ marks-none (filed_device filing).user

    pub writes_none : block_writes behind ≡ 0
    unfolding before_end before_mark jobs
    writes_none =
        let both = count-append (before_mark behind) (mark_acts behind) in
        let last = ap write_count mark_none in
        let lists : List Act = listings (max 1 (length behind.device.databases)) in
        let files : List Act = flat_map (job_acts behind) (jobs_named behind (names behind)) in
        let first = count-append greeting (lists ++ files) in
        let second = count-append lists files in
        let one_none = count-is greeting in
        let two_none = listings_quiet (max 1 (length behind.device.databases)) in
        let three_none = jobs_quiet (names behind) in
        omega (arith, both, last, first, second, one_none, two_none, three_none)
