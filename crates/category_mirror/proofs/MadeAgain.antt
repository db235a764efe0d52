-- A merge that is made again, and a filing that stopped in front of its commit.
use Rattle.std.proofs.lemmas.Simd.{map-map}
use Rattle.std.proofs.Common.{inl, inr, ◌⊎◌, ◌≡◌, ◌∙◌, ap, refl, sym, ℕ, Bool, true, false, cond, List, [], ◌∷◌, map}
use Rattle.std.specs.Prelude.{Option, Some, None, flat_map, not, option_and_then, slice_set}
use Rattle.std.specs.Option.{option_map}
use Rattle.pdb_values.specs.Databases.{DatabaseValue}
use Rattle.pdb_values.specs.NamedDatabases.{database_of}
use Rattle.pdb_values.specs.declared.head.DbHead.{DbHead}
use Rattle.pdb_values.proofs.NamedLaws.{database_of-name}
use Rattle.pdb_values.specs.declared.slot.Slot.TheVariants as slot
use Rattle.pdb_values.specs.declared.user.UserInfo.{UserInfo}
use Rattle.desk_store.specs.declared.change.DbChange.{DbChange}
use Rattle.session_parts.specs.declared.skip.Skip.{Skip}
use Rattle.session_plan.specs.Jobs.{names_with}
use Rattle.category_mirror.specs.declared.job.FilingJob.{FilingJob}
use Rattle.category_mirror.specs.Blocks.{MergeValue, block_table, blocks_merge, rest_for}
use Rattle.category_mirror.specs.Changes.{change_filed}
use Rattle.category_mirror.specs.FilingActs.{marked_user, rows_app}
use Rattle.category_mirror.specs.Filings as one
use Rattle.category_mirror.specs.Filings.{block_by, rows_by}
use Rattle.category_mirror.specs.Jobs.{filing_job}
use Rattle.category_mirror.specs.Sides.{Filing, app_named, archive_by, base_by, change_by, device_among, filed_database, filed_device, filed_shelves, filed_slots, filed_where, filing_changes, heads_of, is_among, job_named, merge_named, merge_of, merge_unless, names, shelves_of, slot_of, with_merge}
use Rattle.category_mirror.proofs.AgainLaws.{ComeTogether, behind_own, made, merge_of_both, merged_same, together}
use Rattle.category_mirror.proofs.EvolveLaws.{merge_none, whole}
use Rattle.category_mirror.proofs.NamedMaps.{KeepsNames, database_of-map}

-- ---- a merge that is made again

-- where the handheld has the merged block, both come together as before
merges_again : (block rows : Option (List ℕ)) → blocks_merge (block_by block (blocks_merge block rows)) rows ≡ blocks_merge block rows
merges_again block rows = elim (together block rows) [
  | inl none ↦ ap (λ (m : Option MergeValue). blocks_merge (block_by block m) rows) none
  | inr both ↦ ap (λ (m : Option MergeValue). blocks_merge (block_by block m) rows) both.merge ∙ behind_own block rows both ∙ sym both.merge
]

-- the merged table is put at the head of a block once
block_twice : (block other rows : Option (List ℕ)) (merge : Option MergeValue) → merge ≡ blocks_merge other rows
    → block_by (block_by block merge) merge ≡ block_by block merge
block_twice block other rows merge is = by (together other rows)
  where
    twice : (m : Option MergeValue) → merge ≡ m → block_by (block_by block m) m ≡ block_by block m → block_by (block_by block merge) merge ≡ block_by block merge
    twice m same once = ap (λ (m : Option MergeValue). block_by (block_by block m) m) same ∙ once ∙ sym (ap (block_by block) same)

    by : (blocks_merge other rows ≡ None) ⊎ ComeTogether other rows → block_by (block_by block merge) merge ≡ block_by block merge
    by (inl none) = twice None (is ∙ none) refl
    by (inr both) =
        twice (Some (merge_of_both both)) (is ∙ both.merge)
        (ap (λ (b : List ℕ). Some b) (merged_same both.own both.other both.own_is both.other_is (rest_for (merge_of_both both) block)))

pub map-same : {A B : Type 0} (f g : A → B) (xs : List A) → ((x : A) → f x ≡ g x) → map f xs ≡ map g xs
map-same f g xs each = λ k. map (λ x. each x k) xs

pub heads-map : (f : DatabaseValue → DatabaseValue) (xs : List DatabaseValue) → ((d : DatabaseValue) → (f d).head ≡ d.head) → heads_of (map f xs) ≡ heads_of xs
heads-map f [] keeps = refl
heads-map f (x ∷ xs) keeps = λ k. (record (keeps x k) { seed = 0 }) ∷ heads-map f xs keeps k

-- how the categories of a database come together that is not skipped
pub merge_kept : (filing : Filing) (n : List ℕ) → (job_named filing n).skip ≡ None
    → merge_named filing n ≡ blocks_merge (app_named n filing.device.databases) (rows_app (shelves_of filing) n)
unfolding merge_of
merge_kept filing n kept =
    ap (λ (s : Option Skip). merge_unless s (blocks_merge (app_named n filing.device.databases) (rows_app (shelves_of filing) n))) kept

-- a merge is none, or that of two blocks
merge_from : (filing : Filing) (n : List ℕ) → (block : Option (List ℕ)) × (rows : Option (List ℕ)) × (merge_named filing n ≡ blocks_merge block rows)
unfolding blocks_merge block_table
merge_from filing n = by (job_named filing n).skip refl
  where
    by : (skip : Option Skip) → (job_named filing n).skip ≡ skip
        → (block : Option (List ℕ)) × (rows : Option (List ℕ)) × (merge_named filing n ≡ blocks_merge block rows)
    by None kept = (app_named n filing.device.databases, rows_app (shelves_of filing) n, merge_kept filing n kept)
    by (Some skip) is = (None, None, merge_none filing n is)

-- ---- before the commit: some of the databases have their merged tables

module _ (filing : Filing) (done : List (List ℕ)) (user : UserInfo) where
  abbrev held : List DatabaseValue
  held = filing.device.databases

  abbrev pub next : Filing
  next = record { device = record (device_among filing done) { user = user }; slots = filing.slots; picked = filing.picked }

  where_head : (d : DatabaseValue) → (filed_where filing done d).head ≡ d.head
  where_head d = by (is_among d.head.name done)
    where
      by : (b : Bool) → (cond b (filed_database filing d) d).head ≡ d.head
      by true = refl
      by false = refl

  next_heads : heads_of next.device.databases ≡ heads_of held
  unfolding device_among
  next_heads = heads-map (filed_where filing done) held where_head

  next_job : (n : List ℕ) → job_named next n ≡ job_named filing n
  next_job n = ap (λ (heads : List DbHead). filing_job heads (shelves_of filing) n) next_heads

  where_keeps : KeepsNames (filed_where filing done)
  where_keeps = record { at = λ d. ap (λ (h : DbHead). h.name) (where_head d) }

  next_app : (n : List ℕ) → (o : Option DatabaseValue) → database_of n held ≡ o
      → app_named n next.device.databases ≡ option_and_then (λ (d : DatabaseValue). d.app) (option_map (filed_where filing done) o)
  unfolding device_among
  next_app n o is =
      ap (λ (found : Option DatabaseValue). option_and_then (λ (d : DatabaseValue). d.app) found)
      (database_of-map where_keeps n held ∙ ap (option_map (filed_where filing done)) is)

  next_merge : (n : List ℕ) → merge_named next n ≡ merge_named filing n
  next_merge n = by (job_named filing n).skip refl
    where
      by : (skip : Option Skip) → (job_named filing n).skip ≡ skip → merge_named next n ≡ merge_named filing n
      by (Some skip) is =
          merge_none next n (ap (λ (j : FilingJob). j.skip) (next_job n) ∙ is) ∙ sym (merge_none filing n is)
      by None kept =
          let own = whole filing n kept in
          let rows : Option (List ℕ) = rows_app (shelves_of filing) n in
          let named : own.handheld.head.name ≡ n = database_of-name n held own.handheld own.there in
          let here : app_named n held ≡ own.handheld.app = ap (λ (o : Option DatabaseValue). option_and_then (λ (d : DatabaseValue). d.app) o) own.there in
          let merge : merge_named filing n ≡ blocks_merge own.handheld.app rows = merge_kept filing n kept ∙ ap (λ app. blocks_merge app rows) here in
          merge_kept next n (ap (λ (j : FilingJob). j.skip) (next_job n) ∙ kept)
          ∙ ap (λ app. blocks_merge app rows) (next_app n (Some own.handheld) own.there)
          ∙ chosen own.handheld rows merge named (is_among own.handheld.head.name done) ∙ sym merge
        where
          chosen : (d : DatabaseValue) (rows : Option (List ℕ)) → merge_named filing n ≡ blocks_merge d.app rows → d.head.name ≡ n → (b : Bool)
              → blocks_merge (cond b (filed_database filing d) d).app rows ≡ blocks_merge d.app rows
          chosen d rows merge named false = refl
          chosen d rows merge named true =
              ap (λ (m : Option MergeValue). blocks_merge (block_by d.app m) rows) (ap (λ name. merge_named filing name) named ∙ merge)
              ∙ merges_again d.app rows

  next_database : (d : DatabaseValue) → filed_database next (filed_where filing done d) ≡ filed_database filing d
  next_database d =
      ap (λ name. with_merge (merge_named next name) (filed_where filing done d)) (ap (λ (h : DbHead). h.name) (where_head d))
      ∙ ap (λ (m : Option MergeValue). with_merge m (filed_where filing done d)) (next_merge d.head.name)
      ∙ by (is_among d.head.name done)
    where
      by : (b : Bool) → with_merge (merge_named filing d.head.name) (cond b (filed_database filing d) d) ≡ filed_database filing d
      by false = refl
      by true =
          let from = merge_from filing d.head.name in
          λ k. record d { app = block_twice d.app from.0 from.1 (merge_named filing d.head.name) from.2 k }

  next_changes : filing_changes next ≡ filing_changes filing
  unfolding filing_changes
  next_changes =
      ap (λ (heads : List DbHead). flat_map (λ name. change_filed (shelves_of filing) name (merge_named next name)) (names_with heads (shelves_of filing))) next_heads
      ∙ (λ k. flat_map (λ name. change_filed (shelves_of filing) name (next_merge name k)) (names filing))

  -- it knows no desktop once more where it was to know none
  pub next_device : marked_user (filing_changes filing) user ≡ marked_user (filing_changes filing) filing.device.user → filed_device next ≡ filed_device filing
  unfolding filed_device device_among
  next_device stays = λ k. record filing.device {
    databases = (map-map (filed_database next) (filed_where filing done) held
        ∙ map-same (λ d. filed_database next (filed_where filing done d)) (filed_database filing) held next_database) k;
    user = (ap (λ (cs : List DbChange). marked_user cs user) next_changes ∙ stays) k;
  }

  pub next_slots : filed_slots next ≡ filed_slots filing
  unfolding filed_slots filed_shelves
  next_slots = λ k. slice_set filing.slots filing.picked (record {
    marks = (slot_of filing).marks;
    parted = (slot_of filing).parted;
    shelves = record {
      rows = map (λ (rows : DatabaseValue). rows_by (next_merge rows.head.name k) rows) (shelves_of filing).rows;
      bases = map (λ (base : DatabaseValue). base_by (next_merge base.head.name k) (database_of base.head.name (shelves_of filing).rows) base)
          (shelves_of filing).bases;
      archives = map (λ (archive : DatabaseValue). archive_by (change_by (next_merge archive.head.name k)
          (database_of archive.head.name (shelves_of filing).rows)) archive) (shelves_of filing).archives;
    };
  })
