-- Once as many blocks were written as a session writes, each database has its merged table, also those whose blocks stay as they are.
use Rattle.std.proofs.lemmas.Grind.{flat_map-append}
use Rattle.std.proofs.lemmas.List.{map-append, take-append-drop, take-map}
use Rattle.std.proofs.lemmas.List.Folds.{list_any-append}
use Rattle.std.proofs.Common.{◌≡◌, ◌∙◌, ◌+◌, ap, arith, refl, subst, sym, ℕ, Bool, true, false, cond, List, [], ◌∷◌, ◌++◌, ◌||◌, drop, length, map, take}
use Rattle.std.specs.Prelude.{Option, None, Some, flat_map, max}
use Rattle.std.specs.Option.{option_map}
use Rattle.std.specs.Str.{bytes_eq}
use Rattle.pdb_values.specs.Databases.{DatabaseValue}
use Rattle.pdb_values.specs.NamedDatabases.{database_of}
use Rattle.pdb_values.proofs.NamedLaws.{bytes_eq-is, database_of-name}
use Rattle.desktop_session.specs.Acts.{Act}
use Rattle.desktop_session.specs.Lists.{listings}
use Rattle.session_parts.specs.Meets.{greeting}
use Rattle.session_parts.specs.Rests.{IsAtRest}
use Rattle.session_parts.specs.declared.skip.Skip.{Skip}
use Rattle.category_mirror.specs.declared.job.FilingJob.{FilingJob}
use Rattle.category_mirror.specs.Blocks.{written_block}
use Rattle.category_mirror.specs.Sides.{Filing, before_end, before_mark, block_writes, device_among, filed_database, filed_device, filed_where, filing_changes, is_among, job_acts, job_named, jobs, mark_acts, merge_named, names, write_count}
use Rattle.category_mirror.proofs.AlongLaws.{count-append, count-is, count_of}
use Rattle.category_mirror.proofs.DoneLaws.{filed_keeps, handheld-among}
use Rattle.category_mirror.proofs.EvolveLaws.{acts_are, filed_none, jobs_named, own_named, whole}
use Rattle.category_mirror.proofs.MarkLaws.{quiet_same}
use Rattle.category_mirror.proofs.NamedMaps.{KeepsNames, NamesRise-map, database_of-map, map-is}
use Rattle.category_mirror.proofs.OneLaws.{acts_with, written_into}
use Rattle.category_mirror.proofs.WrittenLaws.{written_is}
use Rattle.category_mirror.proofs.RepeatLaws.{some_same}

module _ (filing : Filing) where
  abbrev held : List DatabaseValue
  held = filing.device.databases

  abbrev acts_for : List (List ℕ) → List Act
  acts_for some = flat_map (job_acts filing) (jobs_named filing some)

  abbrev acts_of : List ℕ → List Act
  acts_of n = job_acts filing (job_named filing n)

  -- ---- names of which nothing is written

  quiet_each : (n : List ℕ) (later : List (List ℕ)) → write_count (acts_for later) ≡ 0 → is_among n later ≡ true → write_count (acts_of n) ≡ 0
  quiet_each n [] none among = absurd cc
  quiet_each n (m ∷ later) none among = by (bytes_eq m n) refl among (quiet_each n later)
    where
      both : write_count (acts_for (m ∷ later)) ≡ write_count (acts_of m) + write_count (acts_for later)
      both = count-append (acts_of m) (acts_for later)

      by : (b : Bool) → bytes_eq m n ≡ b → (b || is_among n later) ≡ true
          → (write_count (acts_for later) ≡ 0 → is_among n later ≡ true → write_count (acts_of n) ≡ 0) → write_count (acts_of n) ≡ 0
      by true same among rest =
          let first : write_count (acts_of m) ≡ 0 = omega (arith, both, none) in
          ap (λ name. write_count (acts_of name)) (sym (bytes_eq-is m n same)) ∙ first
      by false differ among rest = rest (omega (arith, both, none)) among

  module _ (n : List ℕ) (kept : (job_named filing n).skip ≡ None) (none : write_count (acts_of n) ≡ 0) where
    abbrev own : DatabaseValue
    own = (whole filing n kept).handheld

    abbrev block_by : List ℕ → Option (List ℕ)
    block_by name = written_block own.app (merge_named filing name)

    count : count_of (acts_with n (block_by n)) ≡ 0
    count = sym (count-is (acts_with n (block_by n))) ∙ ap write_count (sym (acts_are filing n kept)) ∙ none

    unwritten : (block : Option (List ℕ)) → count_of (acts_with n block) ≡ 0 → block ≡ None
    unwritten None none = refl
    unwritten (Some bytes) none = absurd (omega (arith, none))

    own_stays : filed_database filing own ≡ own
    own_stays =
        sym (written_is own (merge_named filing own.head.name)) ∙ ap (λ (name : List ℕ). written_into own (block_by name)) (own_named filing n kept)
        ∙ ap (written_into own) (unwritten (block_by n) count)

  -- a database of which nothing is written is as the session leaves it
  stays : (n : List ℕ) (d : DatabaseValue) → database_of n held ≡ Some d → write_count (acts_of n) ≡ 0 → filed_database filing d ≡ d
  stays n d there none = by (job_named filing n).skip refl
    where
      by : (skip : Option Skip) → (job_named filing n).skip ≡ skip → filed_database filing d ≡ d
      by (Some skip) is = filed_none filing n d is (database_of-name n held d there)
      by None kept =
          subst (λ (x : DatabaseValue). filed_database filing x ≡ x) (some_same (sym (whole filing n kept).there ∙ there)) (own_stays n kept none)

  -- ---- all of them

  module _ (rests : IsAtRest filing.device) (count : ℕ)
      (written : block_writes filing ≡ write_count (flat_map (job_acts filing) (take count (jobs filing)))) where
    abbrev done : List (List ℕ)
    done = take count (names filing)

    abbrev later : List (List ℕ)
    later = drop count (names filing)

    parts : done ++ later ≡ names filing
    parts = take-append-drop count (names filing)

    parts_written : write_count (acts_for (names filing)) ≡ write_count (acts_for done) + write_count (acts_for later)
    parts_written =
        ap (λ (ns : List (List ℕ)). write_count (acts_for ns)) (sym parts)
        ∙ ap (λ (js : List FilingJob). write_count (flat_map (job_acts filing) js)) (map-append (job_named filing) done later)
        ∙ ap write_count (flat_map-append (job_acts filing) (jobs_named filing done) (jobs_named filing later))
        ∙ count-append (acts_for done) (acts_for later)

    done_written : block_writes filing ≡ write_count (acts_for done)
    unfolding jobs
    done_written =
        written ∙ ap (λ (js : List FilingJob). write_count (flat_map (job_acts filing) js)) (take-map (job_named filing) count (names filing))

    both_quiet : (write_count (acts_for later) ≡ 0) × (write_count (mark_acts filing) ≡ 0)
    unfolding before_end before_mark jobs
    both_quiet =
        let lists : List Act = listings (max 1 (length held)) in
        let files : List Act = acts_for (names filing) in
        let all = count-append (greeting ++ (lists ++ files)) (mark_acts filing) in
        let first = count-append greeting (lists ++ files) in
        let second = count-append lists files in
        (omega (arith, all, first, second, parts_written, done_written), omega (arith, all, first, second, parts_written, done_written))

    later_quiet : write_count (acts_for later) ≡ 0
    later_quiet = both_quiet.0

    -- and no mark is written
    pub user_all : filing.device.user ≡ (filed_device filing).user
    unfolding filed_device mark_acts
    user_all = sym (quiet_same (filing_changes filing) filing.device.user both_quiet.1)

    among_parts : (n : List ℕ) → is_among n (names filing) ≡ true → is_among n done ≡ false → is_among n later ≡ true
    among_parts n among free =
        let both = list_any-append (λ other. bytes_eq other n) done later in
        ap (λ b. b || is_among n later) (sym free) ∙ sym both ∙ ap (is_among n) parts ∙ among

    where_keeps : KeepsNames (filed_where filing done)
    where_keeps = record { at = λ d. by (is_among d.head.name done) d }
      where
        by : (b : Bool) (d : DatabaseValue) → (cond b (filed_database filing d) d).head.name ≡ d.head.name
        by true d = refl
        by false d = refl

    each : (d : DatabaseValue) (n : List ℕ) → database_of n held ≡ Some d → filed_where filing done d ≡ filed_database filing d
    each d n there = by (is_among d.head.name done) refl
      where
        named : d.head.name ≡ n
        named = database_of-name n held d there

        by : (b : Bool) → is_among d.head.name done ≡ b → cond b (filed_database filing d) d ≡ filed_database filing d
        by true among = refl
        by false free =
            sym (stays n d there (quiet_each n later later_quiet
            (among_parts n (handheld-among filing n d there) (ap (λ name. is_among name done) (sym named) ∙ free))))

    pub written_all : (device_among filing done).databases ≡ (filed_device filing).databases
    unfolding device_among filed_device
    written_all =
        map-is (filed_keeps filing) held (map (filed_where filing done) held) rests.proper.sound.names
        (NamesRise-map where_keeps held rests.proper.sound.names)
        (λ name o is. database_of-map where_keeps name held ∙ ap (option_map (filed_where filing done)) is ∙ by name o is)
      where
        by : (name : List ℕ) (o : Option DatabaseValue) → database_of name held ≡ o
            → option_map (filed_where filing done) o ≡ option_map (filed_database filing) o
        by name None is = refl
        by name (Some d) is = ap (λ (x : DatabaseValue). Some x) (each d name is)
