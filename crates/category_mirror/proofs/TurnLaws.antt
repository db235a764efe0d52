-- Where a handheld stands behind some of a session's requests.
use Rattle.std.proofs.lemmas.Grind.{flat_map-append}
use Rattle.std.proofs.lemmas.List.{map-append}
use Rattle.std.proofs.Math.Seq.{take-append_seam}
use Rattle.std.proofs.Common.{arith, inl, inr, ◌⊎◌, ◌≡◌, ◌∙◌, ◌+◌, ◌≤◌, ap, append_assoc, append-nil, refl, sym, subst, ℕ, zero, suc, Bool, true, false, List, [], ◌∷◌, ◌++◌, length, map, take}
use Rattle.std.specs.Prelude.{Option, Some, None, filter, flat_map}
use Rattle.dlp_commands.specs.Changes.{changes}
use Rattle.std.proofs.lemmas.List.{take-map, take_all}
use Rattle.std.specs.List.{AllByRecursion}
use Rattle.pdb_values.specs.Databases.{DatabaseValue}
use Rattle.pdb_values.specs.Heads.{is_read_only}
use Rattle.pdb_values.specs.NamedDatabases.{database_of}
use Rattle.palm_device.specs.Devices.{Device}
use Rattle.dlp_commands.specs.DeviceSteps.{tried}
use Rattle.category_mirror.specs.declared.job.FilingJob.{FilingJob}
use Rattle.desktop_session.specs.Acts.{Act, acted, text}
use Rattle.desktop_session.specs.Lists.{listings}
use Rattle.desktop_session.specs.Requests.{closing, ending, listing, opening, reading_app, writing_app}
use Rattle.desktop_session.specs.Tellings.{device_after}
use Rattle.session_parts.specs.Fronts.{Front}
use Rattle.session_parts.specs.Meets.{greeting}
use Rattle.session_parts.specs.Rests.{IsAtRest}
use Rattle.session_parts.specs.declared.skip.Skip.{Skip}
use Rattle.session_parts.proofs.RestLaws.{closes_does, greeting_same, listing_same}
use Rattle.session_plan.specs.Fits.{Rise}
use Rattle.category_mirror.specs.Sides.{Filing, StandsBehind, before_end, before_mark, block_writes, device_among, filed_device, filing_acts, filing_changes, is_among, job_acts, job_named, jobs, mark_acts, names, write_count}
use Rattle.category_mirror.proofs.AlongLaws.{Along, IsStill, all_plain, along_last, along_map, is_write, stepped, still_along, still_count, along_on, along_take, along_then, count-append, count-is, count_of, run_is, take-texts}
use Rattle.category_mirror.proofs.DoneLaws.{among_all, among_are, before_goes, before_mark_goes, blocks_device, end_goes, filed_closed, list_count, mark_goes, names_rise, session_goes}
use Rattle.category_mirror.proofs.EvolveLaws.{AreFree, IsBehind, acts_are, acts_none, behind_next, behind_none, free_next, free_none, jobs_named, own_there, own_written, turn, whole}
use Rattle.category_mirror.proofs.MarkLaws.{marks-few}
use Rattle.category_mirror.proofs.OneLaws.{acts_with, changed, closed_same, opens, read_same, wrote}
use Rattle.desktop_session.proofs.ListLaws.{listings_same}
use Rattle.desk_journal.proofs.StepLaws.{all-append}

module _ (filing : Filing) (rests : IsAtRest filing.device) where
  -- some of the databases are done, as many blocks were written, and the others are as they were
  pub record Passed (writes : ℕ) (device : Device) : Type 0 where
    pub first : List (List ℕ)
    pub rest : List (List ℕ)
    pub parts : first ++ rest ≡ names filing
    pub databases : device.databases ≡ (device_among filing first).databases
    pub user : device.user ≡ filing.device.user
    pub written : writes ≡ write_count (flat_map (job_acts filing) (jobs_named filing first))

  passed_same : {writes : ℕ} {one other : Device} → other.databases ≡ one.databases → other.user ≡ one.user → Passed writes one → Passed writes other
  passed_same databases user passed = record {
    first = passed.first;
    rest = passed.rest;
    parts = passed.parts;
    databases = databases ∙ passed.databases;
    user = user ∙ passed.user;
    written = passed.written;
  }

  passed_at : (done later : List (List ℕ)) (device : Device) (writes : ℕ) → done ++ later ≡ names filing → IsBehind filing done device
      → writes ≡ write_count (flat_map (job_acts filing) (jobs_named filing done)) → Passed writes device
  passed_at done later device writes parts behind written = record {
    first = done;
    rest = later;
    parts = parts;
    databases = among_are filing rests done device behind;
    user = behind.user;
    written = written;
  }

  abbrev acts_for : List (List ℕ) → List Act
  acts_for done = flat_map (job_acts filing) (jobs_named filing done)

  acts_more : (done : List (List ℕ)) (n : List ℕ) → acts_for done ++ job_acts filing (job_named filing n) ≡ acts_for (done ++ n ∷ [])
  acts_more done n =
      ap (λ (acts : List Act). acts_for done ++ acts) (sym (append-nil (job_acts filing (job_named filing n))))
      ∙ sym (flat_map-append (job_acts filing) (jobs_named filing done) (jobs_named filing (n ∷ [])))
      ∙ ap (flat_map (job_acts filing)) (sym (map-append (job_named filing) done (n ∷ [])))

  more_written : (done : List (List ℕ)) (n : List ℕ) (writes : ℕ) → writes ≡ write_count (acts_for done)
      → writes + count_of (job_acts filing (job_named filing n)) ≡ write_count (acts_for (done ++ n ∷ []))
  more_written done n writes is =
      ap (λ k. k + count_of (job_acts filing (job_named filing n))) is
      ∙ ap (λ k. write_count (acts_for done) + k) (sym (count-is (job_acts filing (job_named filing n))))
      ∙ sym (count-append (acts_for done) (job_acts filing (job_named filing n)))
      ∙ ap write_count (acts_more done n)

  -- ---- one database

  module _ (done later : List (List ℕ)) (n : List ℕ) (device : Device) (writes : ℕ) (parts : done ++ n ∷ later ≡ names filing)
      (behind : IsBehind filing done device) (written : writes ≡ write_count (acts_for done)) where
    here : Passed writes device
    here = passed_at done (n ∷ later) device writes parts behind written

    module _ (kept : (job_named filing n).skip ≡ None) (free : is_among n done ≡ false) where
      abbrev own : DatabaseValue
      own = (whole filing n kept).handheld

      own_here : database_of n device.databases ≡ Some own
      own_here = own_there filing n kept done device behind free

      may : is_read_only own.head.attributes ≡ false
      may = (whole filing n kept).writable

      block_along : (block : Option (List ℕ)) → own_written filing n kept ≡ block → Along Passed writes (acts_with n block) device
      block_along None is =
          along_on Passed writes (opening n) (reading_app 1 ∷ closing 1 ∷ []) here (opens device behind.rests n own own_here may)
          (along_on Passed writes (reading_app 1) (closing 1 ∷ []) (passed_same refl refl here) (read_same device behind.rests n own own_here may)
          (along_on Passed writes (closing 1) [] (passed_same refl refl here) (closes_does device n 0xD0 0 behind.rests.closed) here))
      block_along (Some bytes) is =
          let count : count_of (job_acts filing (job_named filing n)) ≡ 1 =
          ap count_of (acts_are filing n kept ∙ ap (acts_with n) is) in
          let more = more_written done n writes written in
          let after : Passed (writes + 1) (changed device behind.rests n own own_here may (Some bytes)) =
          subst (λ (b : Option (List ℕ)). Passed (writes + 1) (changed device behind.rests n own own_here may b)) is
          (passed_at (done ++ n ∷ []) later (changed device behind.rests n own own_here may (own_written filing n kept)) (writes + 1)
          (append_assoc done (n ∷ []) later ∙ parts) (behind_next filing n kept done device behind free)
          (ap (λ k. writes + k) (sym count) ∙ more)) in
          along_on Passed writes (opening n) (reading_app 1 ∷ writing_app 1 bytes ∷ closing 1 ∷ []) here (opens device behind.rests n own own_here may)
          (along_on Passed writes (reading_app 1) (writing_app 1 bytes ∷ closing 1 ∷ []) (passed_same refl refl here)
          (read_same device behind.rests n own own_here may)
          (along_on Passed writes (writing_app 1 bytes) (closing 1 ∷ []) (passed_same refl refl here) (wrote device behind.rests n own own_here may bytes)
          (along_on Passed (writes + 1) (closing 1) [] (passed_same refl refl after) (closed_same device behind.rests n own own_here may (Some bytes)) after)))

      kept_along : Along Passed writes (job_acts filing (job_named filing n)) device
      kept_along =
          subst (λ (acts : List Act). Along Passed writes acts device) (sym (acts_are filing n kept)) (block_along (own_written filing n kept) refl)

    job_along : is_among n done ≡ false → Along Passed writes (job_acts filing (job_named filing n)) device
    job_along free = by (job_named filing n).skip refl
      where
        by : (skip : Option Skip) → (job_named filing n).skip ≡ skip → Along Passed writes (job_acts filing (job_named filing n)) device
        by None kept = kept_along kept free
        by (Some skip) is = subst (λ (acts : List Act). Along Passed writes acts device) (sym (acts_none filing n is)) here

  -- ---- several

  jobs_along : (ns done : List (List ℕ)) (device : Device) (writes : ℕ) → done ++ ns ≡ names filing → IsBehind filing done device → Rise ns
      → AreFree done ns → writes ≡ write_count (acts_for done) → Along Passed writes (acts_for ns) device
  jobs_along [] done device writes parts behind rise free written = passed_at done [] device writes parts behind written
  jobs_along (n ∷ ns) done device writes parts behind rise free written =
      let now = turn filing n done device behind free.0 in
      along_then Passed writes (job_acts filing (job_named filing n)) (acts_for ns) device (job_along done ns n device writes parts behind written free.0)
      now.goes.after
      (jobs_along ns (done ++ n ∷ []) now.after (writes + count_of (job_acts filing (job_named filing n)))
      (append_assoc done (n ∷ []) ns ∙ parts) now.behind rise.1 (free_next done n ns rise.0 free.1) (more_written done n writes written))

  -- ---- the whole

  greeting_still : AllByRecursion (IsStill filing.device) greeting
  unfolding acted tried
  greeting_still = (record { quiet = refl; same = refl }, (record { quiet = refl; same = refl }, tt))

  listings_still : (count : ℕ) → AllByRecursion (IsStill filing.device) (listings count)
  unfolding listings
  listings_still zero = tt
  listings_still (suc count) =
      all-append (IsStill filing.device) (listings count) (listing count ∷ []) (listings_still count)
      (record { quiet = refl; same = listing_same filing.device count }, tt)

  abbrev listed : List Act
  listed = listings (list_count filing rests)

  first_passed : Passed 0 filing.device
  first_passed = passed_at [] (names filing) filing.device 0 refl (behind_none filing rests) refl

  before_along : Along Passed 0 (before_mark filing) filing.device
  unfolding before_mark jobs
  before_along =
      along_then Passed 0 greeting (listed ++ acts_for (names filing)) filing.device (still_along Passed 0 greeting filing.device greeting_still first_passed)
      (greeting_same filing.device)
      (along_then Passed 0 listed (acts_for (names filing)) filing.device
      (still_along Passed 0 listed filing.device (listings_still (list_count filing rests)) first_passed)
      (listings_same (list_count filing rests) filing.device)
      (subst (λ k. Along Passed (0 + k) (acts_for (names filing)) filing.device)
      (sym (still_count listed filing.device (listings_still (list_count filing rests))))
      (jobs_along (names filing) [] filing.device 0 refl (behind_none filing rests) (names_rise filing) (free_none (names filing)) refl)))

  -- behind its mark
  pub record Marked (writes : ℕ) (device : Device) : Type 0 where
    pub databases : device.databases ≡ (device_among filing (names filing)).databases
    pub user : device.user ≡ (filed_device filing).user
    pub written : writes ≡ block_writes filing

  abbrev pub Reached : ℕ → Device → Type 0
  Reached writes device = Passed writes device ⊎ Marked writes device

  -- ---- the mark

  abbrev blocks_count : ℕ
  blocks_count = 0 + count_of (before_mark filing)

  blocks_passed : Passed blocks_count (blocks_device filing rests)
  blocks_passed =
      subst (Passed blocks_count) (before_mark_goes filing rests).after (along_last Passed 0 (before_mark filing) filing.device before_along)

  -- one act, and what it leads to, where these are all writes then
  mark_counts : (one : Act) → mark_acts filing ≡ one ∷ [] → stepped (is_write one) blocks_count ≡ block_writes filing
  unfolding before_end
  mark_counts one is =
      let both = count-append (before_mark filing) (mark_acts filing) in
      let first = count-is (before_mark filing) in
      let last = ap write_count is ∙ count-is (one ∷ []) in
      by (is_write one) (sym (both ∙ ap (λ k. write_count (before_mark filing) + k) last ∙ ap (λ k. k + stepped (is_write one) 0) first))
    where
      by : (b : Bool) → count_of (before_mark filing) + stepped b 0 ≡ block_writes filing → stepped b blocks_count ≡ block_writes filing
      by true is = omega (arith, is)
      by false is = omega (arith, is)

  one_marked : (one : Act) → mark_acts filing ≡ one ∷ [] → (acted one (blocks_device filing rests)).1 ≡ filed_device filing
      → Marked (stepped (is_write one) blocks_count) (filed_device filing)
  unfolding filed_device
  one_marked one is does = record { databases = sym (among_all filing rests); user = refl; written = mark_counts one is }

  mark_along : (acts : List Act) → mark_acts filing ≡ acts → device_after acts (blocks_device filing rests) ≡ filed_device filing
      → length acts ≤ 1 → Along Reached blocks_count acts (blocks_device filing rests)
  mark_along [] is after few = inl blocks_passed
  mark_along (one ∷ []) is after few =
      along_on Reached blocks_count one [] (inl blocks_passed) after (inr (one_marked one is after))
  mark_along (one ∷ other ∷ more) is after few = absurd (omega arith)

  few_marks : length (mark_acts filing) ≤ 1
  unfolding mark_acts
  few_marks = marks-few (filing_changes filing) filing.device.user

  before_end_along : Along Reached 0 (before_end filing) filing.device
  unfolding before_end
  before_end_along =
      along_then Reached 0 (before_mark filing) (mark_acts filing) filing.device
      (along_map (λ writes device passed. inl passed) 0 (before_mark filing) filing.device before_along) (before_mark_goes filing rests).after
      (mark_along (mark_acts filing) refl (mark_goes filing rests).after few_marks)

  all_along : Along Reached 0 (filing_acts filing) filing.device
  unfolding filing_acts
  all_along =
      let goes = before_goes filing rests in
      let last = along_last Reached 0 (before_end filing) filing.device before_end_along in
      let here : Reached (0 + count_of (before_end filing)) (filed_device filing) =
      subst (Reached (0 + count_of (before_end filing))) goes.after last in
      along_then Reached 0 (before_end filing) (ending ∷ []) filing.device before_end_along goes.after
      (along_on Reached (0 + count_of (before_end filing)) ending [] here (end_goes (filed_device filing) (filed_closed filing rests)).after here)

  pub front_passed : (writes : ℕ) (given : List ℕ) (after : Device) → (front : Front filing.device (map text (filing_acts filing)) writes given after)
      → Reached writes front.reached
  front_passed writes given after front =
      let goes = session_goes filing rests in
      let reached : front.reached ≡ device_after (take front.count (filing_acts filing)) filing.device =
      run_is front.count (filing_acts filing) filing.device front.reached front.replies
      (all_plain (filing_acts filing) filing.device goes.sayable goes.fixed) front.run.same front.run.ran in
      let count : 0 + count_of (take front.count (filing_acts filing)) ≡ writes =
      (let same : 0 + count_of (take front.count (filing_acts filing)) ≡ count_of (take front.count (filing_acts filing)) = omega arith in same)
      ∙ sym (count-is (take front.count (filing_acts filing)))
      ∙ ap (λ (requests : List (List ℕ)). length (filter changes requests)) (sym (take-texts front.count (filing_acts filing))) ∙ front.holds in
      subst (λ (d : Device). Reached writes d) (sym reached)
      (subst (λ k. Reached k (device_after (take front.count (filing_acts filing)) filing.device)) count
      (along_take Reached front.count 0 (filing_acts filing) filing.device all_along))

  pub front_stands : (writes : ℕ) (given : List ℕ) (after : Device) → Front filing.device (map text (filing_acts filing)) writes given after
      → StandsBehind filing writes after
  unfolding jobs
  front_stands writes given after front = by (front_passed writes given after front)
    where
      passed_stands : Passed writes front.reached → StandsBehind filing writes after
      passed_stands passed =
          let taken : take (length passed.first) (names filing) ≡ passed.first =
          ap (take (length passed.first)) (sym passed.parts) ∙ take-append_seam passed.first passed.rest in
          record {
            count = length passed.first;
            databases = front.databases ∙ passed.databases ∙ ap (λ (ns : List (List ℕ)). (device_among filing ns).databases) (sym taken);
            stage = inl (record {
              user = front.user ∙ passed.user;
              written = passed.written
                  ∙ ap (λ (js : List FilingJob). write_count (flat_map (job_acts filing) js))
                  (ap (map (job_named filing)) (sym taken) ∙ sym (take-map (job_named filing) (length passed.first) (names filing)));
            });
          }

      marked_stands : Marked writes front.reached → StandsBehind filing writes after
      marked_stands marked =
          let all : take (length (names filing)) (names filing) ≡ names filing = take_all (length (names filing)) (names filing) (omega arith) in
          record {
            count = length (names filing);
            databases = front.databases ∙ marked.databases ∙ ap (λ (ns : List (List ℕ)). (device_among filing ns).databases) (sym all);
            stage = inr (record { user = front.user ∙ marked.user; written = marked.written; whole = all });
          }

      by : Reached writes front.reached → StandsBehind filing writes after
      by (inl passed) = passed_stands passed
      by (inr marked) = marked_stands marked
