-- What a session says over a link that tells a handheld on which nothing is open.
use Rattle.std.proofs.Common.{◌≡◌, ◌∙◌, ap, append_assoc, refl, sym, subst, ℕ, false, List, [], ◌∷◌, ◌++◌, map}
use Rattle.std.specs.Prelude.{Option, Some, None, IfSome, flat_map}
use Rattle.palm_device.specs.Devices.{Device}
use Rattle.desktop_session.specs.Requests.{opening, reading_app}
use Rattle.session_parts.specs.Stretches.{AreFirst, EachSays, Stretch, each_acts}
use Rattle.session_parts.specs.declared.skip.Skip.{Skip}
use Rattle.session_parts.proofs.LinkWords.{Act, Talk, closing, saying}
use Rattle.session_parts.proofs.StretchLaws.{Leads, Tells, first_is, tells_on}
use Rattle.session_plan.specs.Fits.{Rise}
use Rattle.category_mirror.specs.Blocks.{MergeValue, blocks_merge, written_block}
use Rattle.category_mirror.specs.FilingActs.{IsMergeTold, SaysFiled, SaysUnless, app_of, app_told, filed_under, files_under, rows_app, unless_skipped, writes_where}
use Rattle.category_mirror.specs.Sides.{Filing, is_among, job_acts, job_named, merge_named, merge_of, shelves_of}
use Rattle.category_mirror.proofs.EvolveLaws.{AreFree, IsBehind, acts_are, acts_none, free_next, jobs_named, merge_is, merge_none, own_there, own_written, turn, whole}
use Rattle.category_mirror.proofs.OneLaws.{app_is, here, opens}

module _ (filing : Filing) where
  -- ---- one database

  module _ (n : List ℕ) (done : List (List ℕ)) (device : Device) (told : Option Talk) (tells : Tells device told) (behind : IsBehind filing done device)
      (free : is_among n done ≡ false) where
    -- the block that is told once it is open
    module _ (kept : (job_named filing n).skip ≡ None) where
      abbrev opened : Device
      opened = here device behind.rests n (whole filing n kept).handheld (own_there filing n kept done device behind free) (whole filing n kept).writable

      opened_tells : Tells opened (saying (opening n ∷ []) told)
      opened_tells =
          tells_on device opened (opening n ∷ []) told tells
          (opens device behind.rests n (whole filing n kept).handheld (own_there filing n kept done device behind free) (whole filing n kept).writable)

      block_told : app_told opened 1 ≡ (whole filing n kept).handheld.app
      block_told =
          app_is device behind.rests n (whole filing n kept).handheld (own_there filing n kept done device behind free) (whole filing n kept).writable

      app_now : app_of (saying (opening n ∷ []) told) 1 ≡ (whole filing n kept).handheld.app
      app_now =
          ap (λ (o : Option Talk). app_of o 1) opened_tells.is ∙ ap (λ (d : Device). app_told d 1) opened_tells.same ∙ block_told

      under_is : filed_under (rows_app (shelves_of filing) n) (saying (opening n ∷ []) told) 1 ≡ reading_app 1 ∷ writes_where 1 (own_written filing n kept)
      unfolding filed_under
      under_is =
          ap (λ (app : Option (List ℕ)). reading_app 1 ∷ writes_where 1 (written_block app (blocks_merge app (rows_app (shelves_of filing) n)))) app_now
          ∙ ap (λ (m : Option MergeValue). reading_app 1 ∷ writes_where 1 (written_block (whole filing n kept).handheld.app m)) (sym (merge_is filing n kept))

      said_merge : (merge : Option MergeValue) → IsMergeTold (rows_app (shelves_of filing) n) (saying (opening n ∷ []) told) 1 merge
          → merge ≡ merge_named filing n
      said_merge merge said =
          let here_said : IfSome (Some opened_tells.talk) (λ (talk : Talk). merge ≡ blocks_merge (app_told talk.device 1) (rows_app (shelves_of filing) n)) =
          rw opened_tells.is at said in
          here_said
          ∙ ap (λ (d : Device). blocks_merge (app_told d 1) (rows_app (shelves_of filing) n)) opened_tells.same
          ∙ ap (λ (app : Option (List ℕ)). blocks_merge app (rows_app (shelves_of filing) n)) block_told
          ∙ sym (merge_is filing n kept)

    first_acts : (given : List ℕ) → files_under (shelves_of filing) told (job_named filing n) 1 given ≡ job_acts filing (job_named filing n)
    unfolding files_under
    first_acts given = by (job_named filing n).skip refl
      where
        by : (skip : Option Skip) → (job_named filing n).skip ≡ skip
            → unless_skipped (job_named filing n).skip
            (opening n ∷ (filed_under (rows_app (shelves_of filing) n) (saying (opening n ∷ []) told) 1 ++ closing 1 ∷ []))
            ≡ job_acts filing (job_named filing n)
        by (Some skip) is =
            ap (λ (s : Option Skip). unless_skipped s
            (opening n ∷ (filed_under (rows_app (shelves_of filing) n) (saying (opening n ∷ []) told) 1 ++ closing 1 ∷ []))) is
            ∙ sym (acts_none filing n is)
        by None kept =
            ap (λ (s : Option Skip). unless_skipped s
            (opening n ∷ (filed_under (rows_app (shelves_of filing) n) (saying (opening n ∷ []) told) 1 ++ closing 1 ∷ []))) kept
            ∙ ap (λ (acts : List Act). opening n ∷ (acts ++ closing 1 ∷ [])) (under_is kept)
            ∙ sym (acts_are filing n kept)

    pub files_acts : (handle : ℕ) (given : List ℕ) → handle ≡ 1
        → files_under (shelves_of filing) told (job_named filing n) handle given ≡ job_acts filing (job_named filing n)
    files_acts handle given one =
        ap (λ h. files_under (shelves_of filing) told (job_named filing n) h given) one ∙ first_acts given

    first_merge : (given : List ℕ) (merge : Option MergeValue) → SaysFiled (shelves_of filing) told (job_named filing n) 1 given merge
        → merge ≡ merge_named filing n
    unfolding SaysFiled
    first_merge given merge said = by (job_named filing n).skip refl said
      where
        by : (skip : Option Skip) → (job_named filing n).skip ≡ skip
            → SaysUnless (job_named filing n).skip merge
            (IsMergeTold (rows_app (shelves_of filing) n) (saying (opening n ∷ []) told) 1 merge)
            → merge ≡ merge_named filing n
        by (Some skip) is said =
            let none : merge ≡ None = rw is at said in none ∙ sym (merge_none filing n is)
        by None kept said =
            let told_so : IsMergeTold (rows_app (shelves_of filing) n) (saying (opening n ∷ []) told) 1 merge = rw kept at said in
            said_merge kept merge told_so

    pub files_merge : (handle : ℕ) (given : List ℕ) (merge : Option MergeValue) → handle ≡ 1
        → SaysFiled (shelves_of filing) told (job_named filing n) handle given merge → merge ≡ merge_named filing n
    files_merge handle given merge one said =
        first_merge given merge (subst (λ h. SaysFiled (shelves_of filing) told (job_named filing n) h given merge) one said)

  -- ---- several

  -- all of them
  pub record Joined (names : List (List ℕ)) (told : Option Talk) (ones : List Stretch) (merges : List (Option MergeValue)) : Type 0 where
    pub acts_same : each_acts (files_under (shelves_of filing)) told (jobs_named filing names) ones ≡ flat_map (job_acts filing) (jobs_named filing names)
    pub merges_are : merges ≡ map (merge_of filing) (jobs_named filing names)

  pub files_join : (names done : List (List ℕ)) (device : Device) (told : Option Talk) (ones : List Stretch) (merges : List (Option MergeValue))
      → Tells device told → IsBehind filing done device → Rise names → AreFree done names
      → AreFirst (files_under (shelves_of filing)) told (jobs_named filing names) ones
      → EachSays (files_under (shelves_of filing)) (SaysFiled (shelves_of filing)) told (jobs_named filing names) ones merges
      → Joined names told ones merges
  files_join [] done device told [] [] tells behind rise free firsts all = record { acts_same = refl; merges_are = refl }
  files_join (n ∷ names) done device told (one ∷ ones) (merge ∷ merges) tells behind rise free firsts all =
      let first = first_is device told one.handle tells behind.rests.closed firsts.0 in
      let is = files_acts n done device told tells behind free.0 one.handle one.given first in
      let now = turn filing n done device behind free.0 in
      let next = tells_on device now.after (job_acts filing (job_named filing n)) told tells now.goes.after in
      let later = files_join names (done ++ n ∷ []) now.after (saying (job_acts filing (job_named filing n)) told) ones merges next now.behind rise.1
      (free_next done n names rise.0 free.1) (rw is at firsts.1) (rw is at all.1) in
      record {
        acts_same = ap (λ (acts : List Act). acts ++ each_acts (files_under (shelves_of filing)) (saying acts told) (jobs_named filing names) ones) is
            ∙ ap (λ (acts : List Act). job_acts filing (job_named filing n) ++ acts) later.acts_same;
        merges_are = ap (λ (m : Option MergeValue). m ∷ merges) (files_merge n done device told tells behind free.0 one.handle one.given merge first all.0)
            ∙ ap (λ (ms : List (Option MergeValue)). merge_named filing n ∷ ms) later.merges_are;
      }
  files_join names done device told ones merges tells behind rise free firsts all = absurd all

  -- some of them
  pub files_lead : (names done : List (List ℕ)) (device : Device) (told : Option Talk) (ones : List Stretch) → Tells device told
      → IsBehind filing done device → Rise names → AreFree done names → AreFirst (files_under (shelves_of filing)) told (jobs_named filing names) ones
      → Leads (each_acts (files_under (shelves_of filing)) told (jobs_named filing names) ones) (flat_map (job_acts filing) (jobs_named filing names))
  files_lead [] done device told ones tells behind rise free firsts = record { rest = []; is = refl }
  files_lead (n ∷ names) done device told [] tells behind rise free firsts =
      record { rest = job_acts filing (job_named filing n) ++ flat_map (job_acts filing) (jobs_named filing names); is = refl }
  files_lead (n ∷ names) done device told (one ∷ ones) tells behind rise free firsts =
      let first = first_is device told one.handle tells behind.rests.closed firsts.0 in
      let is = files_acts n done device told tells behind free.0 one.handle one.given first in
      let now = turn filing n done device behind free.0 in
      let next = tells_on device now.after (job_acts filing (job_named filing n)) told tells now.goes.after in
      let later = files_lead names (done ++ n ∷ []) now.after (saying (job_acts filing (job_named filing n)) told) ones next now.behind rise.1
      (free_next done n names rise.0 free.1) (rw is at firsts.1) in
      let mine : List Act = files_under (shelves_of filing) told (job_named filing n) one.handle one.given in
      let rest : List Act = each_acts (files_under (shelves_of filing)) (saying mine told) (jobs_named filing names) ones in
      let rest_is : rest ≡ each_acts (files_under (shelves_of filing)) (saying (job_acts filing (job_named filing n)) told) (jobs_named filing names) ones =
      ap (λ (acts : List Act). each_acts (files_under (shelves_of filing)) (saying acts told) (jobs_named filing names) ones) is in
      record {
        rest = later.rest;
        is = append_assoc mine rest later.rest ∙ ap (λ (acts : List Act). mine ++ (acts ++ later.rest)) rest_is
            ∙ ap (λ (acts : List Act). mine ++ acts) later.is
            ∙ ap (λ (acts : List Act). acts ++ flat_map (job_acts filing) (jobs_named filing names)) is;
      }
