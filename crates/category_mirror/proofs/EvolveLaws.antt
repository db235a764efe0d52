-- What a session makes of a handheld, one database after another.
use Rattle.std.proofs.lemmas.Bool.{and_parts}
use Rattle.std.proofs.lemmas.List.Folds.{list_any-append}
use Rattle.std.proofs.Common.{inl, inr, ◌⊎◌, ◌≡◌, ◌∙◌, ◌≤◌, ap, append_assoc, append-nil, refl, sym, subst, ℕ, Bool, true, false, cond, List, [], ◌∷◌, ◌++◌, ◌||◌, map}
use Rattle.std.specs.Prelude.{Option, Some, None, flat_map, option_and_then}
use Rattle.std.specs.List.{AllByRecursion, list_all}
use Rattle.std.specs.Option.{option_map}
use Rattle.std.specs.Str.{bytes_eq}
use Rattle.pdb_values.specs.Blocks.{block_length}
use Rattle.pdb_values.specs.Databases.{DatabaseValue}
use Rattle.pdb_values.specs.NamedDatabases.{comes_before, database_of, replaced}
use Rattle.pdb_values.proofs.NamedLaws.{AllByRecursion-database_of, bytes_eq-is, bytes_eq-own, comes_before-differs, database_of-name, database_of-replaced}
use Rattle.palm_device.specs.Bounds.{IsBoundedDatabase}
use Rattle.palm_device.specs.Devices.{Device}
use Rattle.desktop_session.specs.Acts.{Act}
use Rattle.desktop_session.specs.Requests.{opening}
use Rattle.session_parts.specs.Rests.{IsAtRest}
use Rattle.session_parts.specs.Spans.{within}
use Rattle.session_parts.specs.declared.skip.Skip.{Skip}
use Rattle.session_plan.specs.Fits.{Rise}
use Rattle.category_mirror.specs.declared.job.FilingJob.{FilingJob}
use Rattle.category_mirror.specs.Blocks.{MergeValue, blocks_merge, written_block}
use Rattle.category_mirror.specs.FilingActs.{rows_app, unless_skipped}
use Rattle.category_mirror.specs.Filings.{block_by}
use Rattle.category_mirror.specs.Sides.{Filing, app_named, block_acts, filed_database, filed_where, is_among, job_acts, job_named, merge_named, merge_of, merge_unless, shelves_of, with_merge}
use Rattle.category_mirror.proofs.OneLaws.{Goes, acts_go, acts_with, changed, goes_none, goes_then, rests_after, written_into}
use Rattle.category_mirror.proofs.WholeLaws.{IsWhole, whole_of}
use Rattle.category_mirror.proofs.WrittenLaws.{short_written, written_is}

-- ---- names that are among some, and one more

or-false : (b : Bool) → (b || false) ≡ b
or-false true = refl
or-false false = refl

among_next : (name n : List ℕ) (done : List (List ℕ)) → is_among name (done ++ n ∷ []) ≡ (is_among name done || bytes_eq n name)
among_next name n done =
    list_any-append (λ other. bytes_eq other name) done (n ∷ []) ∙ ap (λ b. is_among name done || b) (or-false (bytes_eq n name))

-- none of these names is among them
abbrev pub AreFree : List (List ℕ) → List (List ℕ) → Type 0
AreFree done names = AllByRecursion (λ name. is_among name done ≡ false) names

pub free_next : (done : List (List ℕ)) (n : List ℕ) (names : List (List ℕ)) → list_all (λ later. comes_before n later) names ≡ true
    → AreFree done names → AreFree (done ++ n ∷ []) names
free_next done n [] behind free = tt
free_next done n (m ∷ names) behind free =
    let both = and_parts (comes_before n m) (list_all (λ later. comes_before n later) names) behind in (
      among_next m n done ∙ ap (λ b. b || bytes_eq n m) free.0 ∙ comes_before-differs n m both.0,
      free_next done n names both.1 free.1,
    )

pub free_none : (names : List (List ℕ)) → AreFree [] names
free_none [] = tt
free_none (n ∷ names) = (refl, free_none names)

-- ---- databases that are found

pub found-same : {f g : DatabaseValue → DatabaseValue} (name : List ℕ) (xs : List DatabaseValue) (o : Option DatabaseValue) → database_of name xs ≡ o
    → ((d : DatabaseValue) → d.head.name ≡ name → f d ≡ g d) → option_map f o ≡ option_map g o
found-same name xs None is each = refl
found-same name xs (Some d) is each = ap (λ (x : DatabaseValue). Some x) (each d (database_of-name name xs d is))

or_cond : {A : Type 0} (a b : Bool) (x y : A) → (b ≡ false) ⊎ (x ≡ y) → cond (a || b) x y ≡ cond a x y
or_cond true b x y is = refl
or_cond false true x y (inl other) = absurd cc
or_cond false true x y (inr same) = same
or_cond false false x y is = refl

pub skipped_same : (app : Option (List ℕ)) → block_by app None ≡ app
skipped_same None = refl
skipped_same (Some block) = refl

module _ (filing : Filing) where
  abbrev held : List DatabaseValue
  held = filing.device.databases

  -- one more name changes only its own database
  where_next : (done : List (List ℕ)) (n : List ℕ) (d : DatabaseValue) → (bytes_eq n d.head.name ≡ false) ⊎ (filed_database filing d ≡ d)
      → filed_where filing (done ++ n ∷ []) d ≡ filed_where filing done d
  where_next done n d is =
      ap (λ b. cond b (filed_database filing d) d) (among_next d.head.name n done)
      ∙ or_cond (is_among d.head.name done) (bytes_eq n d.head.name) (filed_database filing d) d is

  where_own : (done : List (List ℕ)) (d : DatabaseValue) → filed_where filing (done ++ d.head.name ∷ []) d ≡ filed_database filing d
  where_own done d =
      ap (λ b. cond b (filed_database filing d) d)
      (among_next d.head.name d.head.name done ∙ ap (λ b. is_among d.head.name done || b) (bytes_eq-own d.head.name) ∙ last (is_among d.head.name done))
    where
      last : (b : Bool) → (b || true) ≡ true
      last true = refl
      last false = refl

  where_free : (done : List (List ℕ)) (d : DatabaseValue) → is_among d.head.name done ≡ false → filed_where filing done d ≡ d
  where_free done d free = ap (λ b. cond b (filed_database filing d) d) free

  -- ---- a handheld behind some names

  pub record IsBehind (done : List (List ℕ)) (device : Device) : Type 0 where
    pub rests : IsAtRest device
    pub found : (name : List ℕ) → database_of name device.databases ≡ option_map (filed_where filing done) (database_of name held)
    pub user : device.user ≡ filing.device.user

  pub behind_none : IsAtRest filing.device → IsBehind [] filing.device
  behind_none rests = record { rests = rests; found = λ name. same (database_of name held); user = refl }
    where
      same : (o : Option DatabaseValue) → o ≡ option_map (filed_where filing []) o
      same None = refl
      same (Some d) = refl

  -- ---- one that is skipped

  pub merge_none : (n : List ℕ) {skip : Skip} → (job_named filing n).skip ≡ Some skip → merge_named filing n ≡ None
  unfolding merge_of
  merge_none n is =
      ap (λ (s : Option Skip). merge_unless s (blocks_merge (app_named n held) (rows_app (shelves_of filing) n))) is

  pub filed_none : (n : List ℕ) {skip : Skip} (d : DatabaseValue) → (job_named filing n).skip ≡ Some skip → d.head.name ≡ n → filed_database filing d ≡ d
  filed_none n d is named =
      ap (λ (name : List ℕ). with_merge (merge_named filing name) d) named ∙ ap (λ (m : Option MergeValue). with_merge m d) (merge_none n is)
      ∙ (λ k. record d { app = skipped_same d.app k })

  pub acts_none : (n : List ℕ) {skip : Skip} → (job_named filing n).skip ≡ Some skip → job_acts filing (job_named filing n) ≡ []
  unfolding job_acts
  acts_none n is = ap (λ (s : Option Skip). unless_skipped s (within (opening n) (block_acts filing (job_named filing n)) 1 [])) is

  -- ---- one that is not

  module _ (n : List ℕ) (kept : (job_named filing n).skip ≡ None) where
    pub whole : IsWhole held (shelves_of filing) n
    whole = whole_of held (shelves_of filing) n kept

    abbrev own : DatabaseValue
    own = whole.handheld

    pub own_named : own.head.name ≡ n
    own_named = database_of-name n held own whole.there

    pub own_app : app_named n held ≡ own.app
    own_app = ap (λ (o : Option DatabaseValue). option_and_then (λ (d : DatabaseValue). d.app) o) whole.there

    -- the block that it gets
    abbrev pub own_written : Option (List ℕ)
    own_written = written_block own.app (merge_named filing n)

    pub merge_is : merge_named filing n ≡ blocks_merge own.app (rows_app (shelves_of filing) n)
    unfolding merge_of
    merge_is =
        ap (λ (s : Option Skip). merge_unless s (blocks_merge (app_named n held) (rows_app (shelves_of filing) n))) kept
        ∙ ap (λ (app : Option (List ℕ)). blocks_merge app (rows_app (shelves_of filing) n)) own_app

    pub acts_are : job_acts filing (job_named filing n) ≡ acts_with n own_written
    unfolding job_acts
    acts_are =
        ap (λ (s : Option Skip). unless_skipped s (within (opening n) (block_acts filing (job_named filing n)) 1 [])) kept
        ∙ ap (λ (app : Option (List ℕ)). acts_with n (written_block app (merge_named filing n))) own_app

    new_is : written_into own own_written ≡ filed_database filing own
    new_is = written_is own (merge_named filing n) ∙ ap (λ (name : List ℕ). with_merge (merge_named filing name) own) (sym own_named)

    module _ (done : List (List ℕ)) (device : Device) (behind : IsBehind done device) (free : is_among n done ≡ false) where
      pub own_there : database_of n device.databases ≡ Some own
      own_there =
          behind.found n ∙ ap (option_map (filed_where filing done)) whole.there
          ∙ ap (λ (d : DatabaseValue). Some d) (where_free done own (ap (λ (name : List ℕ). is_among name done) own_named ∙ free))

      pub short : block_length own_written ≤ 65500
      short =
          short_written own.app (rows_app (shelves_of filing) n) (merge_named filing n) (inr merge_is)
          (AllByRecursion-database_of IsBoundedDatabase n device.databases own behind.rests.proper.bounded.databases own_there).whole.short_app

      pub one_goes : Goes (job_acts filing (job_named filing n)) device (changed device behind.rests n own own_there whole.writable own_written)
      one_goes =
          subst (λ (acts : List Act). Goes acts device (changed device behind.rests n own own_there whole.writable own_written)) (sym acts_are)
          (acts_go device behind.rests n own own_there whole.writable own_written short)

      found_next : (name : List ℕ) → database_of name (replaced (filed_database filing own) device.databases)
          ≡ option_map (filed_where filing (done ++ n ∷ [])) (database_of name held)
      found_next name =
          database_of-replaced name (filed_database filing own) own device.databases
          (ap (λ (m : List ℕ). database_of m device.databases) own_named ∙ own_there)
          ∙ by (bytes_eq own.head.name name) refl
        where
          by : (b : Bool) → bytes_eq own.head.name name ≡ b → cond b (Some (filed_database filing own)) (database_of name device.databases)
              ≡ option_map (filed_where filing (done ++ n ∷ [])) (database_of name held)
          by true same =
              let named : n ≡ name = sym own_named ∙ bytes_eq-is own.head.name name same in
              ap (λ (d : DatabaseValue). Some d) (sym (where_own done own) ∙ ap (λ (m : List ℕ). filed_where filing (done ++ m ∷ []) own) own_named)
              ∙ ap (option_map (filed_where filing (done ++ n ∷ []))) (sym whole.there)
              ∙ ap (λ (m : List ℕ). option_map (filed_where filing (done ++ n ∷ [])) (database_of m held)) named
          by false differ =
              behind.found name
              ∙ sym (found-same name held (database_of name held) refl (λ d named. where_next done n d
              (inl (ap (λ (m : List ℕ). bytes_eq n m) named ∙ ap (λ (m : List ℕ). bytes_eq m name) (sym own_named) ∙ differ))))

      pub behind_next : IsBehind (done ++ n ∷ []) (changed device behind.rests n own own_there whole.writable own_written)
      behind_next = record {
        rests = rests_after device behind.rests n own own_there whole.writable own_written short;
        found = λ name. ap (λ (d : DatabaseValue). database_of name (replaced d device.databases)) new_is ∙ found_next name;
        user = behind.user;
      }

  -- ---- one, whether it is skipped or not

  pub record Turn (n : List ℕ) (done : List (List ℕ)) (device : Device) : Type 0 where
    pub after : Device
    pub goes : Goes (job_acts filing (job_named filing n)) device after
    pub behind : IsBehind (done ++ n ∷ []) after

  pub turn : (n : List ℕ) (done : List (List ℕ)) (device : Device) → IsBehind done device → is_among n done ≡ false → Turn n done device
  turn n done device behind free = by (job_named filing n).skip refl
    where
      by : (skip : Option Skip) → (job_named filing n).skip ≡ skip → Turn n done device
      by None kept = record {
        after = changed device behind.rests n (whole n kept).handheld (own_there n kept done device behind free) (whole n kept).writable (own_written n kept);
        goes = one_goes n kept done device behind free;
        behind = behind_next n kept done device behind free;
      }
      by (Some skip) is = record {
        after = device;
        goes = subst (λ (acts : List Act). Goes acts device device) (sym (acts_none n is)) (goes_none device);
        behind = record {
          rests = behind.rests;
          found = λ name. behind.found name ∙ sym (found-same name held (database_of name held) refl (λ d named. where_next done n d (apart d)));
          user = behind.user;
        };
      }
        where
          apart : (d : DatabaseValue) → (bytes_eq n d.head.name ≡ false) ⊎ (filed_database filing d ≡ d)
          apart d = chosen (bytes_eq n d.head.name) refl
            where
              chosen : (b : Bool) → bytes_eq n d.head.name ≡ b → (bytes_eq n d.head.name ≡ false) ⊎ (filed_database filing d ≡ d)
              chosen true same = inr (filed_none n d is (sym (bytes_eq-is n d.head.name same)))
              chosen false differ = inl differ

  -- ---- several

  abbrev pub jobs_named : List (List ℕ) → List FilingJob
  jobs_named names = map (job_named filing) names

  pub record Turns (names done : List (List ℕ)) (device : Device) : Type 0 where
    pub after : Device
    pub goes : Goes (flat_map (job_acts filing) (jobs_named names)) device after
    pub behind : IsBehind (done ++ names) after

  pub turns : (names done : List (List ℕ)) (device : Device) → IsBehind done device → Rise names → AreFree done names → Turns names done device
  turns [] done device behind rise free = record {
    after = device;
    goes = goes_none device;
    behind = subst (λ (ns : List (List ℕ)). IsBehind ns device) (sym (append-nil done)) behind;
  }
  turns (n ∷ names) done device behind rise free =
      let first = turn n done device behind free.0 in
      let later = turns names (done ++ n ∷ []) first.after first.behind rise.1 (free_next done n names rise.0 free.1) in
      record {
        after = later.after;
        goes = goes_then (job_acts filing (job_named filing n)) (flat_map (job_acts filing) (jobs_named names)) first.goes later.goes;
        behind = subst (λ (ns : List (List ℕ)). IsBehind ns later.after) (append_assoc done (n ∷ []) names) later.behind;
      }
