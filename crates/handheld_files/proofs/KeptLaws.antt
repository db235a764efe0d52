-- What is known while a folder's files are read one after the other.
use Rattle.std.proofs.Common.{◌≡◌, ℕ, suc, ◌+◌, ◌<◌, ◌≤◌, Bool, true, false, cond, List, [], ◌∷◌, ◌++◌, map, take, drop, length, refl, ap, sym, ◌∙◌, subst, inl}
use Rattle.std.proofs.Common.{inr, arith, add-one, zero, get_or, rules}
use Rattle.std.specs.List.{AllByRecursion}
use Rattle.std.specs.Prelude.{Option, Some, None, IfErr, IfOk, IfSome, MatchBool, Err, Ok, Result, String, count_by, string_bytes}
use Rattle.std.specs.FinMap as finmap
use Rattle.std.specs.declared.alloc.Global.{Global}
use Rattle.std.proofs.Math.Seq.{split_at}
use Rattle.std.proofs.lemmas.List.{map-append}
use Rattle.std.proofs.lemmas.List.Sums.{sum_by-append}
use Rattle.hs_folders.specs.FileMaps.{FileMap}
use Rattle.hs_folders.specs.Moments.{Moments, OnlyRead}
use Rattle.pdb_values.specs.Databases.{DatabaseValue}
use Rattle.pdb_values.specs.declared.user.UserInfo.{UserInfo}
use Rattle.pdb_values.specs.declared.head.DbHead.{DbHead}
use Rattle.pdb_values.specs.NamedDatabases.{NamesRise, database_of}
use Rattle.pdb_values.proofs.NamedLaws.{AllByRecursion-with_new, NamesRise-with_new, length-with_new}
use Rattle.folder_files.specs.InfoFiles.{IsDeviceFile}
use Rattle.handheld_files.specs.Adding.{AddsDatabase}
use Rattle.handheld_files.specs.Handhelds.{StandFor, is_database_file, no_user}
use Rattle.handheld_files.specs.Openings.{HoldsAll, IsFirstBad, ShowsOpenFault, among, database_count}
use Rattle.handheld_files.specs.Reading.{IsPassedOver, ReadsOn, RefusesFile, RefusesOne}
use Rattle.handheld_files.specs.Settled.{are_settled, as_opened}
use Rattle.handheld_files.specs.declared.fault.OpenFault.{OpenFault}
use Rattle.handheld_files.specs.declared.handheld.Handheld.{Handheld}
use Rattle.handheld_files.specs.declared.fault.OpenFault.TheVariants.{TooMany, BadFile}
use Rattle.handheld_files.proofs.SettledLaws.{settled_as_opened}
use Rattle.handheld_files.proofs.StandLaws.{as_opened-head, stand_added, stand_all, stand_missing, stand_none, stand_unread}
use Rattle.std.proofs.lemmas.Grind.{common_steps}
use Rattle.std.proofs.lemmas.Bool.Decides.{nat_tests}

-- the databases of files of these names
pub record KeptSoFar (names : List (List ℕ)) (databases : List DatabaseValue) : Type 0 where
  pub order : NamesRise databases
  pub few : length databases ≤ count_by is_database_file names
  pub settled : AllByRecursion (λ database. are_settled database.records ≡ true) databases

pub kept_none : (databases : List DatabaseValue) → databases ≡ [] → KeptSoFar [] databases
kept_none databases is = search (rules)

count_by-more : (test : List ℕ → Bool) (names : List (List ℕ)) (name : List ℕ)
    → count_by test (names ++ name ∷ []) ≡ count_by test names + count_by test (name ∷ [])
count_by-more test names name = sum_by-append (λ n. cond (test n) 1 0) names (name ∷ [])

kept_more : (names : List (List ℕ)) (name : List ℕ) (databases : List DatabaseValue) → KeptSoFar names databases → KeptSoFar (names ++ name ∷ []) databases
kept_more names name databases kept = search (rules, count_by-more)

one_counts : (name : List ℕ) → is_database_file name ≡ true → count_by is_database_file (name ∷ []) ≡ 1
one_counts name is = rw is refl

kept_database : (names : List (List ℕ)) (name bytes : List ℕ) (old new : List DatabaseValue) → is_database_file name ≡ true → AddsDatabase old name bytes new
    → KeptSoFar names old → KeptSoFar (names ++ name ∷ []) new
kept_database names name bytes old new is adds kept =
    let opened : DatabaseValue = as_opened adds.stored in
    let none : database_of opened.head.name old ≡ None = ap (λ (h : DbHead). database_of h.name old) (as_opened-head adds.stored) ∙ adds.is_new in
    let more = count_by-more is_database_file names name in
    let one = one_counts name is in
    let many = length-with_new opened old in
    let few = kept.few in
    subst (KeptSoFar (names ++ name ∷ [])) (sym adds.made) (record {
      order = NamesRise-with_new opened old none kept.order;
      few = omega arith;
      settled = AllByRecursion-with_new (λ database. are_settled database.records ≡ true) opened old (settled_as_opened adds.stored) kept.settled;
    })

-- one more file
pub kept_on : (told : Option FileMap) (names : List (List ℕ)) (name : List ℕ) (old new : List DatabaseValue) (user user' : UserInfo) → KeptSoFar names old
    → ReadsOn told name old user new user' → KeptSoFar (names ++ name ∷ []) new
kept_on told names name old new user user' kept (inl past) = subst (KeptSoFar (names ++ name ∷ [])) (sym past.1.databases) (kept_more names name old kept)
kept_on told names name old new user user' kept (inr did) = by (is_database_file name) refl did.2
  where
    by : (b : Bool) → is_database_file name ≡ b → MatchBool b (AddsDatabase old name did.0 new × (user' ≡ user)) (IsDeviceFile user' did.0 × (new ≡ old))
        → KeptSoFar (names ++ name ∷ []) new
    by true is adds = kept_database names name did.0 old new is adds.0 kept
    by false is adds = subst (KeptSoFar (names ++ name ∷ [])) (sym adds.1) (kept_more names name old kept)

pub stands_begin : (told : Option FileMap) (databases : List DatabaseValue) (user : UserInfo) → databases ≡ [] → user ≡ no_user
    → IfSome told (λ held. StandFor (among [] held) databases user)
stands_begin told databases user none nobody = search (rules, stand_none)

past_on : (held : FileMap) (names : List (List ℕ)) (name : List ℕ) (databases : List DatabaseValue) (user : UserInfo)
    → StandFor (among names held) databases user → IsPassedOver (Some held) name → StandFor (among (names ++ name ∷ []) held) databases user
past_on held names name databases user stands (inl unread) = stand_unread held names name databases user unread stands
past_on held names name databases user stands (inr missing) = stand_missing held names name databases user missing stands

pub stands_on : (told : Option FileMap) (names : List (List ℕ)) (name : List ℕ) (old new : List DatabaseValue) (user user' : UserInfo)
    → IfSome told (λ held. StandFor (among names held) old user) → ReadsOn told name old user new user'
    → IfSome told (λ held. StandFor (among (names ++ name ∷ []) held) new user')
stands_on None names name old new user user' stands reads = tt
stands_on (Some held) names name old new user user' stands (inl past) =
    subst (λ ds. StandFor (among (names ++ name ∷ []) held) ds user') (sym past.1.databases)
    (subst (StandFor (among (names ++ name ∷ []) held) old) (sym past.1.owner) (past_on held names name old user stands past.0))
stands_on (Some held) names name old new user user' stands (inr did) =
    stand_added held names name did.0 old new user user' did.1.there did.1.is_read did.2 stands

-- a file that is refused is the first bad one
pub refused_on : (told : Option FileMap) (names before after : List (List ℕ)) (name : List ℕ) (databases : List DatabaseValue) (user : UserInfo)
    (fault : OpenFault) → IfSome told (λ held. StandFor (among before held) databases user)
    → RefusesFile told name databases fault → names ≡ before ++ name ∷ after → IfSome told (RefusesOne names fault)
refused_on (Some held) names before after name databases user TooMany stands refuses order = refuses
refused_on (Some held) names before after name databases user (BadFile file kind place) stands refuses order =
    subst (λ n. IsFirstBad names held n kind place) (sym refuses.0) (record {
      before = before;
      after = after;
      order = order;
      databases = databases;
      user = user;
      good = stands;
      bytes = refuses.1.0;
      there = refuses.1.1.there;
      is_read = refuses.1.1.is_read;
      fails = refuses.1.2;
    })
refused_on told names before after name databases user fault stands refuses order = tt

pub take_next_at : {X : Type 0} (xs : List X) (k : ℕ) (x : X) → k < length xs → x ≡ get_or xs k x → take (suc k) xs ≡ take k xs ++ x ∷ []
take_next_at [] k x within is = absurd (omega arith)
take_next_at (y ∷ ys) zero x within is = ap (λ z. z ∷ []) (sym is)
take_next_at (y ∷ ys) (suc k) x within is = ap (λ zs. y ∷ zs) (take_next_at ys k x (omega arith) is)

-- the names up to the next one
pub names_next : (names : List (String Global)) (k : ℕ) (name : String Global) → k < length names → name ≡ get_or names k name
    → map string_bytes (take (k + 1) names) ≡ map string_bytes (take k names) ++ string_bytes name ∷ []
names_next names k name within is = grind (arith, common_steps, nat_tests, add-one, take_next_at, map-append)

-- the names around one of them
pub names_around : (names : List (String Global)) (k : ℕ) (name : String Global) → k < length names → name ≡ get_or names k name
    → map string_bytes names ≡ map string_bytes (take k names) ++ string_bytes name ∷ map string_bytes (drop (suc k) names)
names_around names k name within is =
    ap (map string_bytes) (split_at names k name within) ∙ map-append string_bytes (take k names) (get_or names k name ∷ drop (suc k) names)
    ∙ ap (λ y. map string_bytes (take k names) ++ string_bytes y ∷ map string_bytes (drop (suc k) names)) (sym is)

few_are_held : (held : FileMap) (names : List (List ℕ)) → names ≡ finmap.keys held → count_by is_database_file names ≤ 200 → database_count held ≤ 200
few_are_held held names listed few = subst (λ ns. count_by is_database_file ns ≤ 200) listed few

-- what was read of all files is what the folder holds
pub holds_all : (told : Option FileMap) (names : List (List ℕ)) (answer : Result Handheld OpenFault) → IfSome told (λ held. names ≡ finmap.keys held)
    → count_by is_database_file names ≤ 200
    → IfOk answer (λ handheld. IfSome told (λ held. StandFor (among names held) handheld.databases.items handheld.user))
    → IfOk answer (λ handheld. IfSome told (λ held. HoldsAll held handheld.databases.items handheld.user))
holds_all told names (Err fault) listed few stands = tt
holds_all None names (Ok handheld) listed few stands = tt
holds_all (Some held) names (Ok handheld) listed few stands =
    record { few = few_are_held held names listed few; stands = stand_all held names handheld.databases.items handheld.user listed stands }

shows_one : (told : Option FileMap) (names : List (List ℕ)) (fault : OpenFault) → IfSome told (λ held. names ≡ finmap.keys held)
    → count_by is_database_file names ≤ 200 → IfSome told (RefusesOne names fault) → IfSome told (ShowsOpenFault fault)
shows_one (Some held) names TooMany listed few refuses = absurd refuses
shows_one (Some held) names (BadFile file kind place) listed few refuses =
    (few_are_held held names listed few, subst (λ ns. IsFirstBad ns held (string_bytes {Z = Global} file) kind place) listed refuses)
shows_one told names fault listed few refuses = tt

-- why one of all files was refused is why the folder was
pub shows_all : (told : Option FileMap) (names : List (List ℕ)) (answer : Result Handheld OpenFault) → IfSome told (λ held. names ≡ finmap.keys held)
    → count_by is_database_file names ≤ 200
    → IfErr answer (λ fault. IfSome told (RefusesOne names fault)) → IfErr answer (λ fault. IfSome told (ShowsOpenFault fault))
shows_all told names answer listed few refuses = search (rules, shows_one)

-- ---- readings

-- one reading after another
pub OnlyRead-trans : {F : Type 0} (contents : F → Option FileMap) (moments : F → Moments) (paths : F → Option (List (List ℕ))) (faults : F → ℕ)
    (old mid new : F)
    → OnlyRead contents moments paths faults old mid → OnlyRead contents moments paths faults mid new → OnlyRead contents moments paths faults old new
OnlyRead-trans contents moments paths faults old mid new first = search (rules)

-- ---- causes
