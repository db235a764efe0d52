-- What files stand for, one file after the other.
use Rattle.std.proofs.Common.{◌≡◌, ℕ, ◌||◌, Bool, true, false, cond, List, [], ◌∷◌, ◌++◌, refl, ap, sym, ◌∙◌, subst, rules}
use Rattle.std.specs.Prelude.{Option, Some, None, MatchBool, bytes_eq, codes, is_some}
use Rattle.std.specs.FinMap as finmap
use Rattle.std.specs.List.{list_any}
use Rattle.std.specs.Ordering.{nat_cmp, eq_by_cmp}
use Rattle.std.specs.Cmp.Lexicographic.{slice_cmp}
use Rattle.std.proofs.lemmas.List.Folds.{list_any-append}
use Rattle.std.proofs.lemmas.Map.Text.{is_eq-slice_cmp}
use Rattle.hs_folders.specs.FileMaps.{FileMap}
use Rattle.pdb_values.specs.Databases.{DatabaseValue}
use Rattle.pdb_values.specs.declared.user.UserInfo.{UserInfo}
use Rattle.pdb_values.specs.declared.head.DbHead.{DbHead}
use Rattle.pdb_values.specs.NamedDatabases.{database_of, with_new}
use Rattle.folder_files.specs.InfoFiles.{IsDeviceFile}
use Rattle.folder_files.specs.FileNames.{database_file, device_info_file, has_ending, is_handheld_file}
use Rattle.handheld_files.specs.Adding.{AddsDatabase, AddsFile}
use Rattle.handheld_files.specs.Handhelds.{Files, HasFile, IsHeld, IsUserOf, StandFor, is_database_file, no_user}
use Rattle.handheld_files.specs.Openings.{among}
use Rattle.handheld_files.specs.Settled.{as_opened}
use Rattle.pdb_values.proofs.NamedLaws.{NamesRise-with_new, bytes_eq-is, bytes_eq-own, database_of-with_new}

-- opening keeps the head
pub as_opened-head : (stored : DatabaseValue) → (as_opened stored).head ≡ stored.head
unfolding as_opened
as_opened-head stored = refl

or_split : (a b c : Bool) → (a || (b || c)) ≡ true → (a || b) ≡ false → c ≡ true
or_split false false c h none = h
or_split a b c h none = absurd cc

or_more : (a b c : Bool) → (a || b) ≡ true → (a || (b || c)) ≡ true
or_more false false c h = absurd cc
or_more a b c h = refl

-- a file of a database is one that a handheld reads
pub database_is_read : (name : List ℕ) → is_database_file name ≡ true → is_handheld_file name ≡ true
database_is_read name is = or_more (has_ending (codes ".pdb") name) (has_ending (codes ".prc") name) (bytes_eq name device_info_file) is

-- a file that a handheld reads and that is none of a database is its information file
pub other_is_info : (name : List ℕ) → is_handheld_file name ≡ true → is_database_file name ≡ false → name ≡ device_info_file
other_is_info name is not = bytes_eq-is name device_info_file
    (or_split (has_ending (codes ".pdb") name) (has_ending (codes ".prc") name) (bytes_eq name device_info_file) is not)

pub info_is_none : is_database_file device_info_file ≡ false
info_is_none = refl

info_is_read : is_handheld_file device_info_file ≡ true
info_is_read = refl

pub stand_same : (files files' : Files) (databases : List DatabaseValue) (user : UserInfo) → ((name : List ℕ) → files name ≡ files' name)
    → StandFor files databases user → StandFor files' databases user
stand_same files files' databases user same stands = subst (λ f. StandFor f databases user) (λ i name. same name i) stands

-- no file stands for no database
pub stand_none : (held : FileMap) → StandFor (among [] held) [] no_user
stand_none held = search (rules)

pub more_of : (a b : Bool) (found : Option (List ℕ)) → cond (a || (b || false)) found None ≡ cond b found (cond a found None)
more_of true true found = refl
more_of true false found = refl
more_of false true found = refl
more_of false false found = refl

-- one more file
pub among-next : (before : List (List ℕ)) (name : List ℕ) (held : FileMap) (q : List ℕ)
    → among (before ++ name ∷ []) held q ≡ cond (bytes_eq q name) (finmap.get held q) (among before held q)
among-next before name held q = ap (λ b. cond b (finmap.get held q) None) (list_any-append (bytes_eq q) before (name ∷ []))
    ∙ more_of (list_any (bytes_eq q) before) (bytes_eq q name) (finmap.get held q)

pub stays_found : (a b : Bool) (found : Option (List ℕ)) (bytes : List ℕ) → cond a found None ≡ Some bytes → cond b found (cond a found None) ≡ Some bytes
stays_found true true found bytes h = h
stays_found true false found bytes h = h
stays_found false b found bytes h = absurd cc

pub among-more : (before : List (List ℕ)) (name : List ℕ) (held : FileMap) (q bytes : List ℕ) → among before held q ≡ Some bytes
    → among (before ++ name ∷ []) held q ≡ Some bytes
among-more before name held q bytes found = among-next before name held q
    ∙ stays_found (list_any (bytes_eq q) before) (bytes_eq q name) (finmap.get held q) bytes found

-- a database keeps its file where files are added
has_more : (before : List (List ℕ)) (name : List ℕ) (held : FileMap) (database : DatabaseValue) → HasFile (among before held) database
    → HasFile (among (before ++ name ∷ []) held) database
has_more before name held database has = search (rules, among-more)

-- another name's file is as before
pub among-other : (before : List (List ℕ)) (name : List ℕ) (held : FileMap) (q : List ℕ) → bytes_eq q name ≡ false
    → among (before ++ name ∷ []) held q ≡ among before held q
among-other before name held q other = among-next before name held q ∙ rw other refl

pub among-this : (before : List (List ℕ)) (name : List ℕ) (held : FileMap) → among (before ++ name ∷ []) held name ≡ finmap.get held name
among-this before name held = among-next before name held name ∙ rw (bytes_eq-own name) refl

-- ---- a file that is passed over

pub none_stays : (a b : Bool) (found : Option (List ℕ)) → (b ≡ true → found ≡ None) → cond a found None ≡ cond b found (cond a found None)
none_stays true true found none = refl
none_stays false true found none = sym (none refl)
none_stays a false found none = refl

pub stand_missing : (held : FileMap) (before : List (List ℕ)) (name : List ℕ) (databases : List DatabaseValue) (user : UserInfo) → finmap.get held name ≡ None
    → StandFor (among before held) databases user → StandFor (among (before ++ name ∷ []) held) databases user
stand_missing held before name databases user none stands =
    stand_same (among before held) (among (before ++ name ∷ []) held) databases user
    (λ q. none_stays (list_any (bytes_eq q) before) (bytes_eq q name) (finmap.get held q) (λ e. ap (finmap.get held) (bytes_eq-is q name e) ∙ none)
    ∙ sym (among-next before name held q)) stands

-- names of which one passes a test and the other doesn't
pub differs : (q name : List ℕ) (test : List ℕ → Bool) (a b : Bool) → test q ≡ a → test name ≡ b → (a ≡ b → ⊥) → bytes_eq q name ≡ false
differs q name test a b qa nb unlike = elim (bytes_eq q name) as (λ e. bytes_eq q name ≡ e → e ≡ false) [
  | true ↦ λ e. absurd (unlike (sym qa ∙ ap test (bytes_eq-is q name e) ∙ nb))
  | false ↦ λ e. refl
] refl

pub true_no_false : true ≡ false → ⊥
true_no_false h = absurd cc

pub stand_unread : (held : FileMap) (before : List (List ℕ)) (name : List ℕ) (databases : List DatabaseValue) (user : UserInfo) → is_handheld_file name ≡ false
    → StandFor (among before held) databases user → StandFor (among (before ++ name ∷ []) held) databases user
stand_unread held before name databases user unread stands =
    let other : (q : List ℕ) → is_handheld_file q ≡ true
    → bytes_eq q name ≡ false = λ q is. differs q name is_handheld_file true false is unread true_no_false in
    record {
      order = stands.order;
      each_file = λ q bytes is there. stands.each_file q bytes is (sym (among-other before name held q (other q (database_is_read q is))) ∙ there);
      each_database = λ q database found. has_more before name held database (stands.each_database q database found);
      owner = subst (λ found. IsUserOf found user) (sym (among-other before name held device_info_file (other device_info_file info_is_read))) stands.owner;
    }

-- ---- the information file

pub stand_info : (held : FileMap) (before : List (List ℕ)) (bytes : List ℕ) (databases : List DatabaseValue) (user user' : UserInfo)
    → finmap.get held device_info_file ≡ Some bytes → IsDeviceFile user' bytes → StandFor (among before held) databases user
    → StandFor (among (before ++ device_info_file ∷ []) held) databases user'
stand_info held before bytes databases user user' there file stands =
    let other : (q : List ℕ) → is_database_file q ≡ true
    → bytes_eq q device_info_file ≡ false = λ q is. differs q device_info_file is_database_file true false is info_is_none true_no_false in
    record {
      order = stands.order;
      each_file = λ q bytes is found. stands.each_file q bytes is (sym (among-other before device_info_file held q (other q is)) ∙ found);
      each_database = λ q database found. has_more before device_info_file held database (stands.each_database q database found);
      owner = subst (λ found. IsUserOf found user') (sym (among-this before device_info_file held ∙ there)) file;
    }

-- ---- a file of a database

pub held_still : (name : List ℕ) (new old : DatabaseValue) (databases : List DatabaseValue) → database_of new.head.name databases ≡ None
    → database_of name databases ≡ Some old → database_of name (with_new new databases) ≡ Some old
held_still name new old databases none found =
    database_of-with_new name new databases none
    ∙ elim (bytes_eq new.head.name name) as (λ b. bytes_eq new.head.name name ≡ b → cond b (Some new) (database_of name databases) ≡ Some old) [
      | true ↦ λ e. absurd (let no : ◌≡◌ {A = Option DatabaseValue} None (Some old) = sym none
          ∙ ap (λ n. database_of n databases) (bytes_eq-is new.head.name name e) ∙ found in cc)
      | false ↦ λ e. found
    ] refl

pub stand_database : (held : FileMap) (before : List (List ℕ)) (name bytes : List ℕ) (old new : List DatabaseValue) (user : UserInfo)
    → finmap.get held name ≡ Some bytes → is_database_file name ≡ true → AddsDatabase old name bytes new → StandFor (among before held) old user
    → StandFor (among (before ++ name ∷ []) held) new user
stand_database held before name bytes old new user there is adds stands =
    let opened : DatabaseValue = as_opened adds.stored in
    let head : opened.head ≡ adds.stored.head = as_opened-head adds.stored in
    let none : database_of opened.head.name old ≡ None = ap (λ (h : DbHead). database_of h.name old) head ∙ adds.is_new in
    let this : database_of adds.stored.head.name (with_new opened old) ≡ Some opened = ap (λ (h : DbHead). database_of h.name (with_new opened old)) (sym head)
    ∙ database_of-with_new opened.head.name opened old none ∙ rw (bytes_eq-own opened.head.name) refl in
    let file_there : among (before ++ name ∷ []) held (database_file adds.stored.head) ≡ Some bytes = ap (among (before ++ name ∷ []) held)
    (sym adds.file.named) ∙ among-this before name held ∙ there in
    let no_info : bytes_eq device_info_file name ≡ false = differs device_info_file name is_database_file false true info_is_none is (λ h. absurd cc) in
    subst (λ databases. StandFor (among (before ++ name ∷ []) held) databases user) (sym adds.made) (record {
      order = NamesRise-with_new opened old none stands.order;
      each_file = λ q found_bytes q_is found. elim (bytes_eq q name) as (λ b. bytes_eq q name ≡ b → IsHeld (with_new opened old) q found_bytes) [
        | true ↦ λ e. (let here : q ≡ name = bytes_eq-is q name e in
            let same : found_bytes ≡ bytes = (let both : ◌≡◌ {A = Option (List ℕ)} (Some found_bytes) (Some bytes) = sym found
            ∙ ap (among (before ++ name ∷ []) held) here ∙ among-this before name held ∙ there in cc) in
            subst (λ n. IsHeld (with_new opened old) n found_bytes) (sym here)
            (subst (λ b. IsHeld (with_new opened old) name b) (sym same) (record { stored = adds.stored; file = adds.file; held = this })))
        | false ↦ λ e. (let was = stands.each_file q found_bytes q_is (sym (among-other before name held q e) ∙ found) in
            record { stored = was.stored; file = was.file; held = held_still was.stored.head.name opened (as_opened was.stored) old none was.held })
      ] refl;
      each_database = λ q database found. elim (bytes_eq opened.head.name q) as
          (λ b. cond b (Some opened) (database_of q old) ≡ Some database → HasFile (among (before ++ name ∷ []) held) database) [
            | true ↦ λ e. (let same : opened ≡ database = cc in subst (λ d. HasFile (among (before ++ name ∷ []) held) d) same
                (record { stored = adds.stored; bytes = bytes; text = adds.file.text; there = file_there; is = refl }))
            | false ↦ λ e. has_more before name held database (stands.each_database q database e)
          ] (sym (database_of-with_new q opened old none) ∙ found);
      owner = subst (λ found. IsUserOf found user) (sym (among-other before name held device_info_file no_info)) stands.owner;
    })

-- one more file that is read
pub stand_added : (held : FileMap) (before : List (List ℕ)) (name bytes : List ℕ) (old new : List DatabaseValue) (user user' : UserInfo)
    → finmap.get held name ≡ Some bytes → is_handheld_file name ≡ true → AddsFile old user name bytes new user' → StandFor (among before held) old user
    → StandFor (among (before ++ name ∷ []) held) new user'
stand_added held before name bytes old new user user' there is_read adds stands = by (is_database_file name) refl adds
  where
    by : (b : Bool) → is_database_file name ≡ b → MatchBool b (AddsDatabase old name bytes new × (user' ≡ user)) (IsDeviceFile user' bytes × (new ≡ old))
        → StandFor (among (before ++ name ∷ []) held) new user'
    by true is did = subst (λ u. StandFor (among (before ++ name ∷ []) held) new u) (sym did.1)
        (stand_database held before name bytes old new user there is did.0 stands)
    by false is did =
        let info : name ≡ device_info_file = other_is_info name is_read is in
        let found : finmap.get held device_info_file ≡ Some bytes = ap (finmap.get held) (sym info) ∙ there in
        subst (λ n. StandFor (among (before ++ n ∷ []) held) new user') (sym info)
        (subst (λ ds. StandFor (among (before ++ device_info_file ∷ []) held) ds user') (sym did.1)
        (stand_info held before bytes old user user' found did.0 stands))

-- ---- all files of the folder

whole : (found : Option (List ℕ)) → cond (is_some found) found None ≡ found
whole None = refl
whole (Some bytes) = refl

pub among-keys : (held : FileMap) (q : List ℕ) → among (finmap.keys held) held q ≡ finmap.get held q
among-keys held q =
    let test : bytes_eq q ≡ eq_by_cmp (slice_cmp nat_cmp) q = λ i name. sym (is_eq-slice_cmp q name) i in
    ap (λ p. cond (list_any p (finmap.keys held)) (finmap.get held q) None) test
    ∙ ap (λ b. cond b (finmap.get held q) None) (sym (finmap.contains_key-keys held q)) ∙ whole (finmap.get held q)

pub stand_all : (held : FileMap) (names : List (List ℕ)) (databases : List DatabaseValue) (user : UserInfo) → names ≡ finmap.keys held
    → StandFor (among names held) databases user → StandFor (finmap.get held) databases user
stand_all held names databases user listed stands = stand_same (among names held) (finmap.get held) databases user
    (λ q. ap (λ ns. among ns held q) listed ∙ among-keys held q) stands
