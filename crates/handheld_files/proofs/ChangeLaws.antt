-- What a folder stands for once one of its files is replaced or removed.
use Rattle.std.proofs.Common.{◌≡◌, ℕ, Bool, true, false, cond, List, [], ◌∷◌, ◌++◌, ◌-◌, length-append, take, drop, length, refl, ap, sym, ◌∙◌, subst}
use Rattle.std.proofs.Common.{arith, rules}
use Rattle.std.specs.Prelude.{Option, Some, None, IfSome, bytes_eq, codes}
use Rattle.std.specs.FinMap as finmap
use Rattle.std.specs.FinMap.{get-insert, get-remove, nat_cmp-IsAntisymmetric, same_map, slice_cmp-IsAntisymmetric}
use Rattle.std.specs.Cmp.Lexicographic.{nat_list_cmp_total}
use Rattle.std.specs.Option.{option_map}
use Rattle.std.proofs.lemmas.Map.Text.{is_eq-slice_cmp}
use Rattle.hs_folders.specs.FileMaps.{FileMap}
use Rattle.pdb_values.specs.Databases.{DatabaseValue}
use Rattle.pdb_values.specs.NamedDatabases.{NamesRise, database_of, without_named}
use Rattle.pdb_values.specs.declared.head.DbHead.{DbHead}
use Rattle.pdb_values.specs.declared.user.UserInfo.{UserInfo}
use Rattle.pdb_values.proofs.NamedLaws.{NamesRise-without_named, bytes_eq-is, bytes_eq-own, database_of-name, database_of-without_named}
use Rattle.pdb_values.proofs.StemLaws.{stem_of_injective}
use Rattle.pdb_files.specs.Files.{IsFileText}
use Rattle.folder_files.specs.InfoFiles.{IsDeviceFile}
use Rattle.folder_files.specs.FileNames.{database_file, device_info_file, has_ending}
use Rattle.handheld_files.specs.Handhelds.{HasFile, IsHeld, IsUserOf, StandFor, is_database_file}
use Rattle.handheld_files.specs.Openings.{Stands}
use Rattle.handheld_files.specs.Settled.{are_settled, as_opened}
use Rattle.handheld_files.proofs.SettledLaws.{as_opened-settled, clash}
use Rattle.handheld_files.proofs.StandLaws.{as_opened-head, differs, info_is_none}
use Rattle.std.proofs.lemmas.Bool.{false_from_ne_true, or_left, or_right}
use Rattle.std.proofs.lemmas.Grind.{common_steps}
use Rattle.std.proofs.lemmas.Bool.Decides.{nat_tests}

-- ---- names of files

pub take_front : (xs ys : List ℕ) → take (length xs) (xs ++ ys) ≡ xs
take_front [] ys = refl
take_front (x ∷ xs) ys = ap (λ zs. x ∷ zs) (take_front xs ys)

pub drop_front : (xs ys : List ℕ) → drop (length xs) (xs ++ ys) ≡ ys
drop_front [] ys = refl
drop_front (x ∷ xs) ys = drop_front xs ys

behind_four : (xs ys : List ℕ) → length ys ≡ 4 → length (xs ++ ys) - 4 ≡ length xs
behind_four xs ys four = let all = length-append xs ys in omega arith

-- what stands in front of four bytes
front : List ℕ → List ℕ
front xs = take (length xs - 4) xs

front-append : (xs ys : List ℕ) → length ys ≡ 4 → front (xs ++ ys) ≡ xs
unfolding front
front-append xs ys four = ap (λ n. take n (xs ++ ys)) (behind_four xs ys four) ∙ take_front xs ys

same_front : (xs ys : List ℕ) (p q : Bool) → cond p (xs ++ codes ".prc") (xs ++ codes ".pdb") ≡ cond q (ys ++ codes ".prc") (ys ++ codes ".pdb") → xs ≡ ys
same_front xs ys true true same = sym (front-append xs (codes ".prc") refl) ∙ ap front same ∙ front-append ys (codes ".prc") refl
same_front xs ys true false same = sym (front-append xs (codes ".prc") refl) ∙ ap front same ∙ front-append ys (codes ".pdb") refl
same_front xs ys false true same = sym (front-append xs (codes ".pdb") refl) ∙ ap front same ∙ front-append ys (codes ".prc") refl
same_front xs ys false false same = sym (front-append xs (codes ".pdb") refl) ∙ ap front same ∙ front-append ys (codes ".pdb") refl

-- databases in one file have one name
pub database_file_name : (a b : DbHead) → database_file a ≡ database_file b → a.name ≡ b.name
database_file_name a b same = grind (arith, common_steps, nat_tests, stem_of_injective, same_front)

ends_in : (xs ys : List ℕ) → length ys ≡ 4 → drop (length (xs ++ ys) - 4) (xs ++ ys) ≡ ys
ends_in xs ys four = ap (λ n. drop n (xs ++ ys)) (behind_four xs ys four) ∙ drop_front xs ys

ends_in_pdb : (xs : List ℕ) → has_ending (codes ".pdb") (xs ++ codes ".pdb") ≡ true
ends_in_pdb xs = search (rules, ends_in)

ends_in_prc : (xs : List ℕ) → has_ending (codes ".prc") (xs ++ codes ".prc") ≡ true
ends_in_prc xs = search (rules, ends_in)

-- the file of a database is named as one
pub database_file_is : (head : DbHead) → is_database_file (database_file head) ≡ true
database_file_is head = grind (arith, common_steps, nat_tests, or_right, ends_in_prc, or_left, ends_in_pdb)

no_info : (head : DbHead) → bytes_eq device_info_file (database_file head) ≡ false
no_info head = differs device_info_file (database_file head) is_database_file false true info_is_none (database_file_is head) (λ h. absurd cc)

-- ---- a file that is replaced

got-insert : (held : FileMap) (file bytes q : List ℕ) → finmap.get (finmap.insert held file bytes) q ≡ cond (bytes_eq q file) (Some bytes) (finmap.get held q)
got-insert held file bytes q = get-insert nat_list_cmp_total held file bytes q ∙ ap (λ b. cond b (Some bytes) (finmap.get held q)) (is_eq-slice_cmp q file)

got-remove : (held : FileMap) (file q : List ℕ) → finmap.get (finmap.remove held file) q ≡ cond (bytes_eq q file) None (finmap.get held q)
got-remove held file q = get-remove nat_list_cmp_total held file q ∙ ap (λ b. cond b None (finmap.get held q)) (is_eq-slice_cmp q file)

-- A database that is new or has the head of the old one of its name is put among the databases, and its file among the files.
pub stand_put : (held : FileMap) (old new : List DatabaseValue) (database : DatabaseValue) (bytes : List ℕ) (user : UserInfo) → IsFileText database bytes
    → are_settled database.records ≡ true → NamesRise new
    → ((q : List ℕ) → database_of q new ≡ cond (bytes_eq database.head.name q) (Some database) (database_of q old))
    → ((was : DatabaseValue) → database_of database.head.name old ≡ Some was → was.head ≡ database.head)
    → StandFor (finmap.get held) old user → StandFor (finmap.get (finmap.insert held (database_file database.head) bytes)) new user
stand_put held old new database bytes user text settled rise look_up head stands =
    let file = database_file database.head in
    let after = finmap.get (finmap.insert held file bytes) in
    let opened : as_opened database ≡ database = as_opened-settled database settled in
    let this : database_of database.head.name new ≡ Some database = look_up database.head.name ∙ rw (bytes_eq-own database.head.name) refl in
    let there : after file ≡ Some bytes = got-insert held file bytes file ∙ rw (bytes_eq-own file) refl in
    let other : (q : List ℕ) → bytes_eq q file ≡ false → after q ≡ finmap.get held q = λ q e. got-insert held file bytes q ∙ rw e refl in
    record {
      order = rise;
      each_file = λ q found_bytes q_is found. elim (bytes_eq q file) as (λ b. bytes_eq q file ≡ b → IsHeld new q found_bytes) [
        | true ↦ λ e. (let here : q ≡ file = bytes_eq-is q file e in
            let same : found_bytes ≡ bytes = (let both : ◌≡◌ {A = Option (List ℕ)} (Some found_bytes) (Some bytes) = sym found ∙ ap after here ∙ there in cc) in
            subst (λ n. IsHeld new n found_bytes) (sym here)
            (subst (λ b. IsHeld new file b) (sym same)
            (record { stored = database; file = record { text = text; named = refl }; held = this ∙ ap Some (sym opened) })))
        | false ↦ λ e. (let was = stands.each_file q found_bytes q_is (sym (other q e) ∙ found) in
            let apart : bytes_eq database.head.name was.stored.head.name ≡ false = false_from_ne_true (bytes_eq database.head.name was.stored.head.name)
            (λ same.
            (let head_is : (as_opened was.stored).head ≡ database.head =
            head (as_opened was.stored) (ap (λ n. database_of n old) (bytes_eq-is database.head.name was.stored.head.name same) ∙ was.held) in
            let in_file : q ≡ file = was.file.named ∙ ap database_file (sym (as_opened-head was.stored) ∙ head_is) in
            clash (bytes_eq q file) (ap (λ n. bytes_eq q n) (sym in_file) ∙ bytes_eq-own q) e)) in
            record { stored = was.stored; file = was.file; held = look_up was.stored.head.name ∙ rw apart was.held })
      ] refl;
      each_database = λ q found is. elim (bytes_eq database.head.name q) as
          (λ b. bytes_eq database.head.name q ≡ b → cond b (Some database) (database_of q old) ≡ Some found → HasFile after found) [
            | true ↦ λ e h. (let same : database ≡ found = cc in subst (λ d. HasFile after d) same
                (record { stored = database; bytes = bytes; text = text; there = there; is = sym opened }))
            | false ↦ λ e h. (let was = stands.each_database q found h in
                let name : was.stored.head.name ≡ q = ap (λ (k : DbHead). k.name) (sym (as_opened-head was.stored))
                ∙ ap (λ (d : DatabaseValue). d.head.name) (sym was.is) ∙ database_of-name q old found h in
                let apart : bytes_eq (database_file was.stored.head) file ≡ false = false_from_ne_true (bytes_eq (database_file was.stored.head) file) (λ same.
                (let names : was.stored.head.name ≡ database.head.name = database_file_name was.stored.head database.head
                (bytes_eq-is (database_file was.stored.head) file same) in
                clash (bytes_eq database.head.name q) (ap (λ n. bytes_eq database.head.name n) (sym name ∙ names) ∙ bytes_eq-own database.head.name) e)) in
                record {
                  stored = was.stored;
                  bytes = was.bytes;
                  text = was.text;
                  there = other (database_file was.stored.head) apart ∙ was.there;
                  is = was.is;
                })
          ] refl (sym (look_up q) ∙ is);
      owner = subst (λ found. IsUserOf found user) (sym (other device_info_file (no_info database.head))) stands.owner;
    }

-- ---- a file that is removed

pub stand_gone : (held : FileMap) (databases : List DatabaseValue) (name : List ℕ) (database : DatabaseValue) (user : UserInfo)
    → database_of name databases ≡ Some database → StandFor (finmap.get held) databases user
    → StandFor (finmap.get (finmap.remove held (database_file database.head))) (without_named name databases) user
stand_gone held databases name database user here stands =
    let file = database_file database.head in
    let after = finmap.get (finmap.remove held file) in
    let own : database.head.name ≡ name = database_of-name name databases database here in
    let other : (q : List ℕ) → bytes_eq q file ≡ false → after q ≡ finmap.get held q = λ q e. got-remove held file q ∙ rw e refl in
    let look_up : (q : List ℕ) → database_of q (without_named name databases) ≡ cond (bytes_eq name q) None (database_of q databases) =
    λ q. database_of-without_named q name databases stands.order in
    record {
      order = NamesRise-without_named name databases stands.order;
      each_file = λ q bytes q_is found. elim (bytes_eq q file) as
          (λ b. bytes_eq q file ≡ b → cond b None (finmap.get held q) ≡ Some bytes → IsHeld (without_named name databases) q bytes) [
            | true ↦ λ e h. absurd cc
            | false ↦ λ e h. (let was = stands.each_file q bytes q_is h in
                let apart : bytes_eq name was.stored.head.name ≡ false = false_from_ne_true (bytes_eq name was.stored.head.name) (λ same.
                (let both : ◌≡◌ {A = Option DatabaseValue} (Some database) (Some (as_opened was.stored)) = sym here
                ∙ ap (λ n. database_of n databases) (bytes_eq-is name was.stored.head.name same) ∙ was.held in
                let is : database ≡ as_opened was.stored = cc in
                let in_file : q ≡ file = was.file.named ∙ ap database_file (sym (as_opened-head was.stored) ∙ ap (λ (d : DatabaseValue). d.head) (sym is)) in
                clash (bytes_eq q file) (ap (λ n. bytes_eq q n) (sym in_file) ∙ bytes_eq-own q) e)) in
                record { stored = was.stored; file = was.file; held = look_up was.stored.head.name ∙ rw apart was.held })
          ] refl (sym (got-remove held file q) ∙ found);
      each_database = λ q found is. elim (bytes_eq name q) as
          (λ b. bytes_eq name q ≡ b → cond b None (database_of q databases) ≡ Some found → HasFile after found) [
            | true ↦ λ e h. absurd cc
            | false ↦ λ e h. (let was = stands.each_database q found h in
                let named : was.stored.head.name ≡ q = ap (λ (k : DbHead). k.name) (sym (as_opened-head was.stored))
                ∙ ap (λ (d : DatabaseValue). d.head.name) (sym was.is) ∙ database_of-name q databases found h in
                let apart : bytes_eq (database_file was.stored.head) file ≡ false = false_from_ne_true (bytes_eq (database_file was.stored.head) file) (λ same.
                (let names : was.stored.head.name ≡ database.head.name = database_file_name was.stored.head database.head
                (bytes_eq-is (database_file was.stored.head) file same) in
                clash (bytes_eq name q) (ap (λ n. bytes_eq name n) (sym named ∙ names ∙ own) ∙ bytes_eq-own name) e)) in
                record {
                  stored = was.stored;
                  bytes = was.bytes;
                  text = was.text;
                  there = other (database_file was.stored.head) apart ∙ was.there;
                  is = was.is;
                })
          ] refl (sym (look_up q) ∙ is);
      owner = subst (λ found. IsUserOf found user) (sym (other device_info_file (no_info database.head))) stands.owner;
    }

-- ---- the information file

pub stand_user : (held : FileMap) (databases : List DatabaseValue) (user user' : UserInfo) (text : List ℕ) → IsDeviceFile user' text
    → StandFor (finmap.get held) databases user → StandFor (finmap.get (finmap.insert held device_info_file text)) databases user'
stand_user held databases user user' text file stands =
    let after = finmap.get (finmap.insert held device_info_file text) in
    let other : (q : List ℕ) → is_database_file q ≡ true → after q ≡ finmap.get held q = λ q is. got-insert held device_info_file text q
    ∙ rw (differs q device_info_file is_database_file true false is info_is_none (λ h. absurd cc)) refl in
    record {
      order = stands.order;
      each_file = λ q bytes q_is found. stands.each_file q bytes q_is (sym (other q q_is) ∙ found);
      each_database = λ q found is. (let was = stands.each_database q found is in
          record {
            stored = was.stored;
            bytes = was.bytes;
            text = was.text;
            there = other (database_file was.stored.head) (database_file_is was.stored.head)
                ∙ was.there;
            is = was.is;
          });
      owner = subst (λ found. IsUserOf found user') (sym (got-insert held device_info_file text device_info_file)) file;
    }

-- ---- where it is told

pub stands_put : (told told' : Option FileMap) (old new : List DatabaseValue) (database : DatabaseValue) (bytes : List ℕ) (user : UserInfo)
    → told' ≡ option_map (λ held. finmap.insert held (database_file database.head) bytes) told
    → IsFileText database bytes → are_settled database.records ≡ true → NamesRise new
    → ((q : List ℕ) → database_of q new ≡ cond (bytes_eq database.head.name q) (Some database) (database_of q old))
    → ((was : DatabaseValue) → database_of database.head.name old ≡ Some was → was.head ≡ database.head)
    → Stands told old user → Stands told' new user
stands_put told told' old new database bytes user is text settled rise look_up head stands = search (rules, stand_put)

pub stands_gone : (told told' : Option FileMap) (databases : List DatabaseValue) (name : List ℕ) (database : DatabaseValue) (user : UserInfo)
    → told' ≡ option_map (λ held. finmap.remove held (database_file database.head)) told → database_of name databases ≡ Some database
    → Stands told databases user → Stands told' (without_named name databases) user
stands_gone None told' databases name database user is here stands = subst (λ t. Stands t (without_named name databases) user) (sym is) tt
stands_gone (Some held) told' databases name database user is here stands = subst (λ t. Stands t (without_named name databases) user) (sym is)
    (stand_gone held databases name database user here stands)

pub stands_user : (told told' : Option FileMap) (databases : List DatabaseValue) (user user' : UserInfo) (text : List ℕ)
    → told' ≡ option_map (λ held. finmap.insert held device_info_file text) told → IsDeviceFile user' text
    → Stands told databases user → Stands told' databases user'
stands_user told told' databases user user' text is file stands = search (rules, stand_user)

-- a file that is missing is removed already
missing_gone : (held : FileMap) (file : List ℕ) → finmap.get held file ≡ None → finmap.remove held file ≡ held
missing_gone held file none = same_map nat_list_cmp_total (slice_cmp-IsAntisymmetric nat_cmp-IsAntisymmetric) (finmap.remove held file) held
    (λ q. got-remove held file q ∙ by q (bytes_eq q file) refl)
  where
    by : (q : List ℕ) (b : Bool) → bytes_eq q file ≡ b → cond b None (finmap.get held q) ≡ finmap.get held q
    by q true e = sym (ap (finmap.get held) (bytes_eq-is q file e) ∙ none)
    by q false e = refl

pub missing_is_gone : (told told' : Option FileMap) (file : List ℕ) → told' ≡ told → IfSome told (λ held. finmap.get held file ≡ None)
    → told' ≡ option_map (λ held. finmap.remove held file) told
missing_is_gone told told' file same none = grind (arith, common_steps, nat_tests, missing_gone)
