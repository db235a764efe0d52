-- The files of a desktop by slot, role and name: they differ, and a database that breaks no rule stands in its own.
use Rattle.std.proofs.Common.{◌≡◌, ◌<◌, ◌++◌, ◌∙◌, ℕ, zero, suc, Bool, List, [], ◌∷◌, true, false, cond, eqb, get_or, Option, None, Some}
use Rattle.std.proofs.Common.{Ok, Err, refl, sym, ap, subst, arith, rules}
use Rattle.std.specs.Prelude.{codes, option_and_then, reverse}
use Rattle.std.specs.Fmt.{decimal}
use Rattle.std.specs.List.{AllByRecursion}
use Rattle.std.specs.Option.{option_or}
use Rattle.std.proofs.lemmas.Bool.{and_parts, eqb-false, eqb-true}
use Rattle.std.proofs.lemmas.Fmt.{decimal_injective}
use Rattle.std.proofs.lemmas.List.{append_assoc, append_cancel_right, reverse-append}
use Rattle.pdb_values.specs.Databases.{DatabaseValue}
use Rattle.pdb_values.specs.Stems.{hex_digit, is_plain, stem_byte, stem_of}
use Rattle.pdb_values.proofs.NamedLaws.{bytes_eq-is}
use Rattle.pdb_values.proofs.StemLaws.{stem_of_injective}
use Rattle.pdb_files.specs.BadKinds.{bad_file}
use Rattle.pdb_files.specs.Files.{IsFileText}
use Rattle.pdb_files.specs.Reading.{database_in}
use Rattle.pdb_files.specs.declared.bad_kind.BadKind.{BadKind}
use Rattle.pdb_files.specs.declared.bad_kind.BadKind.TheVariants as kinds
use Rattle.pdb_files.proofs.FileLaws.{file-written}
use Rattle.folder_files.specs.FileNames.{journal_file, slot_prefix}
use Rattle.folder_files.proofs.ValueLaws.{count_cases}
use Rattle.desk_journal.specs.Overlays.{bad_of}
use Rattle.desk_journal.specs.declared.bad_journal.BadJournal.{BadJournal}
use Rattle.desk_journal.proofs.StepLaws.{all-append}
use Rattle.desk_store.specs.DeskFiles.{broken_rule, by_role, file_in, if_journal, if_own, if_slot, is_own_file, other_in, own_slot, role_of}
use Rattle.desk_store.specs.DeskFiles.{slot_file}
use Rattle.desk_store.specs.Shelves.{if_bad}
use Rattle.desk_store.specs.declared.file.DeskFile.TheVariants as files
use Rattle.desk_store.specs.declared.role.Role.{Role}
use Rattle.desk_store.specs.declared.role.Role.TheVariants.{Rows, Base, Archive}
use Rattle.std.proofs.lemmas.Grind.{common_steps}
use Rattle.std.proofs.lemmas.Bool.Decides.{nat_tests}

-- ---- endings

-- the ending of a role, and what stands in front of it
abbrev pub ending_of : Role → List ℕ
ending_of Rows = codes ".pdb"
ending_of Base = codes ".base"
ending_of Archive = codes ".arc"

abbrev pub slot_stem : ℕ → List ℕ → List ℕ
slot_stem slot name = slot_prefix slot ++ stem_of name

pub slot_file-ends : (slot : ℕ) (role : Role) (name : List ℕ) → slot_file slot role name ≡ slot_stem slot name ++ ending_of role
slot_file-ends slot role name = grind (arith, common_steps, nat_tests, append_assoc)

abbrev pub last_byte : List ℕ → ℕ
last_byte text = get_or (reverse text) 0 0

pub last_byte-append : (front : List ℕ) (role : Role) → last_byte (front ++ ending_of role) ≡ last_byte (ending_of role)
last_byte-append front role = grind (arith, common_steps, nat_tests, reverse-append)

same_ending : (role other : Role) → last_byte (ending_of role) ≡ last_byte (ending_of other) → role ≡ other
same_ending role other e = grind (arith, common_steps, nat_tests)

-- ---- the dot behind the number of a slot

abbrev NotDot : ℕ → Type 0
NotDot byte = byte ≡ 46 → ⊥

plain_no_dot : (byte : ℕ) → is_plain byte ≡ true → NotDot byte
plain_no_dot byte plain e = let dot : is_plain 46 ≡ true = ap is_plain (sym e) ∙ plain in cc dot

digit_no_dot : (number : ℕ) → NotDot (hex_digit number)
digit_no_dot number = search (rules)

stem_byte-no_dot : (byte : ℕ) → AllByRecursion NotDot (stem_byte byte)
unfolding stem_byte
stem_byte-no_dot byte = search (rules, plain_no_dot, digit_no_dot)

stem-no_dot : (name : List ℕ) → AllByRecursion NotDot (stem_of name)
stem-no_dot [] = tt
stem-no_dot (byte ∷ name) = all-append NotDot (stem_byte byte) (stem_of name) (stem_byte-no_dot byte) (stem-no_dot name)

number-no_dot : (number : ℕ) → number < 20 → AllByRecursion NotDot (115 ∷ decimal number)
number-no_dot number few = (
  λ e. omega (arith, e),
  count_cases (AllByRecursion NotDot) number few (λ less. (λ e. omega (arith, e), tt))
      (λ more. (λ e. omega (arith, e), (λ e. omega (arith, e), tt))),
)

no_dot-middle : (front back : List ℕ) → AllByRecursion NotDot (front ++ 46 ∷ back) → ⊥
no_dot-middle [] back none = none.0 refl
no_dot-middle (byte ∷ front) back none = no_dot-middle front back none.1

split_dot : {back rest : List ℕ} (front other : List ℕ) → AllByRecursion NotDot front → AllByRecursion NotDot other → front ++ 46 ∷ back ≡ other ++ 46 ∷ rest
    → (front ≡ other) × (back ≡ rest)
split_dot [] [] none free e = (refl, cc)
split_dot [] (byte ∷ other) none free e = let same : 46 ≡ byte = cc in absurd (free.0 (sym same))
split_dot (byte ∷ front) [] none free e = let same : byte ≡ 46 = cc in absurd (none.0 same)
split_dot {back} {rest} (byte ∷ front) (first ∷ other) none free e =
    let heads : byte ≡ first = cc in
    let tails : front ++ 46 ∷ back ≡ other ++ 46 ∷ rest = cc in
    let later = split_dot front other none.1 free.1 tails in
    (ap (λ (b : ℕ). b ∷ front) heads ∙ ap (λ (bs : List ℕ). first ∷ bs) later.0, later.1)

dotted : (slot : ℕ) (name : List ℕ) → slot_stem (suc slot) name ≡ (115 ∷ decimal (suc slot)) ++ 46 ∷ stem_of name
dotted slot name = grind (arith, common_steps, nat_tests, append_assoc)

same_stem : (slot other : ℕ) (name named : List ℕ) → slot < 16 → other < 16 → slot_stem slot name ≡ slot_stem other named → (slot ≡ other) × (name ≡ named)
same_stem slot other name named few less e =
    grind (arith, common_steps, nat_tests, stem_of_injective, no_dot-middle, dotted, stem-no_dot, split_dot, number-no_dot, decimal_injective)

-- the files of two slots, of two roles, or of two names, differ
pub same_file : (slot other : ℕ) (role own : Role) (name named : List ℕ) → slot < 16 → other < 16 → slot_file slot role name ≡ slot_file other own named
    → (slot ≡ other) × (role ≡ own) × (name ≡ named)
same_file slot other role own name named few less e =
    let texts : slot_stem slot name ++ ending_of role ≡ slot_stem other named ++ ending_of own = sym (slot_file-ends slot role name)
    ∙ (e ∙ slot_file-ends other own named) in
    let roles : role ≡ own = same_ending role own
    (sym (last_byte-append (slot_stem slot name) role) ∙ (ap last_byte texts ∙ last_byte-append (slot_stem other named) own)) in
    let stems = same_stem slot other name named few less
    (append_cancel_right (slot_stem slot name) (slot_stem other named) (ending_of role)
    (texts ∙ ap (λ (r : Role). slot_stem other named ++ ending_of r) (sym roles))) in
    (stems.0, roles, stems.1)

-- ---- the slot of a database

is_own : (slot : ℕ) (role : Role) (name : List ℕ) (database : DatabaseValue) → is_own_file slot role name database ≡ true
    → name ≡ slot_file slot role database.head.name
is_own slot role name database own = grind (arith, common_steps, nat_tests, bytes_eq-is, and_parts)

-- the slot is one of so many, and the file bears the name that the database asks for there
pub record IsOwn (slots slot : ℕ) (role : Role) (name : List ℕ) (database : DatabaseValue) : Type 0 where
  pub within : slot < slots
  pub named : name ≡ slot_file slot role database.head.name

pub own_slot-is : (slots slot : ℕ) (role : Role) (name : List ℕ) (database : DatabaseValue) → own_slot slots role name database ≡ Some slot
    → IsOwn slots slot role name database
own_slot-is zero slot role name database e = absurd cc
own_slot-is (suc slots) slot role name database e = by (own_slot slots role name database) (own_slot-is slots slot role name database) refl
    (is_own_file slots role name database) refl e
  where
    by : (before : Option ℕ) → (own_slot slots role name database ≡ Some slot → IsOwn slots slot role name database)
        → own_slot slots role name database ≡ before → (here : Bool) → is_own_file slots role name database ≡ here
        → option_or before (cond here (Some slots) None) ≡ Some slot → IsOwn (suc slots) slot role name database
    by (Some earlier) found was here is e =
        let same : earlier ≡ slot = cc in
        let it = found (was ∙ ap (λ (k : ℕ). Some k) same) in
        record { within = omega (arith, it.within); named = it.named }
    by None found was true is e =
        let same : slots ≡ slot = cc in
        record { within = omega (arith, same); named = subst (λ (k : ℕ). name ≡ slot_file k role database.head.name) same (is_own slots role name database is) }
    by None found was false is e = absurd cc

pub own_slot-some : (slots slot : ℕ) (role : Role) (name : List ℕ) (database : DatabaseValue) → slot < slots → is_own_file slot role name database ≡ true
    → (found : ℕ) × (own_slot slots role name database ≡ Some found)
own_slot-some zero slot role name database less own = absurd (omega arith)
own_slot-some (suc slots) slot role name database less own = by (own_slot slots role name database) (own_slot-some slots slot role name database) refl
    (is_own_file slots role name database) refl
  where
    by : (before : Option ℕ) → (slot < slots → is_own_file slot role name database ≡ true → (found : ℕ) × (own_slot slots role name database ≡ Some found))
        → own_slot slots role name database ≡ before → (here : Bool) → is_own_file slots role name database ≡ here
        → (found : ℕ) × (option_or before (cond here (Some slots) None) ≡ Some found)
    by (Some earlier) later was here is = (earlier, refl)
    by None later was true is = (slots, refl)
    by None later was false is =
        let other : slot ≡ slots → ⊥ = λ e. cc (sym is, ap (λ (k : ℕ). is_own_file k role name database) (sym e) ∙ own) in
        let earlier = later (omega arith) own in
        absurd (cc (sym was ∙ earlier.1))

-- the first slot whose own file it is
pub own_slot-first : (slots slot : ℕ) (role : Role) (name : List ℕ) (database : DatabaseValue) → slot < slots → own_slot slot role name database ≡ None
    → is_own_file slot role name database ≡ true → own_slot slots role name database ≡ Some slot
own_slot-first zero slot role name database less none own = absurd (omega arith)
own_slot-first (suc slots) slot role name database less none own = by (eqb slot slots) refl (own_slot-first slots slot role name database)
  where
    by : (b : Bool) → eqb slot slots ≡ b → (slot < slots → own_slot slot role name database ≡ None → is_own_file slot role name database ≡ true
        → own_slot slots role name database ≡ Some slot)
        → option_or (own_slot slots role name database) (cond (is_own_file slots role name database) (Some slots) None) ≡ Some slot
    by true same later =
        let here : slot ≡ slots = eqb-true slot slots same in
        subst (λ (k : ℕ). option_or (own_slot k role name database) (cond (is_own_file k role name database) (Some k) None) ≡ Some slot) here
        (rw (none, own) refl)
    by false other later = let apart = eqb-false slot slots other in rw (later (omega arith) none own) refl

-- nor is it that of the next slot
pub own_slot-next : (slot : ℕ) (role : Role) (name : List ℕ) (database : DatabaseValue) → own_slot slot role name database ≡ None
    → is_own_file slot role name database ≡ false → own_slot (suc slot) role name database ≡ None
own_slot-next slot role name database none own = rw (none, own) refl

-- ---- by what a file holds

no_rule : {database : DatabaseValue} {bytes : List ℕ} → IsFileText database bytes → broken_rule bytes ≡ None
no_rule {database} {bytes} text = ap (option_and_then bad_file) (file-written database bytes text).none

pub own_file : (slot : Option ℕ) (role : Role) {bytes : List ℕ} {database : DatabaseValue} → IsFileText database bytes
    → if_own role (database_in bytes) slot (broken_rule bytes) ≡ if_slot role database slot
own_file slot role {bytes} {database} text = let reads = (file-written database bytes text).reads in rw (no_rule text, reads) refl

pub own_read : (slots : ℕ) {slot : Option ℕ} (role : Role) {bytes : List ℕ} (name : List ℕ) {database : DatabaseValue} → IsFileText database bytes
    → own_slot slots role name database ≡ slot
    → if_own role (database_in bytes) (own_slot slots role name (database_in bytes)) (broken_rule bytes) ≡ if_slot role database slot
own_read slots role {bytes} name {database} text own =
    own_file (own_slot slots role name (database_in bytes)) role text
    ∙ ap (if_slot role database) (ap (own_slot slots role name) (file-written database bytes text).reads ∙ own)

other_no_database : (name bytes : List ℕ) {slot : ℕ} {role : Role} {database : DatabaseValue} → other_in name bytes ≡ Ok (files.Database slot role database) → ⊥
other_no_database name bytes e = search (rules)

if_own-is : (own : Role) (read : DatabaseValue) (place : Option ℕ) (rule : Option (BadKind × ℕ)) {slot : ℕ} {role : Role} {database : DatabaseValue}
    → if_own own read place rule ≡ Ok (files.Database slot role database) → (place ≡ Some slot) × (own ≡ role) × (read ≡ database)
if_own-is own read place rule e = grind (arith, common_steps, nat_tests)

-- a database stands in its own file of a slot
pub database_is_own : (slots : ℕ) (name bytes : List ℕ) {slot : ℕ} {role : Role} {database : DatabaseValue}
    → file_in slots name bytes ≡ Ok (files.Database slot role database) → IsOwn slots slot role name database
unfolding file_in
database_is_own slots name bytes {slot} {role} {database} e = by_kind (role_of name) e
  where
    by_kind : (kind : Option Role) → by_role slots kind name bytes ≡ Ok (files.Database slot role database) → IsOwn slots slot role name database
    by_kind (Some own) h =
        let is = if_own-is own (database_in bytes) (own_slot slots own name (database_in bytes)) (broken_rule bytes) h in
        subst (λ (d : DatabaseValue). IsOwn slots slot role name d) is.2
        (subst (λ (r : Role). IsOwn slots slot r name (database_in bytes)) is.1 (own_slot-is slots slot own name (database_in bytes) is.0))
    by_kind None h = absurd (other_no_database name bytes h)

good_slot : (role : Role) (read : DatabaseValue) (place : Option ℕ) (rule : Option (BadKind × ℕ)) → if_bad (if_own role read place rule) ≡ None
    → (slot : ℕ) × (place ≡ Some slot) × (if_own role read place rule ≡ Ok (files.Database slot role read))
good_slot role read place rule good = grind (arith, common_steps, nat_tests)

-- a good file whose name has the ending of a role holds a database
pub good_database : (slots : ℕ) {role : Role} (name bytes : List ℕ) → role_of name ≡ Some role → if_bad (file_in slots name bytes) ≡ None
    → (slot : ℕ) × (file_in slots name bytes ≡ Ok (files.Database slot role (database_in bytes)))
unfolding file_in
good_database slots name bytes kind good = grind (arith, common_steps, nat_tests, good_slot)

-- what is good stays so with one slot more
pub good_grows : (slots : ℕ) (name bytes : List ℕ) → if_bad (file_in slots name bytes) ≡ None → file_in (suc slots) name bytes ≡ file_in slots name bytes
unfolding file_in
good_grows slots name bytes good = search (rules, good_slot)

-- a journal out of its form is a bad file
pub journal_is_bad : (slots : ℕ) (bytes : List ℕ) {bad : BadJournal} → bad_of (Some bytes) ≡ Some bad
    → file_in slots journal_file bytes ≡ Err (record { kind = kinds.Journal; place = bad.place })
unfolding file_in
journal_is_bad slots bytes e = ap if_journal e
