-- Journals: what is read has the bytes as its text, and each journal is read.
use Rattle.std.proofs.lemmas.Bool.Decides.{nat_tests}
use Rattle.std.proofs.lemmas.Grind.{common_steps}
use Rattle.std.proofs.Common.{◌≡◌, ℕ, zero, suc, ◌+◌, ◌^◌, ◌<◌, ◌≤◌, Bool, true, false, cond, eqb, ltb, List, [], ◌∷◌, ◌++◌, length, take, drop, get_or, Option}
use Rattle.std.proofs.Common.{Some, None, Result, Ok, Err, refl, sym, ap, subst, ◌∙◌, arith}
use Rattle.std.specs.Prelude.{◌&&◌, ◌||◌, not, option_and_then, IfOk}
use Rattle.std.specs.Global.{Vec}
use Rattle.std.specs.Int.{w16, w32, from_be_bytes, to_be_bytes}
use Rattle.std.specs.List.{flat_map, starts_with}
use Rattle.std.specs.Option.{option_map}
use Rattle.std.specs.Str.{IsUtf8, is_utf8}
use Rattle.std.proofs.lemmas.Bool.{ltb-false, le-ltb}
use Rattle.std.proofs.lemmas.List.{append_assoc, append-nil, drop-drop, drop_at, take-append-drop, length-append, length-take, length-drop, get_or-drop}
use Rattle.std.proofs.lemmas.Nat.{be_bytes_2, be_bytes_4, from_be_bytes-to_be_bytes_2, from_be_bytes-to_be_bytes_4}
use Rattle.std.proofs.lemmas.Str.{IsUtf8-from_is_utf8, is_utf8-from_IsUtf8}
use Rattle.folder_files.specs.FileNames.{is_kept_file}
use Rattle.desk_journal.specs.declared.bad_journal.BadJournal.{BadJournal}
use Rattle.desk_journal.specs.declared.entry.Entry.{Entry}
use Rattle.desk_journal.specs.declared.fault.JournalFault.{JournalFault}
use Rattle.desk_journal.specs.Entries.{AreEntries, EntryValue, IsEntry, IsJournal, entry_text, entry_values, is_named, journal_text, mark}
use Rattle.desk_journal.specs.Reading.{Reads, data_at, entries_at, entry_at, journal_in, kept_in, name_at, or_left, placed, some_at}
use Rattle.pdb_values.proofs.NamedLaws.{bytes_eq-is}

-- ---- steps that did not fail

pub bind_some : {A B : Type 0} (o : Option A) (f : A → Option B) {y : B} → option_and_then f o ≡ Some y → (x : A) × (o ≡ Some x) × (f x ≡ Some y)
bind_some o f e = grind arith

pub map_some : {A B : Type 0} (o : Option A) (f : A → B) {y : B} → option_map f o ≡ Some y → (x : A) × (o ≡ Some x) × (f x ≡ y)
map_some o f e = grind arith

pub guard_some : {A : Type 0} (b : Bool) (o : Option A) {y : A} → cond b None o ≡ Some y → (b ≡ false) × (o ≡ Some y)
guard_some b o e = grind arith

pub test_some : {A : Type 0} (b : Bool) (o : Option A) {y : A} → cond b o None ≡ Some y → (b ≡ true) × (o ≡ Some y)
test_some b o e = grind arith

pub some_is : {A : Type 0} (x : A) {y : A} → (let o : Option A = Some x in o) ≡ Some y → x ≡ y
some_is x e = cc

pub both_true : (a b : Bool) → (a && b) ≡ true → (a ≡ true) × (b ≡ true)
both_true a b e = grind arith

neither : (a b : Bool) → (a || not b) ≡ false → (a ≡ false) × (b ≡ true)
neither a b e = grind arith

-- ---- bytes

abbrev pub IsBytes : List ℕ → Type 0
IsBytes bytes = (i : ℕ) → get_or bytes i 0 < 256

in_back : (front back : List ℕ) → IsBytes (front ++ back) → IsBytes back
in_back front back fits = subst IsBytes (drop_at front back (length front) refl) (λ i. rw get_or-drop (fits (length front + i)))

in_front : (front back : List ℕ) → IsBytes (front ++ back) → IsBytes front
in_front [] back fits i = omega arith
in_front (b ∷ front) back fits zero = fits 0
in_front (b ∷ front) back fits (suc i) = in_front front back (λ k. fits (suc k)) i

some_found : (count : ℕ) (bytes : List ℕ) {parts : List ℕ × List ℕ} → some_at count bytes ≡ Some parts → (bytes ≡ parts.0 ++ parts.1) × (length parts.0 ≡ count)
unfolding some_at
some_found count bytes e = grind (arith, nat_tests, common_steps)

some_only : (front back : List ℕ) {count : ℕ} → length front ≡ count → some_at count (front ++ back) ≡ Some (front, back)
unfolding some_at
some_only front back len = grind (arith, nat_tests, common_steps)

-- ---- entries

name_found : (bytes : List ℕ) {parts : List ℕ × List ℕ} → IsBytes bytes → name_at bytes ≡ Some parts
    → (bytes ≡ length parts.0 ∷ parts.0 ++ parts.1) × (length parts.0 < 2 ^ 8) × (is_utf8 parts.0 ≡ true) × (is_kept_file parts.0 ≡ true)
unfolding name_at
name_found [] fits e = absurd cc
name_found (count ∷ bytes) fits e =
    let some = bind_some (some_at count bytes) _ e in
    let cut = some_found count bytes some.1 in
    let name = map_some (kept_in some.0.0) _ some.2 in
    let test = test_some (is_utf8 some.0.0 && is_kept_file some.0.0) (Some some.0.0) name.1 in
    let is = both_true _ _ test.0 in
    let small : count < 256 = fits 0 in
    subst (λ (p : List ℕ × List ℕ). (count ∷ bytes ≡ length p.0 ∷ p.0 ++ p.1) × (length p.0 < 2 ^ 8) × (is_utf8 p.0 ≡ true) × (is_kept_file p.0 ≡ true))
    (ap (λ (n : List ℕ). (n, some.0.1)) (some_is some.0.0 test.1) ∙ name.2)
    (ap (λ (xs : List ℕ). count ∷ xs) cut.0 ∙ ap (λ (n : ℕ). n ∷ some.0.0 ++ some.0.1) (sym cut.1), omega (arith, cut.1), is.0, is.1)

name_only : (name rest : List ℕ) → is_utf8 name ≡ true → is_kept_file name ≡ true → name_at (length name ∷ name ++ rest) ≡ Some (name, rest)
unfolding name_at
name_only name rest utf8 kept = rw (some_only name rest {count = length name} refl, utf8, kept) refl

data_found : (bytes : List ℕ) {parts : List ℕ × List ℕ} → IsBytes bytes → data_at bytes ≡ Some parts
    → (bytes ≡ to_be_bytes w32 (length parts.0) ++ (parts.0 ++ parts.1)) × (length parts.0 < 2 ^ 32)
unfolding data_at
data_found bytes {parts} fits e =
    let size = bind_some (some_at 4 bytes) _ e in
    let cut = some_found 4 bytes size.1 in
    let some = some_found (from_be_bytes w32 size.0.0) size.0.1 size.2 in
    let front : IsBytes size.0.0 = in_front size.0.0 size.0.1 (subst IsBytes cut.0 fits) in
    let back : to_be_bytes w32 (length parts.0) ≡ size.0.0 = be_bytes_4 size.0.0 (length parts.0) cut.1 front some.1 in
    let below : from_be_bytes w32 size.0.0 < 2 ^ 32 = omega (arith, front 0, front 1, front 2, front 3) in
    (cut.0 ∙ (ap (λ (xs : List ℕ). xs ++ size.0.1) (sym back) ∙ ap (λ (xs : List ℕ). to_be_bytes w32 (length parts.0) ++ xs) some.0), omega (arith, some.1))

data_only : (bytes rest : List ℕ) → length bytes < 2 ^ 32 → data_at (to_be_bytes w32 (length bytes) ++ (bytes ++ rest)) ≡ Some (bytes, rest)
unfolding data_at
data_only bytes rest small =
    cc (
      some_only (to_be_bytes w32 (length bytes)) (bytes ++ rest) {count = 4} refl,
      from_be_bytes-to_be_bytes_4 (length bytes) small,
      some_only bytes rest {count = length bytes} refl,
    )

regroup : (entry : EntryValue) (rest : List ℕ)
    → length entry.name ∷ entry.name ++ (to_be_bytes w32 (length entry.bytes) ++ (entry.bytes ++ rest)) ≡ entry_text entry ++ rest
regroup entry rest = grind (arith, append_assoc)

entry_found : (before : List EntryValue) (bytes : List ℕ) {found : EntryValue × List ℕ} → IsBytes bytes → entry_at before bytes ≡ Some found
    → (bytes ≡ entry_text found.0 ++ found.1) × IsEntry found.0 × (is_named before found.0.name ≡ false)
unfolding entry_at
entry_found before bytes fits e =
    let name = bind_some (name_at bytes) _ e in
    let named = name_found bytes fits name.1 in
    let held = bind_some (data_at name.0.1) _ name.2 in
    let back : IsBytes name.0.1 = in_back (length name.0.0 ∷ name.0.0) name.0.1 (subst IsBytes named.0 fits) in
    let holds = data_found name.0.1 back held.1 in
    let other = guard_some (is_named before name.0.0) _ held.2 in
    let entry : EntryValue = record { name = name.0.0; bytes = held.0.0 } in
    subst (λ (f : EntryValue × List ℕ). (bytes ≡ entry_text f.0 ++ f.1) × IsEntry f.0 × (is_named before f.0.name ≡ false))
    (some_is (entry, held.0.1) other.1) (
      named.0 ∙ (ap (λ (xs : List ℕ). length name.0.0 ∷ name.0.0 ++ xs) holds.0 ∙ regroup entry held.0.1),
      record { short_name = named.1; utf8 = named.2; kept = named.3; short_bytes = holds.1 },
      other.0,
    )

entry_only : (before : List EntryValue) {entry : EntryValue} (rest : List ℕ) → IsEntry entry → is_named before entry.name ≡ false
    → entry_at before (entry_text entry ++ rest) ≡ Some (entry, rest)
unfolding entry_at
entry_only before rest is new = grind (arith, nat_tests, common_steps, regroup, name_only, data_only)

-- the entries behind those before
pub record ReadsMore (count : ℕ) (before all : List EntryValue) (bytes : List ℕ) : Type 0 where
  pub more : List EntryValue
  pub is : all ≡ before ++ more
  pub text : bytes ≡ flat_map entry_text more
  pub number : length more ≡ count
  pub form : AreEntries before more

next_found : (count : ℕ) (before : List EntryValue) (bytes : List ℕ) {all : List EntryValue} → IsBytes bytes → (o : Option (EntryValue × List ℕ))
    → entry_at before bytes ≡ o
    → or_left bytes (λ f. entries_at count (before ++ f.0 ∷ []) f.1) o ≡ Ok all
    → ((f : EntryValue × List ℕ) → IsBytes f.1 → entries_at count (before ++ f.0 ∷ []) f.1 ≡ Ok all → ReadsMore count (before ++ f.0 ∷ []) all f.1)
    → ReadsMore (suc count) before all bytes
next_found count before bytes fits None is got later = absurd cc
next_found count before bytes fits (Some f) is got later =
    let first = entry_found before bytes fits is in
    let more = later f (in_back (entry_text f.0) f.1 (subst IsBytes first.0 fits)) got in
    record {
      more = f.0 ∷ more.more;
      is = more.is ∙ append_assoc before (f.0 ∷ []) more.more;
      text = first.0 ∙ ap (λ (xs : List ℕ). entry_text f.0 ++ xs) more.text;
      number = ap suc more.number;
      form = (first.1, first.2, more.form);
    }

entries_found : (count : ℕ) (before : List EntryValue) (bytes : List ℕ) {all : List EntryValue} → IsBytes bytes → entries_at count before bytes ≡ Ok all
    → ReadsMore count before all bytes
unfolding entries_at
entries_found zero before bytes {all} fits e = grind (arith, nat_tests, common_steps)
entries_found (suc count) before bytes fits e = grind (arith, nat_tests, common_steps, entries_found count, next_found)

entries_only : (more before : List EntryValue) → AreEntries before more → entries_at (length more) before (flat_map entry_text more) ≡ Ok (before ++ more)
unfolding entries_at
entries_only [] before form = ap Ok (sym (append-nil before))
entries_only (entry ∷ more) before form = grind (arith, nat_tests, common_steps, entries_only more (before ++ entry ∷ []), entry_only, append_assoc)

-- ---- journals

pub placed_is : (bytes : List ℕ) (r : Result (List EntryValue) ℕ) {entries : List EntryValue} → placed bytes r ≡ Ok entries → r ≡ Ok entries
placed_is bytes r e = grind arith

pub front_is : (b : Bool) (bad : BadJournal) (r : Result (List EntryValue) BadJournal) {entries : List EntryValue} → cond b (Err bad) r ≡ Ok entries
    → (b ≡ false) × (r ≡ Ok entries)
front_is b bad r e = grind arith

pub journal_found : (bytes : List ℕ) {entries : List EntryValue} → IsBytes bytes → journal_in bytes ≡ Ok entries
    → IsJournal entries × (bytes ≡ journal_text entries)
unfolding journal_in
journal_found bytes {entries} fits e =
    let front = front_is _ _ _ e in
    let is = neither (ltb (length bytes) 6) (starts_with eqb bytes mark) front.0 in
    let long : 6 ≤ length bytes = ltb-false _ _ is.0 in
    let marked : mark ≡ take 4 bytes = bytes_eq-is mark (take 4 bytes) is.1 in
    let number : List ℕ = take 2 (drop 4 bytes) in
    let two : length number ≡ 2 = omega (arith, length-take 2 (drop 4 bytes), length-drop 4 bytes) in
    let cut : bytes ≡ take 4 bytes ++ (number ++ drop 6 bytes) =
    sym (take-append-drop 4 bytes) ∙ ap (λ (xs : List ℕ). take 4 bytes ++ xs)
    (sym (take-append-drop 2 (drop 4 bytes)) ∙ ap (λ (xs : List ℕ). number ++ xs) (drop-drop 2 4 bytes)) in
    let behind : IsBytes (number ++ drop 6 bytes) = in_back (take 4 bytes) (number ++ drop 6 bytes) (subst IsBytes cut fits) in
    let read = entries_found (from_be_bytes w16 number) [] (drop 6 bytes) (in_back number (drop 6 bytes) behind) (placed_is bytes _ front.1) in
    let digits : IsBytes number = in_front number (drop 6 bytes) behind in
    let count : to_be_bytes w16 (length entries) ≡ number = be_bytes_2 number (length entries) two digits (ap length read.is ∙ read.number) in
    let few : from_be_bytes w16 number < 2 ^ 16 = omega (arith, digits 0, digits 1) in (
      (omega (arith, ap length read.is, read.number), subst (AreEntries []) (sym read.is) read.form),
      cut ∙ (ap (λ (xs : List ℕ). xs ++ (number ++ drop 6 bytes)) (sym marked) ∙ ap (λ (xs : List ℕ). mark ++ xs)
          (ap (λ (xs : List ℕ). xs ++ drop 6 bytes) (sym count) ∙ ap (λ (xs : List ℕ). to_be_bytes w16 (length entries) ++ xs)
          (read.text ∙ ap (flat_map entry_text) (sym read.is)))),
    )

pub journal_only : (entries : List EntryValue) → IsJournal entries → journal_in (journal_text entries) ≡ Ok entries
unfolding journal_in
journal_only entries is = grind (arith, le-ltb, length-append, from_be_bytes-to_be_bytes_2, entries_only)

-- ---- of an answer

pub found_of : (answer : Result (Vec Entry) JournalFault) (bytes : List ℕ) → IsBytes bytes → Reads answer (journal_in bytes)
    → IfOk answer (λ entries. IsJournal (entry_values entries.items) × (bytes ≡ journal_text (entry_values entries.items)))
found_of answer bytes fits reads = grind (arith, journal_found)

pub only_of : (answer : Result (Vec Entry) JournalFault) {bytes : List ℕ} (entries : List EntryValue) → Reads answer (journal_in bytes) → IsJournal entries
    → bytes ≡ journal_text entries → Reads answer (Ok entries)
only_of answer entries reads is text = grind (arith, journal_only)

-- ---- names in UTF-8

pub kept_when : (bytes : List ℕ) → IsUtf8 bytes → is_kept_file bytes ≡ true → kept_in bytes ≡ Some bytes
kept_when bytes utf8 kept = rw (is_utf8-from_IsUtf8 bytes utf8, kept) refl

pub kept_not : (bytes : List ℕ) → ¬ (IsUtf8 bytes) → kept_in bytes ≡ None
kept_not bytes other = grind (arith, IsUtf8-from_is_utf8)
