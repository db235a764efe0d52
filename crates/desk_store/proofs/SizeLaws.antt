-- How long the files of a change are.
use Rattle.std.proofs.Common.{◌≡◌, ℕ, zero, suc, inl, inr, ◌+◌, ◌*◌, ◌^◌, ◌<◌, ◌≤◌, ltb, Bool, true, false, List, [], ◌∷◌, length, None}
use Rattle.std.proofs.Common.{Some, refl, ap, arith, rules}
use Rattle.std.specs.Prelude.{◌||◌, cond, codes}
use Rattle.std.specs.Fmt.{decimal}
use Rattle.std.proofs.lemmas.Fmt.{length-decimal-le}
use Rattle.std.specs.List.{AllByRecursion, concat}
use Rattle.std.proofs.Math.Nat.{mul-suc}
use Rattle.std.proofs.lemmas.Bool.{ltb-false}
use Rattle.std.proofs.lemmas.List.{length-append, length-map}
use Rattle.hex.proofs.HexLemmas.{length-encode_with}
use Rattle.pdb_values.specs.Databases.{DatabaseValue}
use Rattle.pdb_values.specs.Names.{IsName}
use Rattle.pdb_values.specs.Stems.{stem_byte, stem_of}
use Rattle.pdb_values.specs.Users.{password_of}
use Rattle.pdb_values.specs.declared.head.DbHead.{DbHead}
use Rattle.pdb_values.specs.declared.user.Marks.{Marks}
use Rattle.pdb_values.specs.declared.record.Record.{Record}
use Rattle.pdb_files.specs.Blocks.{AreShort, begins_from}
use Rattle.pdb_files.specs.Entries.{record_data, record_entries, record_entry}
use Rattle.pdb_files.specs.Files.{IsFileText, canonical, file_text, has_resources}
use Rattle.pdb_files.specs.Headers.{header_text}
use Rattle.pdb_files.proofs.WriteLaws.{length-zeros_behind, length-block_list}
use Rattle.folder_files.specs.FileNames.{slot_prefix}
use Rattle.folder_files.specs.InfoFiles.{IsDesktopFile, desktop_forms, desktop_values, one_user_forms, one_user_values, parting_word, slot_forms, title_form}
use Rattle.folder_files.specs.InfoFiles.{with_parted}
use Rattle.folder_files.specs.Slots.{AllRise, SlotInfoValue}
use Rattle.folder_files.specs.declared.parted.Parted.{Parted}
use Rattle.folder_files.specs.declared.parted.Parting.{Parting}
use Rattle.folder_files.specs.declared.parted.Parting.TheVariants.{Apart, Unmet}
use Rattle.folder_files.specs.Hexadecimal.{bytes_text}
use Rattle.folder_files.specs.Lines.{AreLines, LineForm, ValueKind, Says, Value, Values}
use Rattle.desk_store.specs.DeskFiles.{slot_file}
use Rattle.desk_store.proofs.OwnLaws.{ending_of, slot_file-ends, slot_stem}
use Rattle.desk_store.specs.declared.role.Role.{Role}
use Rattle.desk_store.specs.declared.role.Role.TheVariants.{Rows}
use Rattle.std.proofs.lemmas.Grind.{common_steps}
use Rattle.std.proofs.lemmas.Bool.Decides.{nat_tests}

-- ---- names

stem_byte-length : (byte : ℕ) → length (stem_byte byte) ≤ 3
unfolding stem_byte
stem_byte-length byte = grind (arith, common_steps, nat_tests)

stem-length : (name : List ℕ) → length (stem_of name) ≤ 3 * length name
stem-length [] = omega arith
stem-length (byte ∷ name) = grind (arith, common_steps, nat_tests, length-append, stem_byte-length, stem-length name, mul-suc)

ending-length : (role : Role) → length (ending_of role) ≤ 5
ending-length Rows = omega arith
ending-length role = omega arith

prefix-length : (slot : ℕ) → slot < 16 → length (slot_prefix slot) ≤ 4
prefix-length zero few = omega arith
prefix-length (suc slot) few = omega (
  arith,
  length-append (decimal (suc slot)) (codes "."),
  length-decimal-le 2 (suc slot) (omega arith) (omega arith)
      (omega arith),
)

pub file-short : (slot : ℕ) (role : Role) {name : List ℕ} → slot < 16 → IsName name → length (slot_file slot role name) < 2 ^ 8
file-short slot role few is = grind (
  arith,
  common_steps,
  nat_tests,
  slot_file-ends,
  length-append,
  slot_stem,
  ending_of,
  stem-length,
  ending-length,
  prefix-length,
)

-- ---- databases

header-length : (head : DbHead) (after : List ℕ) (app sort count : ℕ) → length head.name + 1 + length after ≡ 32 → length head.kind.0 ≡ 4
    → length head.creator.0 ≡ 4 → length (header_text head after app sort count) ≡ 78
unfolding header_text
header-length head after app sort count field kind creator = grind (arith, length-append, field, kind, creator)

record-length : (begin : ℕ) (item : Record) → length (record_entry begin item) ≡ 8
unfolding record_entry
record-length begin item = refl

records-length : (place : ℕ) (items : List Record) → length (record_entries (begins_from place (record_data items)) items) ≡ 8 * length items
records-length place [] = omega arith
records-length place (item ∷ items) =
    let next : ℕ = place + length item.content.bytes in
    omega (
      arith,
      length-append (record_entry place item) (record_entries (begins_from next (record_data items)) items),
      record-length place item,
      records-length next items,
      mul-suc 8 (length items),
    )

blocks-length : (blocks : List (List ℕ)) → AreShort blocks → length (concat blocks) ≤ 65500 * length blocks
blocks-length [] short = omega arith
blocks-length (block ∷ blocks) short = grind (arith, common_steps, nat_tests, length-append, blocks-length blocks short.1, mul-suc)

-- a database of records is shorter than 2^32 bytes
pub canonical-short : {database : DatabaseValue} → has_resources database ≡ false → IsFileText database (canonical database)
    → length (canonical database) < 2 ^ 32
unfolding file_text
canonical-short records is = grind (
  arith,
  common_steps,
  nat_tests,
  header-length,
  length-zeros_behind,
  records-length,
  length-append,
  length-block_list,
  length-map,
  blocks-length,
)

-- ---- slots

few_bytes : {bytes : List ℕ} (most : Bool) → cond (ltb 40 (length bytes) || most) None (Some bytes) ≡ Some bytes → length bytes ≤ 40
few_bytes most is = grind (arith, common_steps, nat_tests, ltb-false)

few_password : {bytes : List ℕ} → password_of bytes ≡ Some bytes → length bytes ≤ 40
few_password is = grind (arith, common_steps, nat_tests, ltb-false)

text-length : (bytes : List ℕ) → length bytes ≤ 40 → length (bytes_text bytes) ≤ 80
text-length bytes few = grind (arith, common_steps, nat_tests, length-encode_with)

value-length : (kind : ValueKind) (value : Value kind) (text : List ℕ) → Says kind value text → length text ≤ 130
value-length kind value text is = search (rules, length-encode_with, text-length, few_bytes, few_password, length-decimal-le, length-append, stem-length)

lines-length : (forms : List LineForm) (values : Values forms) (bytes : List ℕ) → AllByRecursion (λ form. length form.key ≤ 19) forms → AreLines forms values bytes
    → length bytes ≤ 150 * length forms
lines-length [] values bytes keys are = omega (arith, ap length are)
lines-length (form ∷ forms) values bytes keys are =
    grind (arith, common_steps, nat_tests, length-append, value-length, lines-length forms values.1 are.1 keys.1 are.4, mul-suc)

word-length : (how : Parting) → length (parting_word how) ≤ 19
word-length Apart = omega arith
word-length Unmet = omega arith

parted_keys : (parted : List Parted) (forms : List LineForm) → AllByRecursion (λ form. length form.key ≤ 19) forms
    → AllByRecursion (λ form. length form.key ≤ 19) (with_parted parted forms)
parted_keys [] forms keys = keys
parted_keys (one ∷ parted) forms keys = (word-length one.how, parted_keys parted forms keys)

slot_keys : (number : ℕ) (infos : List SlotInfoValue) → number + length infos ≤ 16 → AllByRecursion (λ form. length form.key ≤ 19) (slot_forms number infos)
slot_keys number [] few = tt
slot_keys number (info ∷ infos) few = (
  omega (arith, length-append (decimal number) (codes " "), length-decimal-le 2 number (omega arith) (omega arith) (omega arith)),
  parted_keys info.parted (slot_forms (suc number) infos) (slot_keys (suc number) infos (omega arith)),
)

parted_forms-length : (parted : List Parted) (forms : List LineForm) → length (with_parted parted forms) ≡ length parted + length forms
parted_forms-length [] forms = omega arith
parted_forms-length (one ∷ parted) forms = omega (arith, parted_forms-length parted forms)

-- a slot has at most 401 lines
slot_forms-length : (number : ℕ) (infos : List SlotInfoValue) → AllRise infos → length (slot_forms number infos) ≤ 401 * length infos
slot_forms-length number [] rise = omega arith
slot_forms-length number (info ∷ infos) rise = omega (
  arith,
  parted_forms-length info.parted (slot_forms (suc number) infos),
  rise.0.few,
  slot_forms-length (suc number) infos rise.1,
)

title-length : (third : Bool) → length (title_form third).key ≤ 19
title-length true = omega arith
title-length false = omega arith

one_user-length : (marks : Marks) (bytes : List ℕ) → AreLines one_user_forms (one_user_values marks) bytes → length bytes < 2 ^ 32
one_user-length marks bytes is = let few = lines-length one_user_forms (one_user_values marks) bytes
    (omega arith, (omega arith, (omega arith, (omega arith, (omega arith, tt))))) is in omega (arith, few)

pub slots-short : {infos : List SlotInfoValue} {bytes : List ℕ} → IsDesktopFile infos bytes → length bytes < 2 ^ 32
slots-short {infos} {bytes} is =
    elim is.lines [
      | inl one ↦ one_user-length one.marks bytes one.lines
      | inr many ↦
          let slots : length infos ≤ 16 = omega (arith, is.formed.few, length-map infos (λ info. info.marks)) in
          let few = lines-length (desktop_forms many.third infos) (desktop_values many.third infos) bytes
          (title-length many.third, (omega arith, (omega arith, slot_keys 0 infos (omega (arith, slots))))) many.lines in
          omega (arith, few, slot_forms-length 0 infos is.rise, slots)
    ]
