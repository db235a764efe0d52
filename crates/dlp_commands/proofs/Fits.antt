-- The replies of a device fit into a message.
use Rattle.std.proofs.lemmas.Bool.Decides.{nat_tests}
use Rattle.std.proofs.lemmas.Grind.{common_steps}
use Rattle.std.proofs.Common.{◌≡◌, ◌+◌, ◌*◌, ◌≤◌, ℕ, false, List, [], ◌∷◌, ◌++◌, length, refl, arith, length-append}
use Rattle.std.specs.Prelude.{◌==◌}
use Rattle.std.specs.List.{flat_map, list_any}
use Rattle.std.specs.Int.{w32, to_be_bytes}
use Rattle.pdb_values.specs.PalmDates.{wire_date}
use Rattle.pdb_values.specs.declared.head.DbHead.{DbHead}
use Rattle.dlp_args.specs.Cells.{HasNoZero}
use Rattle.dlp_args.specs.Arguments.{arg_text}
use Rattle.dlp_replies.specs.EntryLists.{entry_text}
use Rattle.dlp_replies.specs.Frames.{name_text}
use Rattle.dlp_replies.specs.ReplyValues.{ReadUserInfo, ReadDbList, ReadRecordIdList, ReadAppBlock, ReadSortBlock, ReadNextModifiedRec, ReadRecord}
use Rattle.dlp_replies.specs.ReplyValues.{ReadResource}
use Rattle.dlp_replies.specs.Writables.{IsWritable}
use Rattle.std.proofs.lemmas.Bool.{or_parts}
use Rattle.dlp_replies.proofs.EntryWritten.{date_len}

-- at most eight bytes stand around the data
pub text_short : (first : ℕ) (bytes : List ℕ) → length bytes ≤ 65527
    → length (first ∷ 1 ∷ 0 ∷ 0 ∷ arg_text (record { id = 0x20; bytes = bytes })) ≤ 65535
text_short first bytes short = grind (arith, nat_tests, common_steps)

pub app_fits : (bytes : List ℕ) → length bytes ≤ 65500 → IsWritable (ReadAppBlock bytes)
app_fits bytes short = grind (arith, nat_tests, common_steps)

pub sort_fits : (bytes : List ℕ) → length bytes ≤ 65500 → IsWritable (ReadSortBlock bytes)
sort_fits bytes short = grind (arith, nat_tests, common_steps)

pub next_fits : (id index size attributes category : ℕ) (bytes : List ℕ) → length bytes ≤ 65500
    → IsWritable (ReadNextModifiedRec id index size attributes category bytes)
next_fits id index size attributes category bytes short = grind (arith, nat_tests, common_steps)

pub record_fits : (id index size attributes category : ℕ) (bytes : List ℕ) → length bytes ≤ 65500
    → IsWritable (ReadRecord id index size attributes category bytes)
record_fits id index size attributes category bytes short = grind (arith, nat_tests, common_steps)

pub resource_fits : (kind : List ℕ) (id index size : ℕ) (bytes : List ℕ) → length kind ≡ 4 → length bytes ≤ 65500
    → IsWritable (ReadResource kind id index size bytes)
resource_fits kind id index size bytes four short = grind (arith, nat_tests, common_steps)

-- ---- dates, names and lists

named_length : (name : List ℕ) → length (name_text name) ≤ length name + 1
named_length name = grind (arith, nat_tests, common_steps)

pub user_fits : (user viewer pc good last : ℕ) (name password : List ℕ) → length name ≤ 40 → HasNoZero name → length password ≤ 40
    → IsWritable (ReadUserInfo user viewer pc good last name password)
user_fits user viewer pc good last name password short no_zero few = record {
  bounds = (short, no_zero, few);
  fits = text_short 0x90 (to_be_bytes w32 user ++ (to_be_bytes w32 viewer ++ (to_be_bytes w32 pc ++ (wire_date good ++ (wire_date last
      ++ (length (name_text name) ∷ length password ∷ name_text name ++ password))))))
      (let one = length-append (wire_date good) (wire_date last ++ (length (name_text name) ∷ length password ∷ name_text name ++ password)) in
      let two = length-append (wire_date last) (length (name_text name) ∷ length password ∷ name_text name ++ password) in
      let three = length-append (name_text name) password in
      let first = date_len good in
      let second = date_len last in
      let whole = named_length name in
      omega arith);
}

words_length : (ids : List ℕ) → length (flat_map (to_be_bytes w32) ids) ≡ 4 * length ids
words_length [] = refl
words_length (id ∷ ids) = let later = words_length ids in omega arith

pub ids_fit : (ids : List ℕ) → length ids ≤ 16000 → IsWritable (ReadRecordIdList ids)
ids_fit ids few = grind (arith, nat_tests, common_steps, text_short, words_length)

pub has_no_zero : (bytes : List ℕ) → list_any (λ byte. byte == 0) bytes ≡ false → HasNoZero bytes
has_no_zero [] none = refl
has_no_zero (byte ∷ bytes) none =
    grind (arith, nat_tests, common_steps, has_no_zero bytes (or_parts (byte == 0) (list_any (λ byte. byte == 0) bytes) none).1)

entry_length : (item : ℕ × DbHead) → length item.1.kind.0 ≡ 4 → length item.1.creator.0 ≡ 4 → length (entry_text item) ≤ length item.1.name + 60
entry_length item kind creator = grind (arith, nat_tests, common_steps)

pub list_fits : (last flags : ℕ) (item : ℕ × DbHead) → length item.1.name ≤ 31 → item.1.seed ≡ 0 → length item.1.kind.0 ≡ 4
    → length item.1.creator.0 ≡ 4 → IsWritable (ReadDbList last flags (item ∷ []))
list_fits last flags item short seed kind creator = grind (arith, nat_tests, common_steps)
