-- What is written of a reply is one of its texts.
use Rattle.std.proofs.lemmas.Bool.Decides.{nat_tests}
use Rattle.std.proofs.lemmas.Grind.{common_steps}
use Rattle.std.proofs.Common.{◌≡◌, ℕ, ◌≤◌, Bool, true, ◌&&◌, leb, List, [], ◌∷◌, ◌++◌, length, is_some, Some, None, refl, sym, ap, ◌∙◌, arith, inl, inr}
use Rattle.std.proofs.lemmas.Bool.{le-leb, eq-eqb}
use Rattle.std.proofs.lemmas.List.{length-append}
use Rattle.pdb_values.specs.PalmDates.{wire_date}
use Rattle.pdb_values.proofs.DateLaws.{read_wire_of_wire_date}
use Rattle.dlp_args.specs.Arguments.{arg_text}
use Rattle.dlp_args.proofs.ArgumentLaws.{written_text}
use Rattle.dlp_args.specs.Functions.{function_of}
use Rattle.dlp_args.specs.Cells.{CellKind, HasNoZero}
use Rattle.dlp_args.specs.Fields.{Fields, fields_text, FieldsFit, ends_well}
use Rattle.dlp_args.proofs.CellLaws.{fields_written, short_text_again}
use Rattle.dlp_replies.specs.EntryLists.{entries_text}
use Rattle.dlp_replies.specs.IdLists.{ids_text, ids_checks}
use Rattle.dlp_replies.specs.Frames.{name_text, frame, function_byte, reply_text, IsReply}
use Rattle.dlp_replies.specs.Checks as checks
use Rattle.dlp_replies.specs.Checks.{Checks, first_bad, user_name}
use Rattle.dlp_replies.specs.ReplyReading.{reply_byte}
use Rattle.dlp_replies.specs.ReplyTexts.{IsOne, ReplyText}
use Rattle.dlp_replies.specs.ReplyValues as values
use Rattle.dlp_replies.specs.ReplyValues.{ReplyValue}
use Rattle.dlp_replies.proofs.EntryWritten.{rows_written, rows_pass, items_again}
use Rattle.dlp_replies.proofs.IdLaws.{words_of_text, ids_text_len, ids_pass}

with_written : (first : ℕ) (kinds : List CellKind) (sizes : Fields kinds → Bool) (checks : Fields kinds → Checks) (make : Fields kinds
    → ReplyValue) (fields : Fields kinds) (value : ReplyValue) → ends_well kinds ≡ true → FieldsFit kinds fields → sizes fields ≡ true
    → first_bad (checks fields) ≡ None → make fields ≡ value
    → length (first ∷ 1 ∷ 0 ∷ 0 ∷ arg_text (record { id = 0x20; bytes = fields_text kinds fields })) ≤ 65535
    → IsOne first kinds sizes checks make value (first ∷ 1 ∷ 0 ∷ 0 ∷ arg_text (record { id = 0x20; bytes = fields_text kinds fields }))
with_written first kinds sizes checks make fields value ends fits measured valid made short = grind
    (arith, nat_tests, common_steps, length-append, written_text, fields_written)

record_valid : (id category : ℕ) (bytes : List ℕ) → id ≤ 16777215 → category ≤ 15 → length bytes ≤ 65500
    → first_bad ((0, checks.is_id id) ∷ (9, checks.is_category category) ∷ (10, leb (length bytes) 65500) ∷ []) ≡ None
record_valid id category bytes low kept short = grind arith

id_valid : (id : ℕ) → id ≤ 16777215 → first_bad ((0, checks.is_id id) ∷ []) ≡ None
id_valid id low = rw (le-leb id 16777215 low) refl

user_sized : (name password : List ℕ) → user_name (name_text name) ≡ Some name → length password ≤ 40
    → (is_some (user_name (name_text name)) && leb (length password) 40) ≡ true
user_sized name password found short = rw (found, le-leb (length password) 40 short) refl

-- ---- a user's name

name_found : (name : List ℕ) → HasNoZero name → length name ≤ 40 → user_name (name_text name) ≡ Some name
unfolding user_name
name_found [] none short = refl
name_found (byte ∷ bytes) none short = short_text_again 40 (byte ∷ bytes) ((byte ∷ bytes) ++ 0 ∷ []) (refl, none) short

pub reply_written : (value : ReplyValue) → IsReply value → ReplyText (function_byte (frame value)) value (reply_text value)
unfolding reply_byte function_of
reply_written (values.Refused number code) is = inl (code, is.fields.0, is.fields.1, refl, refl)
reply_written (values.ReadUserInfo user viewer pc good last name password) is =
    let g = read_wire_of_wire_date good is.values.0 in
    let l = read_wire_of_wire_date last is.values.1 in
    let n = name_found name is.values.3 is.values.2 in
    inr (with_written _ _ _ _ _ (
      user,
      (viewer, (pc, (wire_date good, (wire_date last, ((name_text name, password), tt))))),
    ) _ refl is.fields (user_sized name password n is.values.4) (rw (
      g,
      l,
    ) refl) (rw (g, l, n) refl) is.fits)
reply_written (values.ReadSysInfo rom locale product) is = inr (with_written _ _ _ _ _ (
  rom,
  (locale, (tt, (length product, (product, tt)))),
) _ refl is.fields (eq-eqb (length product) (length product) refl) refl refl is.fits)
reply_written (values.ReadDbList last flags entries) is =
    let rows = rows_written entries is.values in
    inr (with_written _ _ _ _ _ (
      last,
      (
        flags,
        (
          length entries,
          (
            entries_text entries,
            tt,
          ),
        ),
      ),
    ) _ refl is.fields (rw rows refl) (rw rows (rows_pass 4 entries is.values)) (rw rows (ap (values.ReadDbList last flags) (items_again entries is.values)))
    is.fits)
reply_written (values.OpenDb handle) is = inr (with_written _ _ _ _ _ (handle, tt) _ refl is.fields refl refl refl is.fits)
reply_written (values.CreateDb handle) is = inr (with_written _ _ _ _ _ (handle, tt) _ refl is.fields refl refl refl is.fits)
reply_written (values.ReadAppBlock bytes) is = inr (with_written _ _ _ _ _ (bytes, tt) _ refl is.fields refl refl refl is.fits)
reply_written (values.ReadSortBlock bytes) is = inr (with_written _ _ _ _ _ (bytes, tt) _ refl is.fields refl refl refl is.fits)
reply_written (values.ReadNextModifiedRec id index size attributes category bytes) is = inr (with_written _ _ _ _ _ (
  id,
  (
    index,
    (
      size,
      (
        attributes,
        (category, (bytes, tt)),
      ),
    ),
  ),
) _ refl is.fields refl (record_valid id category bytes is.values.0 is.values.1 is.values.2) refl is.fits)
reply_written (values.ReadRecord id index size attributes category bytes) is = inr (with_written _ _ _ _ _ (
  id,
  (
    index,
    (
      size,
      (
        attributes,
        (category, (bytes, tt)),
      ),
    ),
  ),
) _ refl is.fields refl (record_valid id category bytes is.values.0 is.values.1 is.values.2) refl is.fits)
reply_written (values.WriteRecord id) is = inr (with_written _ _ _ _ _ (id, tt) _ refl is.fields refl (id_valid id is.values) refl is.fits)
reply_written (values.ReadResource kind id index size bytes) is = inr (with_written _ _ _ _ _ (
  kind,
  (id, (index, (size, (bytes, tt)))),
) _ refl is.fields refl refl refl is.fits)
reply_written (values.ReadOpenDbInfo count) is = inr (with_written _ _ _ _ _ (count, tt) _ refl is.fields refl refl refl is.fits)
reply_written (values.ReadRecordIdList ids) is =
    let numbers = words_of_text ids is.values in
    inr (with_written _ _ _ _ _ (
      length ids,
      (ids_text ids, tt),
    ) _ refl is.fields (eq-eqb _ _ (sym (ids_text_len ids))) (ap (λ (xs : List ℕ). first_bad (ids_checks 2 xs)) numbers
    ∙ ids_pass 2 ids is.values) (ap values.ReadRecordIdList numbers) is.fits)
reply_written values.WriteUserInfo is = inr (refl, refl)
reply_written values.CloseDb is = inr (refl, refl)
reply_written values.DeleteDb is = inr (refl, refl)
reply_written values.WriteAppBlock is = inr (refl, refl)
reply_written values.WriteSortBlock is = inr (refl, refl)
reply_written values.DeleteRecord is = inr (refl, refl)
reply_written values.WriteResource is = inr (refl, refl)
reply_written values.DeleteResource is = inr (refl, refl)
reply_written values.CleanUpDatabase is = inr (refl, refl)
reply_written values.ResetSyncFlags is = inr (refl, refl)
reply_written values.ResetRecordIndex is = inr (refl, refl)
reply_written values.AddSyncLogEntry is = inr (refl, refl)
reply_written values.MoveCategory is = inr (refl, refl)
reply_written values.OpenConduit is = inr (refl, refl)
reply_written values.EndOfSync is = inr (refl, refl)
