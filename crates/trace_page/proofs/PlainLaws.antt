-- What a row has of its frame is plain.
use Rattle.std.proofs.Common.{◌≡◌, ℕ, zero, suc, ◌+◌, ◌/◌, ◌%◌, ◌<◌, Bool, true, false, not, ◌==◌, ◌&&◌, List, [], ◌∷◌, ◌++◌, length, Option, Some, None, refl, arith}
use Rattle.std.specs.Prelude.{codes, if◌then◌else◌, nat_le, slice_index}
use Rattle.std.specs.Fmt.{decimal, digit_glyph, digits, digits_onto}
use Rattle.std.proofs.lemmas.Bool.{and_parts, le-leb, lt-ltb}
use Rattle.dlp_args.specs.Functions.{function_of}
use Rattle.dlp_args.specs.declared.function.Function.{Function}
use Rattle.dlp_args.specs.declared.function.Function.TheVariants.{ReadUserInfo, WriteUserInfo, ReadDbList, OpenDb, CreateDb, CloseDb, DeleteDb, ReadAppBlock}
use Rattle.dlp_args.specs.declared.function.Function.TheVariants.{WriteAppBlock, ReadSortBlock, WriteSortBlock, ReadNextModifiedRec, ReadRecord, WriteRecord}
use Rattle.dlp_args.specs.declared.function.Function.TheVariants.{DeleteRecord, ReadResource, WriteResource, DeleteResource, CleanUpDatabase, ResetSyncFlags}
use Rattle.dlp_args.specs.declared.function.Function.TheVariants.{AddSyncLogEntry, ReadOpenDbInfo, MoveCategory, OpenConduit, EndOfSync, ResetRecordIndex}
use Rattle.dlp_args.specs.declared.function.Function.TheVariants.{ReadRecordIdList, ReadSysInfo}
use Rattle.hex.specs.Hex.{IsBytes, encode_lower, encode_with, lower_digits}
use Rattle.padp_link.specs.declared.fragment.PadpKind.{PadpKind}
use Rattle.padp_link.specs.declared.fragment.PadpKind.TheVariants.{Data, Ack, Tickle, Abort}
use Rattle.slp_frames.specs.PacketScan.{fields_at}
use Rattle.trace_text.specs.declared.frame.End.{End}
use Rattle.trace_text.specs.declared.frame.End.TheVariants.{Handheld, Desktop}
use Rattle.trace_text.specs.Fates.{FateValue, Untouched, Lost, Late, Cut, Hit, Noise, Unplug, fate_words}
use Rattle.trace_text.specs.Fates as fate
use Rattle.trace_text.specs.TraceLines.{FrameValue, end_word, mark_word}
use Rattle.trace_check.specs.Readings.{IsTraced, MayBefall}
use Rattle.trace_page.specs.Bearings.{begins_message, borne, ends_message, is_greeting}
use Rattle.trace_page.specs.Names.{function_word, greeting_word, message_word, name_by, name_of, part_word, error_word, function_byte, request_word, reply_ending, says_error}
use Rattle.trace_page.specs.Promises.{HasPlainWords, IsPlain, is_plain}
use Rattle.trace_page.specs.Rows.{again_class, band_class, classes, fate_class, is_open, kind_class, line_of, open_class}
use Rattle.trace_page.specs.declared.bearing.Bearing.{Bearing}

pub plain-append : (xs ys : List ℕ) → IsPlain xs → IsPlain ys → IsPlain (xs ++ ys)
plain-append [] ys a b = b
plain-append (x ∷ xs) ys a b = (a.0, plain-append xs ys a.1 b)

abbrev all_plain : List ℕ → Bool
all_plain [] = true
all_plain (byte ∷ bytes) = is_plain byte && all_plain bytes

-- words are plain by a look at each byte
pub literal : (bytes : List ℕ) → all_plain bytes ≡ true → IsPlain bytes
literal [] plain = tt
literal (byte ∷ bytes) plain = let parts = and_parts (is_plain byte) (all_plain bytes) plain in (parts.0, literal bytes parts.1)

plain-if : (b : Bool) (xs ys : List ℕ) → IsPlain xs → IsPlain ys → IsPlain (if b then xs else ys)
plain-if true xs ys a c = a
plain-if false xs ys a c = c

-- ---- numbers

digit-plain : (digit : ℕ) → digit < 10 → is_plain (digit_glyph false digit) ≡ true
digit-plain digit small =
    let low : nat_le 48 (48 + digit) ≡ true = le-leb 48 (48 + digit) (omega arith) in
    let high : nat_le (48 + digit) 57 ≡ true = le-leb (48 + digit) 57 (omega (arith, small)) in
    rw (lt-ltb digit 10 small, low, high) refl

onto-plain : (count number : ℕ) (bytes : List ℕ) → IsPlain bytes → IsPlain (digits_onto count 10 false number bytes)
onto-plain zero number bytes plain = plain
onto-plain (suc count) number bytes plain =
    let digit : is_plain (digit_glyph false (number % 10)) ≡ true = digit-plain (number % 10) (omega arith) in
    plain-if _ (digit_glyph false (number % 10) ∷ bytes) _ (digit, plain) (onto-plain count (number / 10) (digit_glyph false (number % 10) ∷ bytes) (digit, plain))

pub decimal-plain : (number : ℕ) → IsPlain (decimal number)
unfolding digits
decimal-plain number = onto-plain 64 number [] tt

plain-at : (bytes : List ℕ) → IsPlain bytes → (i : ℕ) → i < length bytes → is_plain (slice_index bytes i) ≡ true
plain-at [] plain i inside = absurd (omega (arith, inside))
plain-at (byte ∷ bytes) plain zero inside = plain.0
plain-at (byte ∷ bytes) plain (suc i) inside = plain-at bytes plain.1 i (omega (arith, inside))

pub hex-plain : (bytes : List ℕ) → IsBytes bytes → IsPlain (encode_lower bytes)
unfolding encode_with
hex-plain [] fits = tt
hex-plain (byte ∷ bytes) fits =
    let small : byte < 256 = fits 0 in
    let digits : IsPlain lower_digits = literal lower_digits refl in
    (plain-at lower_digits digits (byte / 16) (omega (arith, small)), (plain-at lower_digits digits (byte % 16) (omega arith), hex-plain bytes (λ k. fits (suc k))))

-- ---- words

pub fate-plain : (fate : FateValue) → MayBefall fate → IsPlain (fate_words fate)
fate-plain Untouched may = literal (codes "ok") refl
fate-plain Lost may = literal (codes "lost") refl
fate-plain Late may = literal (codes "late") refl
fate-plain (Cut count) may = plain-append (codes "cut ") (decimal count) (literal (codes "cut ") refl) (decimal-plain count)
fate-plain (Hit place bytes) may =
    plain-append (codes "hit " ++ decimal place ++ codes " ") (encode_lower bytes)
    (plain-append (codes "hit " ++ decimal place) (codes " ") (plain-append (codes "hit ") (decimal place) (literal (codes "hit ") refl) (decimal-plain place)) (literal (codes " ") refl))
    (hex-plain bytes may.1)
fate-plain (Noise bytes) may = plain-append (codes "noise ") (encode_lower bytes) (literal (codes "noise ") refl) (hex-plain bytes may.0)
fate-plain Unplug may = literal (codes "unplug") refl
fate-plain fate.Abort may = literal (codes "abort") refl

end-plain : (end : End) → IsPlain (end_word end)
end-plain Handheld = literal (codes "H") refl
end-plain Desktop = literal (codes "D") refl

mark-plain : (came : Bool) → IsPlain (mark_word came)
mark-plain true = literal (codes "+") refl
mark-plain false = literal (codes "-") refl

spaced : (bytes : List ℕ) → IsPlain bytes → IsPlain (bytes ++ codes " ")
spaced bytes plain = plain-append bytes (codes " ") plain (literal (codes " ") refl)

pub line-plain : (number : ℕ) (frame : FrameValue) → IsTraced number frame → IsPlain (line_of frame)
unfolding line_of
line-plain number frame traced =
    plain-append _ (encode_lower frame.bytes) (spaced _ (plain-append _ (mark_word frame.came) (spaced _ (plain-append _ (fate_words frame.fate)
    (spaced _ (plain-append _ (end_word frame.from) (spaced (decimal frame.number) (decimal-plain frame.number)) (end-plain frame.from)))
    (fate-plain frame.fate traced.fate))) (mark-plain frame.came))) (hex-plain frame.bytes traced.bytes)

-- ---- names

function-plain : (function : Function) → all_plain (function_word function) ≡ true
function-plain ReadUserInfo = refl
function-plain WriteUserInfo = refl
function-plain ReadSysInfo = refl
function-plain ReadDbList = refl
function-plain OpenDb = refl
function-plain CreateDb = refl
function-plain CloseDb = refl
function-plain DeleteDb = refl
function-plain ReadAppBlock = refl
function-plain WriteAppBlock = refl
function-plain ReadSortBlock = refl
function-plain WriteSortBlock = refl
function-plain ReadNextModifiedRec = refl
function-plain ReadRecord = refl
function-plain WriteRecord = refl
function-plain DeleteRecord = refl
function-plain ReadResource = refl
function-plain WriteResource = refl
function-plain DeleteResource = refl
function-plain CleanUpDatabase = refl
function-plain ResetSyncFlags = refl
function-plain AddSyncLogEntry = refl
function-plain ReadOpenDbInfo = refl
function-plain MoveCategory = refl
function-plain OpenConduit = refl
function-plain EndOfSync = refl
function-plain ResetRecordIndex = refl
function-plain ReadRecordIdList = refl

request-plain : (function : Option Function) → IsPlain (request_word function)
request-plain None = literal (codes "request") refl
request-plain (Some function) = literal (function_word function) (function-plain function)

ending-plain : (from : End) → IsPlain (reply_ending from)
ending-plain Handheld = literal (codes " reply") refl
ending-plain Desktop = tt

greeting-plain : (front : ℕ) → IsPlain (greeting_word front)
greeting-plain front =
    plain-if (front == 1) (codes "Wake") (if front == 2 then codes "Init" else codes "greeting") (literal (codes "Wake") refl)
    (plain-if (front == 2) (codes "Init") (codes "greeting") (literal (codes "Init") refl) (literal (codes "greeting") refl))

message-plain : (from : End) (bearing : Bearing) (front : ℕ) → IsPlain (message_word from bearing front)
unfolding message_word
message-plain from bearing front =
    plain-if (is_greeting bearing) (greeting_word front) (request_word (function_of (function_byte from front)) ++ reply_ending from) (greeting-plain front)
    (plain-append (request_word (function_of (function_byte from front))) (reply_ending from) (request-plain _) (ending-plain from))

part-plain : (bearing : Bearing) → IsPlain (part_word bearing)
unfolding part_word
part-plain bearing =
    plain-if (begins_message bearing) (if ends_message bearing then [] else codes " (first part)") (codes " (part at " ++ decimal bearing.key.size ++ codes ")")
    (plain-if (ends_message bearing) [] (codes " (first part)") tt (literal (codes " (first part)") refl))
    (plain-append (codes " (part at " ++ decimal bearing.key.size) (codes ")")
    (plain-append (codes " (part at ") (decimal bearing.key.size) (literal (codes " (part at ") refl) (decimal-plain bearing.key.size)) (literal (codes ")") refl))

error-plain : (from : End) (bearing : Bearing) → IsPlain (error_word from bearing)
error-plain from bearing =
    plain-if (says_error from bearing) (codes " error " ++ decimal bearing.error) [] (plain-append (codes " error ") (decimal bearing.error) (literal (codes " error ") refl) (decimal-plain bearing.error)) tt

kind-named : (kind : PadpKind) (from : End) (bearing : Bearing) (front : ℕ) → IsPlain (name_by kind from bearing front)
kind-named Data from bearing front =
    plain-append (message_word from bearing front ++ part_word bearing) (error_word from bearing)
    (plain-append (message_word from bearing front) (part_word bearing) (message-plain from bearing front) (part-plain bearing)) (error-plain from bearing)
kind-named Ack from bearing front = literal (codes "ack") refl
kind-named Tickle from bearing front = literal (codes "tickle") refl
kind-named Abort from bearing front = literal (codes "abort") refl

pub name-plain : (from : End) (bearing : Bearing) (front : ℕ) → IsPlain (name_of from bearing front)
unfolding name_of
name-plain from bearing front = kind-named bearing.kind from bearing front

-- ---- looks

fate-looks : (fate : FateValue) → IsPlain (fate_class fate)
fate-looks Untouched = literal (codes " ok") refl
fate-looks Lost = literal (codes " harm gone") refl
fate-looks Late = literal (codes " harm late") refl
fate-looks (Cut count) = literal (codes " harm gone cut") refl
fate-looks (Hit place bytes) = literal (codes " harm gone hit") refl
fate-looks (Noise bytes) = literal (codes " harm noise") refl
fate-looks Unplug = literal (codes " harm gone") refl
fate-looks fate.Abort = literal (codes " harm gone") refl

kind-looks : (kind : PadpKind) → IsPlain (kind_class kind)
kind-looks Data = tt
kind-looks Ack = literal (codes " ack") refl
kind-looks Tickle = tt
kind-looks Abort = tt

pub looks-plain : (times : ℕ) (frame : FrameValue) (bearing : Bearing) → IsPlain (classes times frame bearing)
unfolding classes
looks-plain times frame bearing =
    plain-append _ (band_class bearing) (plain-append _ (open_class frame) (plain-append _ (again_class times)
    (plain-append _ (kind_class bearing.kind) (plain-append (end_word frame.from) (fate_class frame.fate) (end-plain frame.from) (fate-looks frame.fate))
    (kind-looks bearing.kind)) (plain-if (times == 0) [] (codes " again") tt (literal (codes " again") refl)))
    (plain-if (is_open frame) (codes " open") [] (literal (codes " open") refl) tt)) (plain-if (not (is_greeting bearing) && bearing.key.id % 2 == 1) (codes " band") [] (literal (codes " band") refl) tt)

-- ---- all that a row has

id-fits : (bytes : List ℕ) → IsBytes bytes → (borne bytes).key.id < 256
unfolding borne fields_at
id-fits bytes fits = fits 8

one-byte : (byte : ℕ) → byte < 256 → IsBytes (byte ∷ [])
one-byte byte small zero = small
one-byte byte small (suc i) = omega arith

pub id-plain : (bytes : List ℕ) → IsBytes bytes → IsPlain (encode_lower ((borne bytes).key.id ∷ []))
id-plain bytes fits = hex-plain ((borne bytes).key.id ∷ []) (one-byte (borne bytes).key.id (id-fits bytes fits))

pub words-plain : (number times front : ℕ) (frame : FrameValue) → IsTraced number frame → HasPlainWords times front frame (borne frame.bytes)
words-plain number times front frame traced = record {
  looks = looks-plain times frame (borne frame.bytes);
  number = decimal-plain frame.number;
  name = name-plain frame.from (borne frame.bytes) front;
  fate = fate-plain frame.fate traced.fate;
  again = decimal-plain times;
  length = decimal-plain (borne frame.bytes).length;
  id = id-plain frame.bytes traced.bytes;
  line = line-plain number frame traced;
}
