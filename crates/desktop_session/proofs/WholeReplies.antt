-- The records that a device replies are whole, whatever values the device has.
use Rattle.std.proofs.Common.{◌≡◌, ◌∙◌, ◌≤◌, ◌<◌, ◌+◌, ◌^◌, refl, ap, sym, subst, ℕ, Bool, true, false, List, [], ◌∷◌, ◌++◌, length, take, drop, arith}
use Rattle.std.specs.Prelude.{Option, Some, None, IfSome, Result, Ok, Err, nat_le, slice_get, if◌then◌else◌}
use Rattle.std.specs.Int.{Width, w8, w16, w32, from_be_bytes, to_be_bytes}
use Rattle.std.proofs.lemmas.Bool.{le-leb, le-ltb}
use Rattle.std.proofs.lemmas.List.{drop_at, length-append, length-drop, length-take, take_at}
use Rattle.std.proofs.lemmas.Grind.{common_steps}
use Rattle.std.proofs.lemmas.Bool.Decides.{nat_tests}
use Rattle.std.proofs.Common.{inl, inr}
use Rattle.dlp_args.specs.Arguments.{Argument, arg_text}
use Rattle.dlp_args.specs.CellReading.{number_at}
use Rattle.dlp_args.specs.Fields.{Fields, fields_in}
use Rattle.dlp_args.specs.Functions.{function_of}
use Rattle.dlp_args.specs.Reading.{◌>>=◌, arguments_at}
use Rattle.dlp_args.specs.declared.fault.ArgFault.{ArgFault}
use Rattle.dlp_args.proofs.CellLaws.{some_is}
use Rattle.dlp_args.proofs.NumberLaws.{IsWide, bind_ok, wide16, wide32}
use Rattle.dlp_requests.specs.RequestTexts.{IsRequest}
use Rattle.dlp_requests.specs.RequestValues.{RequestValue}
use Rattle.dlp_replies.specs.declared.fault.ReplyFault.{ReplyFault}
use Rattle.dlp_replies.specs.Faults.{of_arguments}
use Rattle.dlp_replies.specs.Frames.{reply_text}
use Rattle.dlp_replies.specs.Layouts.{record_reply}
use Rattle.dlp_replies.specs.ReplyReading.{answer_of, reply_at, reply_by, reply_byte, valid_in}
use Rattle.dlp_replies.specs.ReplyValues as reply
use Rattle.dlp_replies.specs.ReplyValues.{ReplyValue}
use Rattle.dlp_replies.specs.Shapes.{shape_of}
use Rattle.pdb_values.specs.Databases.{DatabaseValue}
use Rattle.palm_device.specs.Devices.{Device}
use Rattle.palm_device.specs.Handles.{base_at}
use Rattle.palm_device.specs.Records.{next_changed, place_of_id}
use Rattle.dlp_commands.specs.DeviceSteps.{outcome, tried}
use Rattle.dlp_commands.specs.Errors.{check, need, none_open, not_found, not_supported, parameter}
use Rattle.dlp_commands.specs.Holding.{fits, on_records}
use Rattle.dlp_commands.specs.Reached.{Trial, next_of, read_next_modified_rec}
use Rattle.dlp_commands.specs.Readings.{next_in, read_in, read_on, record_part}
use Rattle.dlp_commands.specs.declared.reading.Reading.TheVariants as reading
use Rattle.dlp_commands.specs.Talks.{Talk}
use Rattle.dlp_commands.specs.declared.link.LinkFault.{LinkFault}
use Rattle.dlp_commands.proofs.DoneLaws.{Done}
use Rattle.dlp_commands.proofs.ReplyLaws.{refused_reply}
use Rattle.dlp_commands.proofs.TableLaws.{tried_done}
use Rattle.dlp_commands.proofs.TriedLaws.{Keeps}
use Rattle.desktop_session.specs.Acts.{Act, acted}
use Rattle.desktop_session.specs.Requests.{reading_at, reading_next, reading_of}
use Rattle.desktop_session.specs.Sessions.{SessionValue}
use Rattle.desktop_session.specs.Stops.{AsksOne}
use Rattle.desktop_session.specs.Wholes.{is_whole, whole_reply}
use Rattle.desktop_session.proofs.StartLaws.{arguments_found, le_or_more, long_unread, one, short_read, valid_fields}
use Rattle.desktop_session.proofs.TellLaws.{IfDone, act_sayable, done_then, done_with, read_again, replied}

-- ---- what is read of a record's reply

number_front : {w : Width} {limit : ℕ} (wide : IsWide w limit) (n : ℕ) (rest : List ℕ)
    → number_at w (to_be_bytes w n ++ rest) ≡ Some (from_be_bytes w (to_be_bytes w n), rest)
unfolding number_at
number_front wide n rest = grind (arith, nat_tests, common_steps, le-ltb, length-append, take_at, drop_at, wide.len n)

byte_front : (n : ℕ) (rest : List ℕ) → number_at w8 (n ∷ rest) ≡ Some (from_be_bytes w8 (n ∷ []), rest)
unfolding number_at
byte_front n rest = grind (arith, nat_tests, common_steps)

-- its argument: id, index, size, attributes, category and bytes
abbrev content : ℕ → ℕ → ℕ → ℕ → ℕ → List ℕ → List ℕ
content id index size attributes category bytes =
    to_be_bytes w32 id ++ (to_be_bytes w16 index ++ (to_be_bytes w16 size ++ (attributes ∷ category ∷ bytes)))

abbrev read_as : ℕ → ℕ → ℕ → ℕ → ℕ → List ℕ → Fields record_reply
read_as id index size attributes category bytes = (
  from_be_bytes w32 (to_be_bytes w32 id),
  (
    from_be_bytes w16 (to_be_bytes w16 index),
    (
      from_be_bytes w16 (to_be_bytes w16 size),
      (from_be_bytes w8 (attributes ∷ []), (from_be_bytes w8 (category ∷ []), (bytes, tt))),
    ),
  ),
)

content_read : (id index size attributes category : ℕ) (bytes : List ℕ)
    → fields_in record_reply (content id index size attributes category bytes) ≡ Some (read_as id index size attributes category bytes)
content_read id index size attributes category bytes =
    rw (number_front wide32 id (to_be_bytes w16 index ++ (to_be_bytes w16 size ++ (attributes ∷ category ∷ bytes))))
    (rw (number_front wide16 index (to_be_bytes w16 size ++ (attributes ∷ category ∷ bytes)))
    (rw (number_front wide16 size (attributes ∷ category ∷ bytes))
    (rw (byte_front attributes (category ∷ bytes)) (rw (byte_front category bytes) refl))))

size_small : (n : ℕ) → from_be_bytes w16 (to_be_bytes w16 n) ≤ n
size_small n = omega arith

fields_whole : (id index size attributes category : ℕ) (bytes : List ℕ) (v : Fields record_reply) → size ≡ length bytes
    → fields_in record_reply (content id index size attributes category bytes) ≡ Some v → nat_le v.1.1.0 (length v.1.1.1.1.1.0) ≡ true
fields_whole id index size attributes category bytes v all is =
    let same : read_as id index size attributes category bytes ≡ v =
    some_is (read_as id index size attributes category bytes) v (sym (content_read id index size attributes category bytes) ∙ is) in
    let small = size_small size in
    subst (λ (v : Fields record_reply). nat_le v.1.1.0 (length v.1.1.1.1.1.0) ≡ true) same
    (le-leb (from_be_bytes w16 (to_be_bytes w16 size)) (length bytes) (omega (arith, small, all)))

-- ---- a reply with a part of a record

-- all of it, where it fits into an argument
abbrev pub IsAll : ℕ → List ℕ → Type 0
IsAll size bytes = length bytes ≤ 65525 → size ≡ length bytes

argument_size : (id index size attributes category : ℕ) (bytes : List ℕ) → length (content id index size attributes category bytes) ≡ 10 + length bytes
argument_size id index size attributes category bytes =
    grind (arith, common_steps, nat_tests, length-append, wide32.len id, wide16.len index, wide16.len size)

at_read : (id index size attributes category : ℕ) (bytes : List ℕ) (end : ℕ) (value : ReplyValue) → size ≡ length bytes
    → reply_by (shape_of (function_of 0x20)) end (one (content id index size attributes category bytes) ∷ []) ≡ Ok value → is_whole (Ok value) ≡ true
unfolding reply_by function_of
at_read id index size attributes category bytes end value all is =
    let text = content id index size attributes category bytes in
    let made = bind_ok (valid_in record_reply _ _ _ text) _ is in
    let fields = valid_fields record_reply _ _ _ text made.0 made.1 in
    let v = made.0 in
    let value_is : reply.ReadRecord v.0 v.1.0 v.1.1.0 v.1.1.1.0 v.1.1.1.1.0 v.1.1.1.1.1.0 ≡ value = cc in
    subst (λ (value : ReplyValue). is_whole (Ok value) ≡ true) value_is (fields_whole id index size attributes category bytes v all fields)

next_read : (id index size attributes category : ℕ) (bytes : List ℕ) (end : ℕ) (value : ReplyValue) → size ≡ length bytes
    → reply_by (shape_of (function_of 0x1F)) end (one (content id index size attributes category bytes) ∷ []) ≡ Ok value → is_whole (Ok value) ≡ true
unfolding reply_by function_of
next_read id index size attributes category bytes end value all is =
    let text = content id index size attributes category bytes in
    let made = bind_ok (valid_in record_reply _ _ _ text) _ is in
    let fields = valid_fields record_reply _ _ _ text made.0 made.1 in
    let v = made.0 in
    let value_is : reply.ReadNextModifiedRec v.0 v.1.0 v.1.1.0 v.1.1.1.0 v.1.1.1.1.0 v.1.1.1.1.1.0 ≡ value = cc in
    subst (λ (value : ReplyValue). is_whole (Ok value) ≡ true) value_is (fields_whole id index size attributes category bytes v all fields)

-- an argument that is longer is not read, and one that is shorter is read whole
by_length : (number end : ℕ) (text : List ℕ) (value : ReplyValue)
    → (of_arguments (arguments_at 1 4 (arg_text (one text))) >>= answer_of number 0 end) ≡ Ok value
    → (length text ≤ 65535 → reply_by (shape_of (function_of number)) end (one text ∷ []) ≡ Ok value → is_whole (Ok value) ≡ true)
    → is_whole (Ok value) ≡ true
by_length number end text value is each =
    elim (le_or_more (length text) 65535) [
      | inl short ↦
          each short
          (subst (λ (r : Result (List Argument) ArgFault). (of_arguments r >>= answer_of number 0 end) ≡ Ok value) (short_read text short) is)
      | inr long ↦
          let found = bind_ok (of_arguments (arguments_at 1 4 (arg_text (one text)))) _ is in
          absurd (long_unread text found.0 long (arguments_found (arguments_at 1 4 (arg_text (one text))) found.0 found.1))
    ]

at_text : (id index size attributes category : ℕ) (bytes : List ℕ) (value : ReplyValue) → IsAll size bytes
    → reply_at 0x20 (reply_text (reply.ReadRecord id index size attributes category bytes)) ≡ Ok value → is_whole (Ok value) ≡ true
unfolding reply_at reply_byte
at_text id index size attributes category bytes value all is =
    let text = content id index size attributes category bytes in
    let end = length (0xA0 ∷ 1 ∷ 0 ∷ 0 ∷ arg_text (one text)) in
    by_length 0x20 end text value is (λ short read.
    let long = argument_size id index size attributes category bytes in
    at_read id index size attributes category bytes end value (all (omega (arith, long, short))) read)

next_text : (id index size attributes category : ℕ) (bytes : List ℕ) (value : ReplyValue) → IsAll size bytes
    → reply_at 0x1F (reply_text (reply.ReadNextModifiedRec id index size attributes category bytes)) ≡ Ok value → is_whole (Ok value) ≡ true
unfolding reply_at reply_byte
next_text id index size attributes category bytes value all is =
    let text = content id index size attributes category bytes in
    let end = length (0x9F ∷ 1 ∷ 0 ∷ 0 ∷ arg_text (one text)) in
    by_length 0x1F end text value is (λ short read.
    let long = argument_size id index size attributes category bytes in
    next_read id index size attributes category bytes end value (all (omega (arith, long, short))) read)

whole_where_read : (r : Result ReplyValue ReplyFault) → ((value : ReplyValue) → r ≡ Ok value → is_whole (Ok value) ≡ true) → is_whole r ≡ true
whole_where_read (Ok value) each = each value refl
whole_where_read (Err fault) each = refl

-- ---- what a device replies

-- a reply to a reading of a record, and to one of the next changed record
abbrev pub IsPart : ReplyValue → Type 0
IsPart (reply.ReadRecord id index size attributes category bytes) = IsAll size bytes
IsPart other = ⊥

abbrev pub IsNext : ReplyValue → Type 0
IsNext (reply.ReadNextModifiedRec id index size attributes category bytes) = IsAll size bytes
IsNext other = ⊥

part_whole : (value : ReplyValue) → IsPart value → is_whole (reply_at 0x20 (reply_text value)) ≡ true
part_whole (reply.ReadRecord id index size attributes category bytes) all =
    whole_where_read _ (λ value is. at_text id index size attributes category bytes value all is)
part_whole other none = absurd none

next_whole : (value : ReplyValue) → IsNext value → is_whole (reply_at 0x1F (reply_text value)) ≡ true
next_whole (reply.ReadNextModifiedRec id index size attributes category bytes) all =
    whole_where_read _ (λ value is. next_text id index size attributes category bytes value all is)
next_whole other none = absurd none

refused_whole : (number code : ℕ) → 0 < code → code < 2 ^ 16 → is_whole (reply_at number (reply_text (reply.Refused number code))) ≡ true
refused_whole number code some small = ap is_whole (read_again number (reply.Refused number code) (refused_reply number code some small))

part_outcome : (old : Device) (value : RequestValue) (r : Trial) → Keeps (Done old value) r → IfDone (λ (done : Device × ReplyValue). IsPart done.1) r
    → is_whole (reply_at 0x20 (outcome old 0x20 r).0) ≡ true
part_outcome old value (Ok done) keeps part = part_whole done.1 part
part_outcome old value (Err code) keeps part = refused_whole 0x20 code keeps.0 keeps.1

next_outcome : (old : Device) (value : RequestValue) (r : Trial) → Keeps (Done old value) r → IfDone (λ (done : Device × ReplyValue). IsNext done.1) r
    → is_whole (reply_at 0x1F (outcome old 0x1F r).0) ≡ true
next_outcome old value (Ok done) keeps part = next_whole done.1 part
next_outcome old value (Err code) keeps part = refused_whole 0x1F code keeps.0 keeps.1

all_taken : (bytes : List ℕ) → IsAll (length bytes) (take 65535 (drop 0 bytes))
all_taken bytes short = omega (arith, length-take 65535 (drop 0 bytes), length-drop 0 bytes, short)

part_done : (database : DatabaseValue) (index : ℕ) → IfDone IsPart (record_part database index 0 65535)
part_done database index =
    done_then (need not_found (slice_get database.records index)) _ IsPart (λ item found.
    done_then (check parameter (nat_le 0 (length item.content.bytes))) _ IsPart (λ within ok. all_taken item.content.bytes))

at_done : (device : Device) (handle place : ℕ) → IfDone (λ (done : Device × ReplyValue). IsPart done.1) (tried 0 device (reading_at handle place).asks)
unfolding tried
at_done device handle place =
    done_then (need none_open (base_at device handle)) _ (λ (done : Device × ReplyValue). IsPart done.1) (λ base there.
    replied IsPart device (read_in (reading.RecordAt place 0 65535) base.database)
    (done_then (check not_supported (fits (read_on (reading.RecordAt place 0 65535)) base.database)) _ IsPart (λ suited is.
    part_done base.database place)))

of_done : (device : Device) (handle id : ℕ) → IfDone (λ (done : Device × ReplyValue). IsPart done.1) (tried 0 device (reading_of handle id).asks)
unfolding tried
of_done device handle id =
    done_then (need none_open (base_at device handle)) _ (λ (done : Device × ReplyValue). IsPart done.1) (λ base there.
    replied IsPart device (read_in (reading.RecordOfId id 0 65535) base.database)
    (done_then (check not_supported (fits (read_on (reading.RecordOfId id 0 65535)) base.database)) _ IsPart (λ suited is.
    done_then (need not_found (place_of_id id base.database.records)) _ IsPart (λ index found. part_done base.database index))))

next_found : (next : ℕ) (database : DatabaseValue) → IfDone (λ (found : ℕ × ReplyValue). IsNext found.1) (next_in next database)
next_found next database =
    done_then (check not_supported (on_records database)) _ (λ (found : ℕ × ReplyValue). IsNext found.1) (λ suited is.
    done_then (need not_found (next_changed next database.records)) _ (λ (found : ℕ × ReplyValue). IsNext found.1) (λ place first.
    done_then (need not_found (slice_get database.records place)) _ (λ (found : ℕ × ReplyValue). IsNext found.1) (λ item there short. refl)))

next_done : (device : Device) (handle : ℕ) → IfDone (λ (done : Device × ReplyValue). IsNext done.1) (tried 0 device (reading_next handle).asks)
unfolding tried read_next_modified_rec
next_done device handle =
    done_with (next_of device handle) _ (λ (found : ℕ × ReplyValue). IsNext found.1) (λ (done : Device × ReplyValue). IsNext done.1)
    (done_then (need none_open (base_at device handle)) _ (λ (found : ℕ × ReplyValue). IsNext found.1) (λ base there.
    next_found base.opened.next base.database)) (λ found part. part)

pub at_whole : (handle place : ℕ) (device : Device) → IsRequest (reading_at handle place).asks
    → is_whole (reply_at 0x20 (acted (reading_at handle place) device).0) ≡ true
unfolding acted
at_whole handle place device fits =
    let one = (reading_at handle place).asks in
    part_outcome device one (tried 0 device one) (tried_done 0 device one (act_sayable one device fits refl).free) (at_done device handle place)

pub of_whole : (handle id : ℕ) (device : Device) → IsRequest (reading_of handle id).asks
    → is_whole (reply_at 0x20 (acted (reading_of handle id) device).0) ≡ true
unfolding acted
of_whole handle id device fits =
    let one = (reading_of handle id).asks in
    part_outcome device one (tried 0 device one) (tried_done 0 device one (act_sayable one device fits refl).free) (of_done device handle id)

pub next_is_whole : (handle : ℕ) (device : Device) → IsRequest (reading_next handle).asks
    → is_whole (reply_at 0x1F (acted (reading_next handle) device).0) ≡ true
unfolding acted
next_is_whole handle device fits =
    let one = (reading_next handle).asks in
    next_outcome device one (tried 0 device one) (tried_done 0 device one (act_sayable one device fits refl).free) (next_done device handle)

-- ---- a reply that isn't whole is none

kept_whole : (b : Bool) (number : ℕ) (bytes : List ℕ) → is_whole (reply_at number bytes) ≡ b
    → is_whole (reply_at number (if b then bytes else [])) ≡ true
unfolding reply_at
kept_whole true number bytes is = is
kept_whole false number bytes is = refl

pub reply_whole : (number : ℕ) (bytes : List ℕ) → is_whole (reply_at number (whole_reply number bytes)) ≡ true
reply_whole number bytes = kept_whole (is_whole (reply_at number bytes)) number bytes refl

kept_reply : (b : Bool) (bytes : List ℕ) → b ≡ true → (if b then bytes else []) ≡ bytes
kept_reply true bytes is = refl
kept_reply false bytes is = absurd cc

pub whole_kept : (number : ℕ) (bytes : List ℕ) → is_whole (reply_at number bytes) ≡ true → whole_reply number bytes ≡ bytes
whole_kept number bytes is = kept_reply (is_whole (reply_at number bytes)) bytes is

told_kept : (number : ℕ) (one : Act) (reply : List ℕ) (o : Option Talk) → ((device : Device) → is_whole (reply_at number (acted one device).0) ≡ true)
    → IfSome o (λ talk. reply ≡ (acted one talk.device).0) → IfSome o (λ talk. whole_reply number reply ≡ (acted one talk.device).0)
told_kept number one reply None whole told = tt
told_kept number one reply (Some said) whole told =
    whole_kept number reply (ap (λ bytes. is_whole (reply_at number bytes)) told ∙ whole said.device) ∙ told

module _ {L : Type 0} {talk : L → Option Talk} {since : L → L → Type 0} {fault : L → Option LinkFault} {downs : L → ℕ} {one : Act} {old now : SessionValue L} where
  -- an act was asked, and its reply is kept where it is whole
  pub asked_whole : (number : ℕ) {new : SessionValue L} → ((device : Device) → is_whole (reply_at number (acted one device).0) ≡ true)
      → AsksOne talk since fault downs one old now → new ≡ record now { reply = whole_reply number now.reply }
      → AsksOne talk since fault downs one old new
  asked_whole number whole asked is = rw is (record {
    fits = asked.fits;
    stops = asked.stops;
    does = asked.does;
    told = λ none. told_kept number one now.reply (talk old.link) whole (asked.told none);
    user = asked.user;
    abandoned = asked.abandoned;
  })
