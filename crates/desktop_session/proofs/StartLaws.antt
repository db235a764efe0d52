-- Over a device that is told a list of its databases goes on behind each start: the last index that a reply names is the start.
use Rattle.std.proofs.Common.{◌≡◌, ◌∙◌, ◌≤◌, ◌<◌, ◌+◌, ◌^◌, refl, ap, sym, subst, inl, inr, ℕ, Bool, true, false, List, [], ◌∷◌, ◌++◌, length, arith, lit<, lit≤}
use Rattle.std.specs.Prelude.{◌⊎◌, Option, Some, None, Result, Ok, slice_get}
use Rattle.std.specs.Int.{w16, from_be_bytes, to_be_bytes}
use Rattle.std.proofs.lemmas.Bool.{le-ltb}
use Rattle.std.proofs.lemmas.List.{append-nil, length-drop}
use Rattle.std.proofs.lemmas.Grind.{common_steps}
use Rattle.std.proofs.lemmas.Bool.Decides.{nat_tests}
use Rattle.pdb_values.specs.Databases.{DatabaseValue}
use Rattle.pdb_values.specs.declared.head.DbHead.{DbHead}
use Rattle.dlp_args.specs.Arguments.{Argument, arg_text, written_form}
use Rattle.dlp_args.specs.Cells.{CellKind}
use Rattle.dlp_args.specs.Fields.{Fields, fields_in}
use Rattle.dlp_args.specs.Functions.{function_of}
use Rattle.dlp_args.specs.Reading.{◌>>=◌, argument_at, arguments_at, header_at, short_at}
use Rattle.dlp_args.specs.declared.fault.ArgFault.{ArgFault}
use Rattle.dlp_args.proofs.ArgumentLaws.{arguments_again, written_text}
use Rattle.dlp_args.proofs.CellLaws.{number_again}
use Rattle.dlp_args.proofs.NumberLaws.{bind_ok, wide16}
use Rattle.dlp_replies.specs.declared.fault.ReplyFault.{ReplyFault}
use Rattle.dlp_replies.specs.Checks.{Checks}
use Rattle.dlp_replies.specs.EntryLists.{entries_text}
use Rattle.dlp_replies.specs.Faults.{of_arguments}
use Rattle.dlp_replies.specs.Frames.{reply_text}
use Rattle.dlp_replies.specs.Layouts.{db_list}
use Rattle.dlp_replies.specs.ReplyReading.{answer_of, reply_at, reply_by, reply_byte, valid_in}
use Rattle.dlp_replies.specs.ReplyValues as reply
use Rattle.dlp_replies.specs.ReplyValues.{ReplyValue}
use Rattle.dlp_replies.specs.Shapes.{shape_of}
use Rattle.palm_device.specs.Devices.{Device}
use Rattle.dlp_commands.specs.DatabaseFunctions.{listed, more_flag, read_db_list}
use Rattle.dlp_commands.specs.DeviceSteps.{tried}
use Rattle.dlp_commands.proofs.ReplyLaws.{refused_reply}
use Rattle.desktop_session.specs.Acts.{acted}
use Rattle.desktop_session.specs.Lists.{has_more, heads_in, list_reply}
use Rattle.desktop_session.specs.Requests.{listing}
use Rattle.desktop_session.specs.Starts.{ListedTo, Begun, GoesOn, next_start}
use Rattle.desktop_session.proofs.TellLaws.{read_again}

-- ---- what is read of a reply whose argument begins with a number

abbrev pub one : List ℕ → Argument
one content = record { id = 0x20; bytes = content }

front_field : (k : ℕ) (rest : List ℕ) (v : Fields db_list) → k < 2 ^ 16 → fields_in db_list (to_be_bytes w16 k ++ rest) ≡ Some v → v.0 ≡ k
front_field k rest v half is = grind (arith, nat_tests, common_steps, number_again wide16 k rest half)

pub valid_fields : (kinds : List CellKind) (sizes : Fields kinds → Bool) (checks : Fields kinds → Checks) (place : ℕ) (content : List ℕ) (v : Fields kinds)
    → valid_in kinds sizes checks place content ≡ Ok v → fields_in kinds content ≡ Some v
unfolding valid_in
valid_fields kinds sizes checks place content v is = grind arith

pub valid_sizes : (kinds : List CellKind) (sizes : Fields kinds → Bool) (checks : Fields kinds → Checks) (place : ℕ) (content : List ℕ) (v : Fields kinds)
    → valid_in kinds sizes checks place content ≡ Ok v → sizes v ≡ true
unfolding valid_in
valid_sizes kinds sizes checks place content v is = grind arith

pub arguments_found : (r : Result (List Argument) ArgFault) (arguments : List Argument) → of_arguments r ≡ Ok arguments → r ≡ Ok arguments
arguments_found r arguments is = grind arith

pub le_or_more : (n limit : ℕ) → (n ≤ limit) ⊎ (limit < n)
le_or_more n limit = grind (arith, nat_tests, common_steps)

-- where its argument is read
one_read : (k : ℕ) (rest : List ℕ) (end last flags : ℕ) (entries : List (ℕ × DbHead)) → k < 2 ^ 16
    → reply_by (shape_of (function_of 0x16)) end (one (to_be_bytes w16 k ++ rest) ∷ []) ≡ Ok (reply.ReadDbList last flags entries) → last ≡ k
unfolding reply_by function_of
one_read k rest end last flags entries half is =
    let made = bind_ok (valid_in db_list _ _ _ (to_be_bytes w16 k ++ rest)) _ is in
    let fields = valid_fields db_list _ _ _ (to_be_bytes w16 k ++ rest) made.0 made.1 in
    let first : made.0.0 ≡ k = front_field k rest made.0 half fields in
    let same : made.0.0 ≡ last = cc in
    sym same ∙ first

-- an argument of more than 65,535 bytes is not read to its end
long_text : (content : List ℕ) → 65535 < length content → arg_text (one content) ≡ 0xA0 ∷ 0 ∷ (to_be_bytes w16 (length content) ++ content)
long_text content long = rw (le-ltb (length content) 255 (omega arith)) refl

long_header : (n : ℕ) (content : List ℕ) → header_at 4 (0xA0 ∷ 0 ∷ (to_be_bytes w16 n ++ content))
    ≡ Ok (record { id = 0x20; size = from_be_bytes w16 (to_be_bytes w16 n); rest = content })
unfolding header_at short_at
long_header n content = grind (arith, nat_tests, common_steps, wide16.len n)

small_size : (n : ℕ) → from_be_bytes w16 (to_be_bytes w16 n) < 65536
small_size n = omega arith

none_left : (place : ℕ) (bytes : List ℕ) (arguments : List Argument) → arguments_at 0 place bytes ≡ Ok arguments → length bytes ≡ 0
unfolding arguments_at
none_left place [] arguments is = refl
none_left place (byte ∷ bytes) arguments is = absurd cc

some_left : (text content : List ℕ) (size : ℕ) (found : Argument × List ℕ) → header_at 4 text ≡ Ok (record { id = 0x20; size = size; rest = content })
    → size < length content → argument_at 4 text ≡ Ok found → length found.1 ≡ 0 → ⊥
unfolding argument_at
some_left text content size found header less is none = grind (arith, nat_tests, common_steps, length-drop size content)

pub long_unread : (content : List ℕ) (arguments : List Argument) → 65535 < length content → arguments_at 1 4 (arg_text (one content)) ≡ Ok arguments → ⊥
unfolding arguments_at
long_unread content arguments long is =
    let text = arg_text (one content) in
    let n = length content in
    let found = bind_ok (argument_at 4 text) _ is in
    let others = bind_ok (arguments_at 0 _ found.0.1) _ found.2 in
    let small = small_size n in
    some_left text content (from_be_bytes w16 (to_be_bytes w16 n)) found.0 (ap (header_at 4) (long_text content long) ∙ long_header n content) (omega arith)
    found.1 (none_left _ found.0.1 others.0 others.1)

pub short_read : (content : List ℕ) → length content ≤ 65535 → arguments_at 1 4 (arg_text (one content)) ≡ Ok (one content ∷ [])
short_read content short =
    arguments_again (one content ∷ []) 4 (arg_text (one content)) (
      written_form (length content),
      arg_text (one content),
      [],
      written_text (one content) (record { low = lit≤ tt; high = lit< tt; size = short }),
      sym (append-nil (arg_text (one content))),
      refl,
    )

-- such a reply is read as one whose last index is the number
number_read : (k : ℕ) (rest : List ℕ) (last flags : ℕ) (entries : List (ℕ × DbHead)) → k < 2 ^ 16
    → reply_at 0x16 (0x96 ∷ 1 ∷ 0 ∷ 0 ∷ arg_text (one (to_be_bytes w16 k ++ rest))) ≡ Ok (reply.ReadDbList last flags entries) → last ≡ k
unfolding reply_at reply_byte
number_read k rest last flags entries half is =
    let content : List ℕ = to_be_bytes w16 k ++ rest in
    let end = length (0x96 ∷ 1 ∷ 0 ∷ 0 ∷ arg_text (one content)) in
    elim (le_or_more (length content) 65535) [
      | inl short ↦
          one_read k rest end last flags entries half
          (subst (λ (r : Result (List Argument) ArgFault). (of_arguments r >>= answer_of 0x16 0 end) ≡ Ok (reply.ReadDbList last flags entries))
          (short_read content short) is)
      | inr long ↦
          let found = bind_ok (of_arguments (arguments_at 1 4 (arg_text (one content)))) _ is in
          absurd (long_unread content found.0 long (arguments_found (arguments_at 1 4 (arg_text (one content))) found.0 found.1))
    ]

-- ---- the device's reply to a list

reply_there : (device : Device) (k : ℕ) {database : DatabaseValue} → slice_get device.databases k ≡ Some database
    → (acted (listing k) device).0 ≡ reply_text (reply.ReadDbList k (more_flag k (length device.databases)) ((k, listed database.head) ∷ []))
unfolding acted tried read_db_list
reply_there device k there = rw there refl

reply_none : (device : Device) (k : ℕ) → slice_get device.databases k ≡ None → (acted (listing k) device).0 ≡ reply_text (reply.Refused 0x16 5)
unfolding acted tried read_db_list
reply_none device k none = rw none refl

last_by : (o : Option DatabaseValue) (device : Device) (k last flags : ℕ) (entries : List (ℕ × DbHead)) → k < 2 ^ 16 → slice_get device.databases k ≡ o
    → list_reply device k ≡ Ok (reply.ReadDbList last flags entries) → last ≡ k
last_by (Some database) device k last flags entries half there is =
    let head = listed database.head in
    number_read k (more_flag k (length device.databases) ∷ 1 ∷ entries_text ((k, head) ∷ [])) last flags entries half
    (ap (reply_at 0x16) (sym (reply_there device k there)) ∙ is)
last_by None device k last flags entries half none is =
    let refused : reply_at 0x16 (reply_text (reply.Refused 0x16 5)) ≡ Ok (reply.Refused 0x16 5) =
    read_again 0x16 (reply.Refused 0x16 5) (refused_reply 0x16 5 (lit< tt) (lit< tt)) in
    let other : Ok (reply.Refused 0x16 5) ≡ Ok (reply.ReadDbList last flags entries) =
    sym refused ∙ ap (reply_at 0x16) (sym (reply_none device k none)) ∙ is in
    absurd cc

-- a device's reply names the start as its last index
pub last_is_start : (device : Device) (k last flags : ℕ) (entries : List (ℕ × DbHead)) → k < 2 ^ 16
    → list_reply device k ≡ Ok (reply.ReadDbList last flags entries) → last ≡ k
last_is_start device k last flags entries half is = last_by (slice_get device.databases k) device k last flags entries half refl is

-- ---- where a list goes on

pub more_follow : (read : Result ReplyValue ReplyFault) (start next : ℕ) → next_start start read ≡ Some next → has_more read ≡ true
more_follow read start next goes = grind (arith, nat_tests, common_steps)

pub next_below : (read : Result ReplyValue ReplyFault) (start next : ℕ) → next_start start read ≡ Some next → next < 65536
next_below read start next goes = grind (arith, nat_tests, common_steps)

pub told_next : (device : Device) (start next : ℕ) → start < 2 ^ 16 → next_start start (list_reply device start) ≡ Some next → next ≡ start + 1
told_next device start next half goes = by (list_reply device start) refl goes
  where
    by : (read : Result ReplyValue ReplyFault) → list_reply device start ≡ read → next_start start read ≡ Some next → next ≡ start + 1
    by (Ok (reply.ReadDbList last flags entries)) is goes =
        let same = last_is_start device start last flags entries half is in grind (arith, nat_tests, common_steps)
    by read is goes = grind (arith, nat_tests, common_steps)

pub told_end : (device : Device) (start : ℕ) → start < 2 ^ 16 → next_start start (list_reply device start) ≡ None
    → (start ≡ 65535) ⊎ (has_more (list_reply device start) ≡ false)
told_end device start half ends = by (list_reply device start) refl ends
  where
    by : (read : Result ReplyValue ReplyFault) → list_reply device start ≡ read → next_start start read ≡ None
        → (start ≡ 65535) ⊎ (has_more read ≡ false)
    by (Ok (reply.ReadDbList last flags entries)) is ends =
        let same = last_is_start device start last flags entries half is in grind (arith, nat_tests, common_steps)
    by read is ends = grind (arith, nat_tests, common_steps)

-- ---- the heads that came

pub listed_none : {heads : List DbHead} → heads ≡ [] → ListedTo 0 heads
listed_none none = subst (ListedTo 0) (sym none) Begun

pub listed_on : {start next : ℕ} {heads more : List DbHead} (read : Result ReplyValue ReplyFault) → ListedTo start heads → next_start start read ≡ Some next
    → more ≡ heads ++ heads_in read → ListedTo next more
listed_on {next} read before goes is = subst (ListedTo next) (sym is) (GoesOn before read goes)

pub next_above : (read : Result ReplyValue ReplyFault) (start next : ℕ) → next_start start read ≡ Some next → start < next
next_above read start next goes = grind (arith, nat_tests, common_steps)
