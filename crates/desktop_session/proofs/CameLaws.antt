-- How many ids come in a reply of a device that is told: 8,000, or those that are left.
use Rattle.std.proofs.Common.{◌≡◌, ◌∙◌, ◌≤◌, ◌<◌, ◌+◌, ◌-◌, ◌*◌, ◌^◌, refl, ap, sym, subst, ℕ, zero, suc, Bool, true, false, List, [], ◌∷◌, ◌++◌, length, take, drop, arith, lit<}
use Rattle.std.specs.Prelude.{Option, Some, None, IsOk, Result, Ok, Err, min}
use Rattle.std.specs.Int.{w16, from_be_bytes, to_be_bytes}
use Rattle.std.proofs.lemmas.List.{length-append, length-drop, length-map, length-take}
use Rattle.std.proofs.lemmas.Grind.{common_steps}
use Rattle.std.proofs.lemmas.Bool.{eqb-true}
use Rattle.std.proofs.lemmas.Bool.Decides.{nat_tests}
use Rattle.dlp_args.specs.Arguments.{Argument, arg_text}
use Rattle.dlp_args.specs.Fields.{Fields, fields_in}
use Rattle.dlp_args.specs.Functions.{function_of}
use Rattle.dlp_args.specs.Reading.{◌>>=◌}
use Rattle.dlp_args.specs.declared.fault.ArgFault.{ArgFault}
use Rattle.dlp_args.proofs.CellLaws.{number_again}
use Rattle.dlp_args.proofs.NumberLaws.{bind_ok, wide16}
use Rattle.dlp_replies.specs.declared.fault.ReplyFault.{ReplyFault}
use Rattle.dlp_replies.specs.Faults.{of_arguments}
use Rattle.dlp_replies.specs.Frames.{reply_text}
use Rattle.dlp_replies.specs.IdLists.{ids_text, words}
use Rattle.dlp_replies.specs.Layouts.{count_alone, id_list}
use Rattle.dlp_replies.specs.ReplyReading.{answer_of, reply_at, reply_by, reply_byte, valid_in}
use Rattle.dlp_replies.specs.ReplyValues as reply
use Rattle.dlp_replies.specs.ReplyValues.{ReplyValue}
use Rattle.dlp_replies.specs.Shapes.{shape_of}
use Rattle.palm_device.specs.Devices.{Device}
use Rattle.palm_device.specs.Handles.{Base, base_at}
use Rattle.palm_device.specs.Soundness.{ids_of}
use Rattle.dlp_commands.specs.DeviceSteps.{tried}
use Rattle.dlp_commands.specs.Holding.{on_records}
use Rattle.dlp_commands.proofs.ReplyLaws.{refused_reply}
use Rattle.dlp_commands.specs.Errors.{none_open, not_supported}
use Rattle.dlp_args.specs.CellReading.{number_at}
use Rattle.desktop_session.specs.declared.fault.SessionFault.{SessionFault}
use Rattle.desktop_session.specs.Acts.{acted}
use Rattle.desktop_session.specs.Answers as answers
use Rattle.desktop_session.specs.Answers.{count_of, said_in}
use Rattle.desktop_session.specs.Lists.{ids_in}
use Rattle.desktop_session.specs.Requests.{counting, listing_ids}
use Rattle.desktop_session.proofs.StartLaws.{one, short_read, valid_fields, valid_sizes}
use Rattle.desktop_session.proofs.TellLaws.{read_again}
use Rattle.dlp_replies.proofs.IdLaws.{ids_text_len}

-- ---- what is read of a list of ids

words_length : (n : ℕ) (bytes : List ℕ) → 4 * n ≡ length bytes → length (words bytes) ≡ n
unfolding words
words_length zero [] is = refl
words_length zero (a ∷ bytes) is = absurd (omega (arith, is))
words_length (suc n) [] is = absurd (omega (arith, is))
words_length (suc n) (a ∷ []) is = absurd (omega (arith, is))
words_length (suc n) (a ∷ b ∷ []) is = absurd (omega (arith, is))
words_length (suc n) (a ∷ b ∷ c ∷ []) is = absurd (omega (arith, is))
words_length (suc n) (a ∷ b ∷ c ∷ d ∷ bytes) is = ap suc (words_length n bytes (omega (arith, is)))

first_number : (m : ℕ) (rest : List ℕ) (v : Fields id_list) → m < 2 ^ 16 → fields_in id_list (to_be_bytes w16 m ++ rest) ≡ Some v → v.0 ≡ m
first_number m rest v half is = grind (arith, nat_tests, common_steps, number_again wide16 m rest half)

list_read : (m : ℕ) (rest : List ℕ) (end : ℕ) (value : ReplyValue) → m < 2 ^ 16
    → reply_by (shape_of (function_of 0x31)) end (one (to_be_bytes w16 m ++ rest) ∷ []) ≡ Ok value → length (answers.ids_of value) ≡ m
unfolding reply_by function_of
list_read m rest end value half is =
    let content : List ℕ = to_be_bytes w16 m ++ rest in
    let made = bind_ok (valid_in id_list _ _ _ content) _ is in
    let first : made.0.0 ≡ m = first_number m rest made.0 half (valid_fields id_list _ _ _ content made.0 made.1) in
    let sized = eqb-true _ _ (valid_sizes id_list _ _ _ content made.0 made.1) in
    let same : length (words made.0.1.0) ≡ made.0.0 = words_length made.0.0 made.0.1.0 sized in
    let value_is : reply.ReadRecordIdList (words made.0.1.0) ≡ value = cc in
    ap (λ v. length (answers.ids_of v)) (sym value_is) ∙ same ∙ first

ids_read : (ids : List ℕ) (value : ReplyValue) → length ids ≤ 8000 → reply_at 0x31 (reply_text (reply.ReadRecordIdList ids)) ≡ Ok value
    → length (answers.ids_of value) ≡ length ids
unfolding reply_at reply_byte
ids_read ids value few is =
    let content : List ℕ = to_be_bytes w16 (length ids) ++ ids_text ids in
    let end = length (0xB1 ∷ 1 ∷ 0 ∷ 0 ∷ arg_text (one content)) in
    let size : length content ≡ 2 + 4 * length ids = length-append (to_be_bytes w16 (length ids)) (ids_text ids) ∙ ap (λ n. 2 + n) (ids_text_len ids) in
    list_read (length ids) (ids_text ids) end value (omega (arith, few))
    (subst (λ (r : Result (List Argument) ArgFault). (of_arguments r >>= answer_of 0x31 0 end) ≡ Ok value)
    (short_read content (omega (arith, size, few))) is)

-- ---- what is read of a number of entries

number_small : (n : ℕ) → from_be_bytes w16 (to_be_bytes w16 n) ≤ n
number_small n = omega arith

count_field : (n : ℕ) (v : Fields count_alone) → fields_in count_alone (to_be_bytes w16 n) ≡ Some v → v.0 ≡ from_be_bytes w16 (to_be_bytes w16 n)
unfolding number_at
count_field n v is = grind (arith, nat_tests, common_steps, wide16.len n)

number_read : (n end : ℕ) (value : ReplyValue) → reply_by (shape_of (function_of 0x2B)) end (one (to_be_bytes w16 n) ∷ []) ≡ Ok value → count_of value ≤ n
unfolding reply_by function_of
number_read n end value is =
    let made = bind_ok (valid_in count_alone _ _ _ (to_be_bytes w16 n)) _ is in
    let first : made.0.0 ≡ from_be_bytes w16 (to_be_bytes w16 n) =
    count_field n made.0 (valid_fields count_alone _ _ _ (to_be_bytes w16 n) made.0 made.1) in
    let value_is : reply.ReadOpenDbInfo made.0.0 ≡ value = cc in
    subst (λ m. m ≤ n) (sym first ∙ ap count_of value_is) (number_small n)

count_read : (n : ℕ) (value : ReplyValue) → reply_at 0x2B (reply_text (reply.ReadOpenDbInfo n)) ≡ Ok value → count_of value ≤ n
unfolding reply_at reply_byte
count_read n value is =
    let content : List ℕ = to_be_bytes w16 n in
    let end = length (0xAB ∷ 1 ∷ 0 ∷ 0 ∷ arg_text (one content)) in
    number_read n end value
    (subst (λ (r : Result (List Argument) ArgFault). (of_arguments r >>= answer_of 0x2B 0 end) ≡ Ok value)
    (short_read content (omega (arith, wide16.len n))) is)

-- ---- the device's replies

ok_value : {A : Type 0} (r : Result A SessionFault) → IsOk r → (x : A) × (r ≡ Ok x)
ok_value r is = grind (arith, nat_tests, common_steps)

said_value : {A : Type 0} (function : ℕ) (says : ReplyValue → A) (read : Result ReplyValue ReplyFault) {x : A} → said_in function says read ≡ Ok x
    → (value : ReplyValue) × (read ≡ Ok value) × (x ≡ says value)
said_value function says (Err broken) is = absurd cc
said_value function says (Ok value) is = grind (arith, nat_tests, common_steps)

no_refusal : {A : Type 0} (says : ReplyValue → A) (number code : ℕ) (bytes : List ℕ) → 0 < code → code < 2 ^ 16
    → bytes ≡ reply_text (reply.Refused number code) → IsOk (said_in number says (reply_at number bytes)) → ⊥
no_refusal says number code bytes some small is done =
    let read : reply_at number bytes ≡ Ok (reply.Refused number code) =
    ap (reply_at number) is ∙ read_again number (reply.Refused number code) (refused_reply number code some small) in
    let other = subst (λ r. IsOk (said_in number says r)) read done in absurd cc

ids_there : (device : Device) (handle start : ℕ) {base : Base} → base_at device handle ≡ Some base → on_records base.database ≡ true
    → (acted (listing_ids handle start) device).0 ≡ reply_text (reply.ReadRecordIdList (take 8000 (drop start (ids_of base.database.records))))
unfolding acted tried
ids_there device handle start there records = rw (there, records) refl

ids_resources : (device : Device) (handle start : ℕ) {base : Base} → base_at device handle ≡ Some base → on_records base.database ≡ false
    → (acted (listing_ids handle start) device).0 ≡ reply_text (reply.Refused 0x31 not_supported)
unfolding acted tried
ids_resources device handle start there records = rw (there, records) refl

ids_closed : (device : Device) (handle start : ℕ) → base_at device handle ≡ None
    → (acted (listing_ids handle start) device).0 ≡ reply_text (reply.Refused 0x31 none_open)
unfolding acted tried
ids_closed device handle start there = rw there refl

count_there : (device : Device) (handle : ℕ) {base : Base} → base_at device handle ≡ Some base → on_records base.database ≡ true
    → (acted (counting handle) device).0 ≡ reply_text (reply.ReadOpenDbInfo (length base.database.records))
unfolding acted tried
count_there device handle there records = grind (arith, nat_tests, common_steps)

-- So many came from a start on: at most 8,000, so many where the count isn't reached, and some before it.
pub record Came (start count came : ℕ) : Type 0 where
  pub few : came ≤ 8000
  pub full : start + came < count → came ≡ 8000
  pub some : start < count → 0 < came

came_from : (all start count came : ℕ) → count ≤ all → came ≡ min 8000 (all - start) → Came start count came
came_from all start count came within is = record {
  few = grind (arith, nat_tests, common_steps);
  full = λ less. grind (arith, nat_tests, common_steps);
  some = λ less. grind (arith, nat_tests, common_steps);
}

came_by : (o : Option Base) (records : Bool) (device : Device) (handle start count : ℕ) → base_at device handle ≡ o
    → said_in 0x2B count_of (reply_at 0x2B (acted (counting handle) device).0) ≡ Ok count
    → IsOk (said_in 0x31 answers.ids_of (reply_at 0x31 (acted (listing_ids handle start) device).0))
    → ((base : Base) → o ≡ Some base → on_records base.database ≡ records)
    → Came start count (length (ids_in (reply_at 0x31 (acted (listing_ids handle start) device).0)))
came_by None records device handle start count there said done holds =
    absurd (no_refusal answers.ids_of 0x31 none_open _ (lit< tt) (lit< tt) (ids_closed device handle start there) done)
came_by (Some base) false device handle start count there said done holds =
    absurd (no_refusal answers.ids_of 0x31 not_supported _ (lit< tt) (lit< tt) (ids_resources device handle start there (holds base refl)) done)
came_by (Some base) true device handle start count there said done holds =
    let ids = ids_of base.database.records in
    let part = take 8000 (drop start ids) in
    let few : length part ≤ 8000 = omega (arith, length-take 8000 (drop start ids)) in
    let is = ids_there device handle start there (holds base refl) in
    let ok = ok_value (said_in 0x31 answers.ids_of (reply_at 0x31 (acted (listing_ids handle start) device).0)) done in
    let value = said_value 0x31 answers.ids_of _ ok.1 in
    let counted = said_value 0x2B count_of _ said in
    let came : length (answers.ids_of value.0) ≡ length part = ids_read part value.0 few (ap (reply_at 0x31) (sym is) ∙ value.1) in
    let within : count_of counted.0 ≤ length base.database.records =
    count_read (length base.database.records) counted.0
    (ap (reply_at 0x2B) (sym (count_there device handle there (holds base refl))) ∙ counted.1) in
    came_from (length base.database.records) start count _ (subst (λ n. n ≤ length base.database.records) (sym counted.2) within)
    (ap (λ r. length (ids_in r)) value.1 ∙ came ∙ length-take 8000 (drop start ids)
    ∙ ap (min 8000) (length-drop start ids ∙ ap (λ n. n - start) (length-map base.database.records _)))

pub ids_came : (device : Device) (handle start count : ℕ) → said_in 0x2B count_of (reply_at 0x2B (acted (counting handle) device).0) ≡ Ok count
    → IsOk (said_in 0x31 answers.ids_of (reply_at 0x31 (acted (listing_ids handle start) device).0))
    → Came start count (length (ids_in (reply_at 0x31 (acted (listing_ids handle start) device).0)))
ids_came device handle start count said done = by (base_at device handle) refl
  where
    by : (o : Option Base) → base_at device handle ≡ o → Came start count (length (ids_in (reply_at 0x31 (acted (listing_ids handle start) device).0)))
    by None there = came_by None false device handle start count there said done (λ base is. absurd cc)
    by (Some base) there =
        came_by (Some base) (on_records base.database) device handle start count there said done (λ other is. let same : base ≡ other = cc in ap (λ b. on_records b.database) (sym same))
