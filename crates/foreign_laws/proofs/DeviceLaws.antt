-- The steps of our own device for the number of entries and for the ids of what is open under handle 1.
use Rattle.std.proofs.Common.{◌≡◌, ◌∙◌, ◌≤◌, ◌<◌, ◌^◌, refl, sym, ap, ℕ, Bool, true, false, List, [], length, take, drop, arith, lit<}
use Rattle.std.proofs.lemmas.Grind.{common_steps}
use Rattle.std.proofs.lemmas.Bool.Decides.{nat_tests}
use Rattle.std.proofs.lemmas.List.{length-map}
use Rattle.std.specs.Prelude.{Option, Some, None, Ok, Err, if◌then◌else◌}
use Rattle.pdb_values.specs.Heads.{holds_resources}
use Rattle.pdb_values.specs.declared.record.Record.{Record}
use Rattle.dlp_requests.specs.RequestTexts.{IsRequest, request_text}
use Rattle.dlp_requests.specs.RequestValues.{RequestValue}
use Rattle.dlp_replies.specs.ReplyReading.{reply_at}
use Rattle.dlp_replies.specs.ReplyValues as reply
use Rattle.dlp_replies.specs.ReplyValues.{ReplyValue}
use Rattle.palm_device.specs.Devices.{Device}
use Rattle.palm_device.specs.Handles.{Base, base_at}
use Rattle.palm_device.specs.Soundness as sound
use Rattle.dlp_commands.specs.DeviceSteps.{DeviceStep, MayGive, function_number, served, tried}
use Rattle.dlp_commands.specs.Errors.{need, none_open, ◌>>=◌}
use Rattle.dlp_commands.specs.Holding.{on_records}
use Rattle.dlp_commands.specs.Readings.{read_in}
use Rattle.dlp_commands.specs.declared.reading.Reading.{Reading}
use Rattle.dlp_commands.specs.declared.reading.Reading.TheVariants as reading
use Rattle.desktop_session.specs.Acts.{AsksNoId, act, acted}
use Rattle.desktop_session.specs.Answers.{count_of, ids_of, said_in}
use Rattle.desktop_session.specs.Requests.{counting, listing_ids}
use Rattle.desktop_session.specs.Tellings.{IsTellable, tells, told}
use Rattle.desktop_session.proofs.ActLaws.{read_back, step_act}
use Rattle.desktop_session.proofs.LentLaws.{base_bounded}
use Rattle.desktop_session.proofs.TellLaws.{act_sayable, acted_reads, form_gives}

-- ---- a step is an act

-- what a device's step by a request that asks for no id is
pub record ActStep (old : Device) (value : RequestValue) (own : List ℕ) (new : Device) : Type 0 where
  pub device : new ≡ (acted (act value) old).1
  pub reads : reply_at (function_number value) own ≡ Ok (told (act value) old)

pub step_is : (value : RequestValue) (old new : Device) (own : List ℕ) → IsTellable old → IsRequest value → AsksNoId value
    → DeviceStep old (request_text value) own new → ActStep old value own new
step_is value old new own proper fits fixed step =
    let is = step_act value fits fixed step in
    record {
      device = sym (ap (λ (q : List ℕ × Device). q.1) is);
      reads = ap (λ (q : List ℕ × Device). reply_at (function_number value) q.0) (sym is)
          ∙ acted_reads (act value) old proper (act_sayable value old fits fixed);
    }

-- and the step that an act is
pub own_step : (value : RequestValue) (device : Device) → IsRequest value → AsksNoId value
    → DeviceStep device (request_text value) (acted (act value) device).0 (acted (act value) device).1
unfolding acted served MayGive
own_step value device fits fixed =
    let back = read_back value fits in
    record {
      free = 0;
      may = rw back (form_gives device 0 value.form value.fields fixed);
      is = cc;
    }

-- ---- what is open under handle 1

-- the ids of its records; a database of resources has none
abbrev pub kept_ids : Option Base → List ℕ
kept_ids None = []
kept_ids (Some base) = if on_records base.database then sound.ids_of base.database.records else []

abbrev pub ids_open : Device → List ℕ
ids_open device = kept_ids (base_at device 1)

-- what is told of it, where it is read
abbrev read_open : ℕ → Device → Option Base → Reading → ReplyValue
read_open number device led asked =
    tells number (need none_open led >>= λ base. read_in asked base.database >>= λ answer. Ok (device, answer))

some_ids : (number start : ℕ) (device : Device) (base : Base) (b : Bool) → on_records base.database ≡ b
    → ids_of (read_open number device (Some base) (reading.RecordIds start 8000)) ≡ take 8000 (drop start (kept_ids (Some base)))
some_ids number start device base true is = rw is refl
some_ids number start device base false is = grind (arith, common_steps, nat_tests)

ids_by : (number start : ℕ) (device : Device) (led : Option Base)
    → ids_of (read_open number device led (reading.RecordIds start 8000)) ≡ take 8000 (drop start (kept_ids led))
ids_by number start device None = grind (arith, common_steps, nat_tests)
ids_by number start device (Some base) = some_ids number start device base (on_records base.database) refl

pub told_ids : (device : Device) (start : ℕ) → ids_of (told (listing_ids 1 start) device) ≡ take 8000 (drop start (ids_open device))
unfolding told tried
told_ids device start = ids_by 0x31 start device (base_at device 1)

-- where it has ids the list is no refusal
list_some : (start : ℕ) (device : Device) (base : Base) (b : Bool) → on_records base.database ≡ b → 0 < length (kept_ids (Some base))
    → read_open 0x31 device (Some base) (reading.RecordIds start 8000) ≡ reply.ReadRecordIdList (take 8000 (drop start (kept_ids (Some base))))
list_some start device base true is some = rw is refl
list_some start device base false is some = absurd (let none = rw is at some in omega arith)

list_by : (start : ℕ) (device : Device) (led : Option Base) → 0 < length (kept_ids led)
    → read_open 0x31 device led (reading.RecordIds start 8000) ≡ reply.ReadRecordIdList (take 8000 (drop start (kept_ids led)))
list_by start device None some = absurd (omega arith)
list_by start device (Some base) some = list_some start device base (on_records base.database) refl some

pub told_list : (device : Device) (start : ℕ) → 0 < length (ids_open device)
    → told (listing_ids 1 start) device ≡ reply.ReadRecordIdList (take 8000 (drop start (ids_open device)))
unfolding told tried
told_list device start some = list_by start device (base_at device 1) some

-- the number of its entries is that of its ids, unless it has none
abbrev IsCount : Option Base → ℕ → Type 0
IsCount led count = count ≤ length (kept_ids led) → count ≡ length (kept_ids led)

count_some : (device : Device) (base : Base) (count : ℕ) (b : Bool) → holds_resources base.database.head.attributes ≡ b
    → said_in 0x2B count_of (Ok (read_open 0x2B device (Some base) reading.EntryCount)) ≡ Ok count → IsCount (Some base) count
count_some device base count true is said below = let none : count ≤ 0 = rw is at below in rw is (omega arith)
count_some device base count false is said below = grind (arith, common_steps, nat_tests)

count_by : (device : Device) (led : Option Base) (count : ℕ) → said_in 0x2B count_of (Ok (read_open 0x2B device led reading.EntryCount)) ≡ Ok count
    → IsCount led count
count_by device None count said below = absurd (let e : Err _ ≡ Ok count = said in cc)
count_by device (Some base) count said below = count_some device base count (holds_resources base.database.head.attributes) refl said below

pub told_count : (device : Device) (count : ℕ) → said_in 0x2B count_of (Ok (told (counting 1) device)) ≡ Ok count → IsCount (base_at device 1) count
unfolding told tried
told_count device count said = count_by device (base_at device 1) count said

-- there are fewer than two bytes count
few_some : (base : Base) (b : Bool) → on_records base.database ≡ b → length base.database.records ≤ 65535 → length (kept_ids (Some base)) < 2 ^ 16
few_some base true is few = rw is (omega (arith, length-map base.database.records (λ (item : Record). item.id), few))
few_some base false is few = rw is (lit< tt)

few_by : (device : Device) (led : Option Base) → base_at device 1 ≡ led → IsTellable device → length (kept_ids led) < 2 ^ 16
few_by device None is proper = lit< tt
few_by device (Some base) is proper = few_some base (on_records base.database) refl (base_bounded 1 proper is).whole.few_records

pub few_ids : (device : Device) → IsTellable device → length (ids_open device) < 2 ^ 16
few_ids device proper = few_by device (base_at device 1) refl proper
