-- What a device tells in reply to acts.
use Rattle.std.proofs.Common.{◌≡◌, ◌∙◌, refl, sym, ℕ, false, List, [], ◌∷◌, ◌++◌, append_assoc}
use Rattle.std.proofs.lemmas.List.{append-nil}
use Rattle.std.specs.Prelude.{Option, Some, IfSome, Result, Ok, Err, ◌==◌}
use Rattle.dlp_args.specs.Fields.{Fields}
use Rattle.dlp_requests.specs.Forms as form
use Rattle.dlp_requests.specs.Forms.{Form, kinds_of}
use Rattle.dlp_requests.specs.RequestTexts.{IsRequest}
use Rattle.dlp_requests.specs.RequestValues.{RequestValue}
use Rattle.dlp_replies.specs.Frames.{reply_text}
use Rattle.dlp_replies.specs.ReplyReading.{reply_at}
use Rattle.dlp_replies.specs.ReplyValues as reply
use Rattle.dlp_replies.specs.ReplyValues.{ReplyValue}
use Rattle.dlp_replies.proofs.ReplyLaws.{reply_again}
use Rattle.dlp_replies.proofs.WriteLaws.{reply_written}
use Rattle.palm_device.specs.Devices.{Device}
use Rattle.palm_device.specs.Handles.{Base, base_at, free_handle, just_opened, no_handles, with_handle}
use Rattle.palm_device.specs.Records.{IsFree}
use Rattle.dlp_commands.specs.Changes.{asks_by}
use Rattle.dlp_commands.specs.DatabaseFunctions.{open_db}
use Rattle.dlp_commands.specs.DeviceRuns.{Ran}
use Rattle.dlp_commands.specs.DeviceSteps.{DeviceStep, FormMayGive, MayGive, function_number, outcome, served, tried}
use Rattle.dlp_commands.specs.Errors.{◌>>=◌, need}
use Rattle.dlp_commands.specs.Reached.{Trial}
use Rattle.dlp_commands.specs.Talks.{Talk}
use Rattle.dlp_commands.proofs.DoneLaws.{Done}
use Rattle.dlp_commands.proofs.ReplyLaws.{Replies, refused_reply}
use Rattle.dlp_commands.proofs.TableLaws.{tried_done}
use Rattle.dlp_commands.proofs.TriedLaws.{Keeps}
use Rattle.desktop_session.specs.Acts.{Act, AsksNoId, act, acted, text}
use Rattle.desktop_session.specs.Requests.{opening_in}
use Rattle.desktop_session.specs.Says.{said, said_one}
use Rattle.desktop_session.specs.Tellings.{AreSayable, IsTellable, IsSayable, device_after, exchanges, number_of, tells, told}
use Rattle.desktop_session.proofs.ActLaws.{read_back}
use Rattle.std.proofs.Common.{rules}

-- ---- replies

pub read_again : (number : ℕ) (value : ReplyValue) → Replies number value → reply_at number (reply_text value) ≡ Ok value
read_again number value replies =
    reply_again number value (reply_text value) (rw (← replies.function) (reply_written value replies.is))

outcome_reads : {old : Device} (value : RequestValue) (r : Trial) → Keeps (Done old value) r → IsTellable old
    → reply_at (function_number value) (outcome old (function_number value) r).0 ≡ Ok (tells (function_number value) r)
outcome_reads value (Ok done) keeps proper = read_again (function_number value) done.1 (keeps.reply proper.sound proper.bounded)
outcome_reads value (Err code) keeps proper =
    read_again (function_number value) (reply.Refused (function_number value) code) (refused_reply (function_number value) code keeps.0 keeps.1)

pub acted_reads : (one : Act) (device : Device) → IsTellable device → IsSayable one device → reply_at (number_of one) (acted one device).0 ≡ Ok (told one device)
unfolding acted told
acted_reads one device proper sayable = search (rules, outcome_reads, tried_done)

-- ---- the device stays proper

outcome_proper : {old : Device} (value : RequestValue) (r : Trial) → Keeps (Done old value) r → IsRequest value → IsTellable old
    → IsTellable (outcome old (function_number value) r).1
unfolding IsRequest
outcome_proper value r keeps fits proper = search (rules)

pub acted_proper : (one : Act) (device : Device) → IsTellable device → IsSayable one device → IsTellable (acted one device).1
unfolding acted
acted_proper one device proper sayable = search (rules, outcome_proper, tried_done)

pub after_proper : (acts : List Act) (device : Device) → IsTellable device → AreSayable acts device → IsTellable (device_after acts device)
after_proper [] device proper sayable = proper
after_proper (one ∷ acts) device proper sayable = after_proper acts (acted one device).1 (acted_proper one device proper sayable.0) sayable.1

-- ---- an act that gives no id may be said of any device

pub never_new : (o : Option Base) (id free : ℕ) → (id == 0) ≡ false → IfSome o (λ base. id ≡ 0 → IsFree free base.database.records)
never_new o id free fixed = search (rules)

pub form_gives : (device : Device) (free : ℕ) (f : Form) (fields : Fields (kinds_of f)) → asks_by f fields ≡ false → FormMayGive device free f fields
form_gives device free form.WriteRecord (handle, (flags, (id, more))) fixed = never_new (base_at device handle) id free fixed
form_gives device free other fields fixed = tt

pub act_sayable : (value : RequestValue) (device : Device) → IsRequest value → AsksNoId value → IsSayable (act value) device
act_sayable value device fits fixed = search (rules, form_gives)

-- ---- the steps of acts

act_step : {one : Act} {device : Device} → IsSayable one device → DeviceStep device (text one) (acted one device).0 (acted one device).1
unfolding text acted served MayGive
act_step {one} {device} sayable =
    let back = read_back one.asks sayable.request in
    record {
      free = one.given;
      may = rw back sayable.free;
      is = cc;
    }

pub acts_ran : (acts : List Act) (device : Device) → AreSayable acts device → Ran device (exchanges acts device) (device_after acts device)
acts_ran [] device sayable = refl
acts_ran (one ∷ acts) device sayable = ((acted one device).1, act_step sayable.0, acts_ran acts (acted one device).1 sayable.1)

pub said_device : (acts : List Act) (talk : Talk) → (said acts talk).device ≡ device_after acts talk.device
said_device [] talk = refl
said_device (one ∷ acts) talk = said_device acts (said_one one talk)

pub said_exchanges : (acts : List Act) (talk : Talk) → (said acts talk).exchanges ≡ talk.exchanges ++ exchanges acts talk.device
said_exchanges [] talk = sym (append-nil talk.exchanges)
said_exchanges (one ∷ acts) talk =
    said_exchanges acts (said_one one talk)
    ∙ append_assoc talk.exchanges (record { request = text one; reply = (acted one talk.device).0 } ∷ []) (exchanges acts (acted one talk.device).1)

-- ---- a database that is opened where nothing is open gets handle 1

least_free : (device : Device) {handle : ℕ} → device.handles ≡ no_handles → free_handle device.handles ≡ Some handle → handle ≡ 1
least_free device none is = search (rules)

-- it was opened under handle 1 in this mode
pub record Opens (name : List ℕ) (mode : ℕ) (answer : ReplyValue) (done : Device × ReplyValue) : Type 0 where
  pub reply : done.1 ≡ answer
  pub handles : done.0.handles ≡ with_handle 1 (Some (just_opened name mode)) no_handles

-- what was done, where it was
abbrev pub IfDone : {A : Type 0} → (A → Type 0) → Result A ℕ → Type 0
IfDone P (Ok x) = P x
IfDone P (Err code) = Unit {0}

pub done_then : {A B : Type 0} (r : Result A ℕ) (next : A → Result B ℕ) (P : B → Type 0) → ((x : A) → r ≡ Ok x → IfDone P (next x)) → IfDone P (r >>= next)
done_then (Ok x) next P each = each x refl
done_then (Err code) next P each = tt

-- what was done by steps of which the first did this
pub done_with : {A B : Type 0} (r : Result A ℕ) (next : A → Result B ℕ) (Q : A → Type 0) (P : B → Type 0) → IfDone Q r
    → ((x : A) → Q x → IfDone P (next x)) → IfDone P (r >>= next)
done_with (Ok x) next Q P holds each = each x holds
done_with (Err code) next Q P holds each = tt

-- what is replied where nothing changes
pub replied : {A : Type 0} (P : A → Type 0) (device : Device) (r : Result A ℕ) → IfDone P r
    → IfDone (λ (done : Device × A). P done.1) (r >>= (λ (answer : A). Ok (device, answer)))
replied P device (Ok x) holds = holds
replied P device (Err code) holds = tt

pub need_some : {A : Type 0} (code : ℕ) (o : Option A) (x : A) → need code o ≡ Ok x → o ≡ Some x
need_some code o x is = search (rules)

pub open_done : (device : Device) (mode : ℕ) (name : List ℕ) → device.handles ≡ no_handles
    → IfDone (Opens name mode (reply.OpenDb 1)) (open_db device 0 mode name)
unfolding open_db
open_done device mode name none = search (rules, done_then, least_free, need_some)

one_by : {handle : ℕ} (number : ℕ) (name : List ℕ) (mode : ℕ) (r : Trial) → IfDone (Opens name mode (reply.OpenDb 1)) r → tells number r ≡ reply.OpenDb handle
    → handle ≡ 1
one_by number name mode r opens is = search (rules)

pub one_handle : (device : Device) (mode : ℕ) (name : List ℕ) (handle : ℕ) → device.handles ≡ no_handles
    → told (opening_in mode name) device ≡ reply.OpenDb handle → handle ≡ 1
unfolding told tried
one_handle device mode name handle none is = search (rules, one_by, open_done)
