-- A list that a session may ask for is never refused.
use Rattle.std.proofs.Common.{◌≡◌, ◌<◌, ◌*◌, ◌^◌, refl, ℕ, true, false, List, arith}
use Rattle.std.specs.Prelude.{Option, Some, None, IsSomeAnd, Result, Ok, Err, ◌==◌, ◌⊎◌}
use Rattle.std.proofs.Common.{inr}
use Rattle.dlp_requests.specs.Forms.{Form}
use Rattle.dlp_replies.specs.ReplyReading.{reply_at}
use Rattle.dlp_replies.specs.ReplyValues.{ReplyValue}
use Rattle.dlp_replies.specs.declared.fault.ReplyFault.{ReplyFault}
use Rattle.palm_device.specs.Devices.{Device}
use Rattle.palm_device.specs.Handles.{base_at}
use Rattle.dlp_commands.specs.declared.link.LinkFault.{LinkFault}
use Rattle.dlp_commands.specs.Talks.{Talk}
use Rattle.desktop_session.specs.declared.fault.SessionFault.{SessionFault}
use Rattle.desktop_session.specs.Lists.{HasCause, HasReplied, IsByReplyTo, IsNotMissing, Refuses, id_parts}
use Rattle.desktop_session.specs.Orders.{HasRecords, IsAnswered, IsPossible, IsUnrefused, may_find_none}
use Rattle.desktop_session.specs.Requests.{listing, listing_ids}
use Rattle.desktop_session.specs.Sessions.{SessionValue}
use Rattle.desktop_session.specs.Tellings.{IsTellable, told}
use Rattle.desktop_session.proofs.OrderLaws.{possible_answered}
use Rattle.desktop_session.proofs.RequestFits.{ids_fit, list_fits}
use Rattle.desktop_session.proofs.TellLaws.{act_sayable, acted_reads}
use Rattle.std.proofs.lemmas.Grind.{common_steps}
use Rattle.std.proofs.lemmas.Bool.Decides.{nat_tests}
use Rattle.std.proofs.Common.{rules}

-- a reply that is no error, or error 5, is no refusal but by error 5
pub refuses_five : (f : Form) (value : ReplyValue) (code : ℕ) → IsAnswered f value → Refuses code (Ok value) → (may_find_none f ≡ true) × (code ≡ 5)
refuses_five f value code is same = grind (arith, common_steps, nat_tests)

is_five : {n : ℕ} → n ≡ 5 → (n == 5) ≡ true
is_five is = grind arith

-- the request finds something, or the cause is not that it finds nothing
unrefused : (f : Form) (fault : Option LinkFault) (read : Result ReplyValue ReplyFault) (value : ReplyValue) (cause : SessionFault)
    → (fault ≡ None → read ≡ Ok value) → IsAnswered f value → (may_find_none f ≡ false) ⊎ IsNotMissing cause → HasCause fault read cause
    → IsUnrefused {A = Unit {0}} (Err cause)
unrefused f fault read value cause is answered none has = search (rules, refuses_five, is_five)

-- the device's reply to one of the requests is read as what it tells
list_read : {device : Device} {bytes : List ℕ} → IsTellable device → (replied : HasReplied 65536 listing device bytes)
    → reply_at 0x16 bytes ≡ Ok (told (listing replied.place) device)
list_read proper replied = grind (arith, common_steps, nat_tests, acted_reads, act_sayable, list_fits)

list_possible : (start : ℕ) (device : Device) → IsPossible (listing start) device
unfolding IsPossible
list_possible start device = (refl, refl)

ids_possible : (handle start : ℕ) (device : Device) → IsSomeAnd (base_at device handle) HasRecords → IsPossible (listing_ids handle start) device
unfolding IsPossible
ids_possible handle start device has = has

list_by : {device : Device} {bytes : List ℕ} (cause : SessionFault) → IsTellable device → HasReplied 65536 listing device bytes
    → HasCause None (reply_at 0x16 bytes) cause → IsNotMissing cause → IsUnrefused {A = Unit {0}} (Err cause)
list_by {device} {bytes} cause proper replied has other =
    unrefused (listing replied.place).asks.form None (reply_at 0x16 bytes) (told (listing replied.place) device) cause
    (λ none. list_read proper replied) (possible_answered (listing replied.place) device (list_possible replied.place device)) (inr other) has

ids_small : (count place : ℕ) → count < 2 ^ 16 → place < id_parts count → 8000 * place < 2 ^ 16
ids_small count place few below = omega arith

ids_by : {device : Device} (handle count : ℕ) {bytes : List ℕ} (cause : SessionFault) → IsTellable device → handle < 2 ^ 8 → count < 2 ^ 16
    → IsSomeAnd (base_at device handle) HasRecords → HasReplied (id_parts count) (λ part. listing_ids handle (8000 * part)) device bytes
    → HasCause None (reply_at 0x31 bytes) cause → IsUnrefused {A = Unit {0}} (Err cause)
ids_by handle count cause proper byte few records replied has =
    search (rules, acted_reads, act_sayable, ids_fit, ids_small, unrefused, possible_answered, ids_possible)

-- a fault of the link is no refusal
fault_or : (fault : Option LinkFault) (read : Result ReplyValue ReplyFault) (cause : SessionFault) → HasCause fault read cause
    → (fault ≡ None → HasCause None read cause → IsUnrefused {A = Unit {0}} (Err cause)) → IsUnrefused {A = Unit {0}} (Err cause)
fault_or fault read cause has each = search (rules)

pub list_in_order : {L : Type 0} (talk : L → Option Talk) (fault : L → Option LinkFault) (old new : SessionValue L) (said : Talk) (cause : SessionFault)
    → talk old.link ≡ Some said → IsTellable said.device → IsByReplyTo talk fault 65536 listing old new
    → HasCause (fault new.link) (reply_at 0x16 new.reply) cause → IsNotMissing cause → IsUnrefused {A = Unit {0}} (Err cause)
list_in_order talk fault old new said cause tells proper replied has other = search (rules, fault_or, list_by)

pub ids_in_order : {L : Type 0} (talk : L → Option Talk) (fault : L → Option LinkFault) (old new : SessionValue L) (said : Talk) (handle count : ℕ)
    (cause : SessionFault) → talk old.link ≡ Some said → IsTellable said.device → handle < 2 ^ 8 → count < 2 ^ 16
    → IsSomeAnd (base_at said.device handle) HasRecords
    → IsByReplyTo talk fault (id_parts count) (λ part. listing_ids handle (8000 * part)) old new
    → HasCause (fault new.link) (reply_at 0x31 new.reply) cause → IsUnrefused {A = Unit {0}} (Err cause)
ids_in_order talk fault old new said handle count cause tells proper byte few records replied has = search (rules, fault_or, ids_by)
