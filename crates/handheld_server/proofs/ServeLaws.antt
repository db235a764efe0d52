-- A step of the device from what the server did, and which files went with it.
use Rattle.std.proofs.lemmas.Bool.Decides.{nat_tests}
use Rattle.std.proofs.lemmas.Grind.{common_steps}
use Rattle.std.proofs.Common.{◌≡◌, ◌∙◌, ℕ, Bool, true, false, List, Result, Ok, Err, refl, ap, sym, arith}
use Rattle.std.specs.Prelude.{◌==◌, ◌||◌, OnOk}
use Rattle.pdb_values.proofs.NamedLaws.{bytes_eq-own}
use Rattle.dlp_requests.specs.Forms as form
use Rattle.dlp_requests.specs.Forms.{Form, kinds_of, number_of}
use Rattle.dlp_requests.specs.RequestReading.{request_at}
use Rattle.dlp_requests.specs.RequestTexts.{RequestText}
use Rattle.dlp_requests.specs.RequestValues.{RequestValue}
use Rattle.dlp_requests.specs.declared.fault.RequestFault.{RequestFault}
use Rattle.dlp_replies.specs.Frames.{reply_text}
use Rattle.dlp_replies.specs.ReplyValues as reply
use Rattle.dlp_replies.specs.ReplyValues.{Refused}
use Rattle.palm_device.specs.Devices.{Device}
use Rattle.dlp_commands.specs.Asked.{AsksToWrite}
use Rattle.dlp_commands.specs.Changes.{is_among, is_change, writing_forms}
use Rattle.dlp_commands.specs.DeviceSteps.{DeviceStep, FormMayGive, MayGive, RequestFits, first_byte, function_number, outcome, served, tried}
use Rattle.dlp_commands.specs.Errors.{fault_code}
use Rattle.dlp_commands.specs.Reached.{Trial}
use Rattle.dlp_commands.specs.Writings.{WritingValue}
use Rattle.dlp_commands.proofs.NumberLaws.{FieldsFit-AreFields}
use Rattle.handheld_server.specs.Acts.{Acts, ActsAt}
use Rattle.handheld_server.specs.Keeping.{wrote_by}

-- ---- what was read

-- the first byte of a request is that of its function
pub first_of : (value : RequestValue) (bytes : List ℕ) → RequestText value bytes → first_byte bytes ≡ function_number value
first_of value bytes text = ap first_byte text.is

-- its fields keep the bounds of its layout
pub fits_of : (value : RequestValue) (bytes : List ℕ) → RequestText value bytes → RequestFits value
fits_of value bytes text = FieldsFit-AreFields (kinds_of value.form) value.fields text.content text.fields_text

-- ---- steps

-- a request was read, and was done
pub request_step : {A E : Type 0} (answer : Result A E) (old new : Device) (bytes reply : List ℕ) (number : ℕ) (value : RequestValue)
    → request_at bytes ≡ Ok value → number ≡ function_number value → OnOk answer (Acts old number value reply new)
    → OnOk answer (DeviceStep old bytes reply new)
unfolding served MayGive
request_step (Ok done) old new bytes reply number value read same acts = record {
  free = acts.free;
  may = rw read acts.may;
  is = rw read (ap (λ n. outcome old n (tried acts.free old value)) (sym same) ∙ acts.is);
}
request_step (Err fault) old new bytes reply number value read same acts = tt

-- the bytes are no request
pub fault_step : (old : Device) (bytes reply : List ℕ) (fault : RequestFault) → request_at bytes ≡ Err fault
    → reply ≡ reply_text (Refused (first_byte bytes) (fault_code fault)) → DeviceStep old bytes reply old
unfolding served MayGive
fault_step old bytes reply fault read is = grind (arith, nat_tests, common_steps)

-- ---- what was done

-- a writing that the request asks for
pub writing_acts : {A E : Type 0} (answer : Result A E) (old new : Device) (number handle : ℕ) (value : RequestValue) (asked : WritingValue)
    (reply : List ℕ) → AsksToWrite value handle asked → OnOk answer (ActsAt old number handle asked reply new)
    → OnOk answer (Acts old number value reply new)
writing_acts (Ok done) old new number handle value asked reply asks acts = record {
  free = acts.free;
  may = asks.may acts.free old acts.may;
  is = ap (outcome old number) (asks.same acts.free old) ∙ acts.is;
}
writing_acts (Err fault) old new number handle value asked reply asks acts = tt

-- a function that gives no id
pub alone_acts : {A E : Type 0} (answer : Result A E) (old new : Device) (number : ℕ) (value : RequestValue) (does : Trial) (reply : List ℕ)
    → FormMayGive old 0 value.form value.fields → tried 0 old value ≡ does → OnOk answer (outcome old number does ≡ (reply, new))
    → OnOk answer (Acts old number value reply new)
alone_acts (Ok done) old new number value does reply may same is =
    record { free = 0; may = may; is = ap (outcome old number) same ∙ is }
alone_acts (Err fault) old new number value does reply may same is = tt

-- ---- which files went with it

same_number : (n m : ℕ) (b : Bool) → (n == m) ≡ b → b ≡ true → n ≡ m
same_number n m b is so = grind (arith, nat_tests)

-- another function is not WriteUserInfo
other_number : (forms : ℕ → Bool) (number : ℕ) (b c : Bool) → forms number ≡ b → forms (number_of form.WriteUserInfo) ≡ c → (b ≡ c → ⊥)
    → (number == number_of form.WriteUserInfo) ≡ false
other_number forms number b c is own differ = by (number == number_of form.WriteUserInfo) refl
  where
    by : (t : Bool) → (number == number_of form.WriteUserInfo) ≡ t → t ≡ false
    by true so = absurd (differ (sym is ∙ ap forms (same_number number (number_of form.WriteUserInfo) true so refl) ∙ own))
    by false so = refl

pub writing_other : (number : ℕ) (answer : List ℕ) → is_among writing_forms number ≡ true → wrote_by number answer ≡ false
writing_other number answer is = rw (other_number (is_among writing_forms) number true false is refl (λ e. absurd cc)) refl

-- a function that writes into the database of a handle changes something
or_last : (a b c d : Bool) → d ≡ true → (a || (b || (c || d))) ≡ true
or_last true b c d is = refl
or_last false true c d is = refl
or_last false false true d is = refl
or_last false false false d is = is

pub writing_changes : (number : ℕ) → is_among writing_forms number ≡ true → is_change number ≡ true
writing_changes number is =
    or_last (number_of form.WriteUserInfo == number) (number_of form.CreateDb == number) (number_of form.DeleteDb == number)
    (is_among writing_forms number) is

-- the reply of a WriteUserInfo that was done
pub done_user : (number : ℕ) (answer : List ℕ) → number ≡ number_of form.WriteUserInfo → answer ≡ reply_text reply.WriteUserInfo
    → wrote_by number answer ≡ true
done_user number answer same is = rw (same, is) (bytes_eq-own (reply_text reply.WriteUserInfo))
