-- Laws of steps and runs, by what a request made of the device.
use Rattle.std.proofs.lemmas.Bool.Decides.{nat_tests}
use Rattle.std.proofs.lemmas.Grind.{common_steps}
use Rattle.std.proofs.Common.{◌≡◌, ◌∙◌, ℕ, false, List, [], ◌∷◌, ◌++◌, Some, Result, Ok, Err, refl, ap, sym, subst, arith}
use Rattle.std.specs.List.{flat_map}
use Rattle.pdb_values.specs.NamedDatabases.{database_of}
use Rattle.dlp_args.proofs.NumberLaws.{IsBytes}
use Rattle.dlp_requests.specs.RequestReading.{request_at}
use Rattle.dlp_requests.specs.RequestTexts.{request_text}
use Rattle.dlp_requests.specs.RequestValues.{RequestValue}
use Rattle.dlp_requests.specs.declared.fault.RequestFault.{RequestFault}
use Rattle.dlp_requests.proofs.RequestLaws.{request_takes}
use Rattle.dlp_replies.specs.Frames.{IsReply, reply_text}
use Rattle.dlp_replies.specs.ReplyReading.{reply_at}
use Rattle.dlp_replies.specs.ReplyTexts.{ReplyText}
use Rattle.dlp_replies.specs.ReplyValues.{ReplyValue, Refused}
use Rattle.dlp_replies.proofs.ReplyLaws.{reply_again}
use Rattle.dlp_replies.proofs.WriteLaws.{reply_written}
use Rattle.palm_device.specs.Bounds.{IsBounded}
use Rattle.palm_device.specs.Devices.{Device}
use Rattle.palm_device.specs.Soundness.{IsDevice}
use Rattle.dlp_commands.specs.Changes.{changes, given_in, is_change}
use Rattle.dlp_commands.specs.DeviceRuns.{Exchange, Ran}
use Rattle.dlp_commands.specs.DeviceSteps.{DeviceStep, MayGive, MayGiveTo, RequestFits, first_byte, function_number, outcome, served, served_by, tried}
use Rattle.dlp_commands.specs.Errors.{fault_code}
use Rattle.dlp_commands.specs.Reached.{Trial}
use Rattle.dlp_commands.specs.Talks.{Talk, WasAnswered, given}
use Rattle.dlp_commands.specs.Targets.{is_name, target_of}
use Rattle.dlp_commands.proofs.DoneLaws.{Done}
use Rattle.dlp_commands.proofs.NumberLaws.{FieldsFit-AreFields, first_byte-request_text, function_number-first_byte}
use Rattle.dlp_commands.proofs.ReplyLaws.{Replies, refused_reply}
use Rattle.dlp_commands.proofs.TableLaws.{tried_done}
use Rattle.dlp_commands.proofs.TriedLaws.{IsCode, Keeps}

-- ---- runs

pub ran_joined : (old between new : Device) (front back : List Exchange) → Ran old front between → Ran between back new → Ran old (front ++ back) new
ran_joined old between new [] back first second = subst (λ (d : Device). Ran d back new) first second
ran_joined old between new (exchange ∷ front) back first second = (first.0, first.1, ran_joined first.0 between new front back first.2 second)

pub ran_cut : (old new : Device) (front back : List Exchange) → Ran old (front ++ back) new → (between : Device) × Ran old front between
    × Ran between back new
ran_cut old new [] back ran = (old, refl, ran)
ran_cut old new (exchange ∷ front) back ran = grind (arith, nat_tests, common_steps, ran_cut ran.0 new front back ran.2)

-- ---- a step

-- the bytes were refused under their first byte and nothing changed, or the request was done
pub data Stepped (old : Device) (bytes reply : List ℕ) (new : Device) : Type 0 where
  WasRefused : (code : ℕ) → IsCode code → new ≡ old → reply ≡ reply_text (Refused (first_byte bytes) code) → Stepped old bytes reply new
  WasDone : (value : RequestValue) → request_at bytes ≡ Ok value → (answer : ReplyValue) → Done old value (new, answer) → reply ≡ reply_text answer
      → Stepped old bytes reply new

code_is : (found : RequestFault) → IsCode (fault_code found)
code_is found = grind (arith, nat_tests, common_steps)

done_step : (old new : Device) (bytes reply : List ℕ) (value : RequestValue) (r : Trial) → request_at bytes ≡ Ok value → Keeps (Done old value) r
    → outcome old (function_number value) r ≡ (reply, new) → Stepped old bytes reply new
done_step old new bytes reply value (Ok done) read keeps is =
    let device : done.0 ≡ new = ap (λ (p : List ℕ × Device). p.1) is in
    WasDone value read done.1 (subst (λ (d : Device). Done old value (d, done.1)) device keeps) (sym (ap (λ (p : List ℕ × Device). p.0) is))
done_step old new bytes reply value (Err code) read keeps is =
    WasRefused code keeps (sym (ap (λ (p : List ℕ × Device). p.1) is)) (sym (ap (λ (p : List ℕ × Device). p.0) is)
    ∙ ap (λ n. reply_text (Refused n code)) (function_number-first_byte bytes value read))

read_step : (old new : Device) (bytes reply : List ℕ) (free : ℕ) (read : Result RequestValue RequestFault) → request_at bytes ≡ read
    → MayGiveTo old free read → served_by old free bytes read ≡ (reply, new) → Stepped old bytes reply new
read_step old new bytes reply free (Ok value) read may is =
    done_step old new bytes reply value (tried free old value) read (tried_done free old value may) is
read_step old new bytes reply free (Err found) read may is =
    WasRefused (fault_code found) (code_is found) (sym (ap (λ (p : List ℕ × Device). p.1) is)) (sym (ap (λ (p : List ℕ × Device). p.0) is))

pub stepped : (old new : Device) (bytes reply : List ℕ) → DeviceStep old bytes reply new → Stepped old bytes reply new
unfolding served MayGive
stepped old new bytes reply step = read_step old new bytes reply step.free (request_at bytes) refl step.may step.is

-- ---- what stays

pub changes-request : (bytes : List ℕ) (value : RequestValue) → request_at bytes ≡ Ok value → changes bytes ≡ is_change (function_number value)
unfolding changes
changes-request bytes value read = ap is_change (sym (function_number-first_byte bytes value read))

pub changes-text : (value : RequestValue) → changes (request_text value) ≡ is_change (function_number value)
unfolding changes
changes-text value = ap is_change (first_byte-request_text value)

pub store_kept : (old new : Device) (bytes reply : List ℕ) → changes bytes ≡ false → Stepped old bytes reply new → (new.databases ≡ old.databases)
    × (new.user ≡ old.user)
store_kept old new bytes reply quiet stepped = grind (arith, nat_tests, common_steps, changes-request)

pub reads_keep : (old new : Device) (bytes reply : List ℕ) (value : RequestValue) → request_at bytes ≡ Ok value
    → is_change (function_number value) ≡ false → Stepped old bytes reply new → (new.databases ≡ old.databases) × (new.user ≡ old.user)
reads_keep old new bytes reply value read quiet step = grind (arith, nat_tests, common_steps)

pub target_keeps : (old new : Device) (bytes reply name : List ℕ) → Stepped old bytes reply new
    → is_name name (target_of old (request_at bytes)) ≡ false → database_of name new.databases ≡ database_of name old.databases
target_keeps old new bytes reply name stepped differ = grind (arith, nat_tests, common_steps)

pub sound_stays : (old new : Device) (bytes reply : List ℕ) → IsDevice old → Stepped old bytes reply new → IsDevice new
sound_stays old new bytes reply sound stepped = grind (arith, nat_tests, common_steps)

request_fits : (bytes : List ℕ) (value : RequestValue) → IsBytes bytes → request_at bytes ≡ Ok value → RequestFits value
request_fits bytes value are read = let text = request_takes bytes value are read in FieldsFit-AreFields _ value.fields text.content text.fields_text

pub bounded_stays : (old new : Device) (bytes reply : List ℕ) → IsBytes bytes → IsDevice old → IsBounded old → Stepped old bytes reply new
    → IsBounded new
bounded_stays old new bytes reply are sound bounded stepped = grind (arith, nat_tests, common_steps, request_fits)

-- ---- replies

-- a reply that is read as itself
pub record IsRead (bytes reply : List ℕ) : Type 0 where
  pub value : ReplyValue
  pub is : IsReply value
  pub text : reply ≡ reply_text value
  pub read : reply_at (first_byte bytes) reply ≡ Ok value

read_back : (bytes reply : List ℕ) (value : ReplyValue) → Replies (first_byte bytes) value → reply ≡ reply_text value → IsRead bytes reply
read_back bytes reply value replies text =
    let again : ReplyText (first_byte bytes) value (reply_text value) =
    subst (λ n. ReplyText n value (reply_text value)) replies.function (reply_written value replies.is) in
    record {
      value = value;
      is = replies.is;
      text = text;
      read = ap (reply_at (first_byte bytes)) text
          ∙ reply_again (first_byte bytes) value (reply_text value) again;
    }

pub reply_read : (old new : Device) (bytes reply : List ℕ) → IsDevice old → IsBounded old → Stepped old bytes reply new → IsRead bytes reply
reply_read old new bytes reply sound bounded (WasRefused code is same text) =
    read_back bytes reply (Refused (first_byte bytes) code) (refused_reply (first_byte bytes) code is.0 is.1) text
reply_read old new bytes reply sound bounded (WasDone value read answer done text) =
    let replies = done.reply sound bounded in
    read_back bytes reply answer (record { is = replies.is; function = replies.function ∙ function_number-first_byte bytes value read }) text

-- ---- given ids

-- what more exchanges give stands behind
pub given-append : (front back : List Exchange)
    → flat_map (λ (exchange : Exchange). given_in exchange.request exchange.reply) (front ++ back)
    ≡ flat_map (λ (exchange : Exchange). given_in exchange.request exchange.reply) front
    ++ flat_map (λ (exchange : Exchange). given_in exchange.request exchange.reply) back
given-append [] back = refl
given-append (exchange ∷ front) back = grind (arith, nat_tests, common_steps, given-append front back)

pub given-answered : (old new : Talk) (request reply : List ℕ) → WasAnswered old request reply (Some new) → given new ≡ given old
    ++ given_in request reply
given-answered old new request reply was = grind (arith, nat_tests, common_steps)
