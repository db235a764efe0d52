-- A record that is put: the step gives its id, and the reply bears it.
use Rattle.std.proofs.Common.{◌≡◌, ◌≤◌, ◌<◌, refl, ap, ℕ, suc, false, List, [], ◌∷◌, arith}
use Rattle.std.specs.Prelude.{Option, Some, None, IfOk, IfSome, Result, Ok, Err, ◌==◌}
use Rattle.pdb_values.specs.Contents.{ContentValue}
use Rattle.dlp_requests.specs.Forms as form
use Rattle.dlp_requests.specs.RequestTexts.{IsRequest, request_text}
use Rattle.dlp_requests.specs.RequestValues.{RequestValue}
use Rattle.dlp_replies.specs.ReplyReading.{reply_at}
use Rattle.dlp_replies.specs.ReplyValues as reply
use Rattle.dlp_replies.specs.ReplyValues.{ReplyValue}
use Rattle.pdb_values.specs.Databases.{DatabaseValue}
use Rattle.palm_device.specs.Devices.{Device}
use Rattle.palm_device.specs.Handles.{Base, base_at}
use Rattle.palm_device.specs.Records.{IsFree}
use Rattle.dlp_commands.specs.declared.link.LinkFault.{LinkFault}
use Rattle.dlp_commands.specs.DeviceSteps.{MayGive, MayGiveTo, function_number, outcome, tried}
use Rattle.dlp_commands.specs.Holding.{fits}
use Rattle.dlp_commands.specs.Reached.{Trial, writes}
use Rattle.dlp_commands.specs.Talks.{Talk, HasAnswer}
use Rattle.dlp_commands.proofs.DoneLaws.{Done}
use Rattle.dlp_commands.proofs.ReplyLaws.{Replies, refused_reply, written_reply}
use Rattle.dlp_commands.proofs.TableLaws.{tried_done}
use Rattle.dlp_commands.proofs.TriedLaws.{Keeps}
use Rattle.dlp_commands.specs.Writings as writing
use Rattle.dlp_commands.specs.Writings.{may_write, written_in, written_on}
use Rattle.desktop_session.specs.declared.fault.SessionFault.{SessionFault}
use Rattle.desktop_session.specs.Acts.{AsksNoId, act, acted, text}
use Rattle.desktop_session.specs.Answers.{id_of, said_in}
use Rattle.desktop_session.specs.Puts.{IsGiven, Puts}
use Rattle.desktop_session.specs.Requests.{putting, secret_bit}
use Rattle.desktop_session.specs.Says.{saying}
use Rattle.desktop_session.specs.Sessions.{SessionValue}
use Rattle.desktop_session.specs.Stops.{AsksOne, Stops}
use Rattle.desktop_session.proofs.ActLaws.{read_back, step_tried, told_one}
use Rattle.desktop_session.proofs.SaysLaws.{sent_answered}
use Rattle.desktop_session.proofs.TellLaws.{IfDone, done_then, need_some, read_again}
use Rattle.std.proofs.lemmas.Grind.{common_steps}
use Rattle.std.proofs.lemmas.Bool.Decides.{nat_tests}
use Rattle.std.proofs.Common.{rules}

-- the reply bears the id, which is one
abbrev IsWritten : ℕ → Device × ReplyValue → Type 0
IsWritten free done = (done.1 ≡ reply.WriteRecord free) × (free ≤ 16777215)

written_done : (free attributes category : ℕ) (bytes : List ℕ) (database : DatabaseValue)
    → IfDone (λ changed. changed.1 ≡ reply.WriteRecord free) (written_in free (writing.WriteRecord 0 attributes category bytes) database)
written_done free attributes category bytes database = grind (arith, common_steps, nat_tests, done_then)

done_holds : {A : Type 0} (P : A → Type 0) (r : Result A ℕ) {x : A} → IfDone P r → r ≡ Ok x → P x
done_holds P r holds is = search (rules)

new_done : (free : ℕ) (device : Device) (handle attributes category : ℕ) (bytes : List ℕ)
    → IfSome (base_at device handle) (λ base. ◌≡◌ {A = ℕ} 0 0 → IsFree free base.database.records)
    → IfDone (IsWritten free) (writes free device handle (writing.WriteRecord 0 attributes category bytes))
new_done free device handle attributes category bytes may = search (rules, done_then, need_some, done_holds, written_done)

-- ---- what the reply says

id_reply : (free : ℕ) → free ≤ 16777215 → Replies 0x21 (reply.WriteRecord free)
id_reply free bound = written_reply free (writing.WriteRecord 0 0 0 []) bound

-- the id in an answer
abbrev value_in : Result ℕ SessionFault → ℕ
value_in (Ok id) = id
value_in (Err fault) = 0

answers_own : (answer : Result ℕ SessionFault) → IfOk answer (λ id. id ≡ value_in answer)
answers_own (Ok id) = refl
answers_own (Err fault) = tt

-- what was done or refused is answered under this id
said_of : (free : ℕ) (old : Device) (value : RequestValue) (r : Trial) {bytes : List ℕ} → function_number value ≡ 0x21 → IfDone (IsWritten free) r
    → Keeps (Done old value) r → (outcome old 0x21 r).0 ≡ bytes → IfOk (said_in 0x21 id_of (reply_at 0x21 bytes)) (λ id. id ≡ free)
said_of free old value (Ok done) {bytes} function written keeps is = grind (arith, common_steps, nat_tests, read_again, id_reply)
said_of free old value (Err code) {bytes} function written keeps is =
    let read : reply_at 0x21 bytes ≡ Ok (reply.Refused 0x21 code) = cc (read_again 0x21 (reply.Refused 0x21 code) (refused_reply 0x21 code keeps.0 keeps.1)) in
    rw read tt

-- ---- a record that is put

base_none : (o : Option Base) (id given : ℕ) → 0 < id → IfSome o (λ base. id ≡ 0 → IsFree given base.database.records)
base_none o id given some = search (rules)

given_none : (o : Option Talk) (handle id : ℕ) → 0 < id → IsGiven 0 handle id o
given_none o handle id some = search (rules, base_none)

answers_other : (answer : Result ℕ SessionFault) (id : ℕ) → 0 < id → IfOk answer (λ answer. id ≡ 0 → answer ≡ 0)
answers_other answer id some = search (rules)

answers_new : (answer : Result ℕ SessionFault) (given : ℕ) → IfOk answer (λ id. id ≡ given) → IfOk answer (λ answer. ◌≡◌ {A = ℕ} 0 0 → answer ≡ given)
answers_new (Ok x) given is = λ zero. is
answers_new (Err fault) given is = tt

-- the exchange of a new record, where the device is told or not
record IsNew (handle : ℕ) (content : ContentValue) (old new : Option Talk) (bytes : List ℕ) (answer : Result ℕ SessionFault) : Type 0 where
  given : ℕ
  said : new ≡ saying (putting given handle 0 content ∷ []) old
  told : IfSome old (λ talk. bytes ≡ (acted (putting given handle 0 content) talk.device).0)
  free : IsGiven given handle 0 old
  same : IfOk answer (λ id. id ≡ given)

may_of : (old : Device) (handle free : ℕ) (content : ContentValue) → IsRequest (putting 0 handle 0 content).asks
    → MayGive old (request_text (putting 0 handle 0 content).asks) free → MayGiveTo old free (Ok (putting 0 handle 0 content).asks)
unfolding MayGive
may_of old handle free content fits may = search (rules, read_back)

is_new : (handle : ℕ) (content : ContentValue) (old new : Option Talk) (bytes : List ℕ) {answer : Result ℕ SessionFault}
    → IsRequest (putting 0 handle 0 content).asks → HasAnswer old (text (putting 0 handle 0 content)) bytes new → answer ≡ said_in 0x21 id_of (reply_at 0x21 bytes)
    → IsNew handle content old new bytes answer
unfolding saying text acted tried
is_new handle content None new bytes {answer} fits is says = record {
  given = value_in answer;
  said = is;
  told = tt;
  free = tt;
  same = answers_own answer;
}
is_new handle content (Some old) new bytes fits is says =
    let value : RequestValue = (putting 0 handle 0 content).asks in
    let free = is.step.free in
    let may : MayGiveTo old.device free (Ok value) = may_of old.device handle free content fits is.step.may in
    let one : acted (putting free handle 0 content) old.device ≡ (bytes, is.device) = step_tried old.device is.device value bytes fits is.step in
    record {
      given = free;
      said = told_one (putting free handle 0 content) is one;
      told = cc;
      free = may;
      same = rw says (said_of free old.device value (tried free old.device value) refl
          (new_done free old.device handle (secret_bit content.secret) content.category content.bytes may)
          (tried_done free old.device value may) (ap (λ (p : List ℕ × Device). p.0) one));
    }

is_not_zero : (n : ℕ) → (suc n == 0) ≡ false
is_not_zero n = grind arith

-- the request for a record to be put
pub put_value : {id number bits sort : ℕ} (handle : ℕ) (content : ContentValue) {bytes : List ℕ} → number ≡ id → bits ≡ secret_bit content.secret
    → sort ≡ content.category → bytes ≡ content.bytes
    → ◌≡◌ {A = RequestValue} (record { form = form.WriteRecord; fields = (handle, (0x80, (number, (bits, (sort, (bytes, tt)))))) })
    (putting 0 handle id content).asks
put_value handle content one two three four = grind (arith, common_steps, nat_tests)

-- what was asked by a request
pub record IsPut {L : Type 0} (talk : L → Option Talk) (since : L → L → Type 0) (fault : L → Option LinkFault) (downs : L → ℕ) (value : RequestValue)
    (old new : SessionValue L) : Type 0 where
  pub fits : IsRequest value
  pub asked : AsksNoId value → AsksOne talk since fault downs (act value) old new
  pub stops : Stops talk since fault downs (text (act value) ∷ []) old.link new.link
  pub answered : HasAnswer (talk old.link) (text (act value)) new.reply (talk new.link)
  pub user : new.user ≡ old.user
  pub abandoned : new.abandoned ≡ old.abandoned

module _ {L : Type 0} {talk : L → Option Talk} {since : L → L → Type 0} {fault : L → Option LinkFault} {downs : L → ℕ} {handle : ℕ} {content : ContentValue}
    {old new : SessionValue L} {answer : Result ℕ SessionFault} where
  pub puts_old : {id : ℕ} → 0 < id → AsksOne talk since fault downs (putting 0 handle id content) old new
      → Puts talk since fault downs handle id content old new answer
  puts_old some asked = search (rules, given_none, answers_other)

  pub puts_new : IsRequest (putting 0 handle 0 content).asks → HasAnswer (talk old.link) (text (putting 0 handle 0 content)) new.reply (talk new.link)
      → Stops talk since fault downs (text (putting 0 handle 0 content) ∷ []) old.link new.link → new.user ≡ old.user → new.abandoned ≡ old.abandoned
      → answer ≡ said_in 0x21 id_of (reply_at 0x21 new.reply) → Puts talk since fault downs handle 0 content old new answer
  unfolding text
  puts_new fits is stops user abandoned says =
      let found = is_new handle content (talk old.link) (talk new.link) new.reply fits is says in
      record {
        given = found.given;
        asked = record {
          fits = fits;
          stops = stops;
          does = λ none. record { said = found.said; sent = sent_answered (talk old.link) (talk new.link) (text (putting 0 handle 0 content)) new.reply is };
          told = λ none. found.told;
          user = user;
          abandoned = abandoned;
        };
        free = λ none. found.free;
        new_id = answers_new answer found.given found.same;
        old_id = λ some. absurd (omega arith);
      }

  -- ---- from the request as it was written

  puts_same : (id : ℕ) → IsPut talk since fault downs (putting 0 handle id content).asks old new → answer ≡ said_in 0x21 id_of (reply_at 0x21 new.reply)
      → Puts talk since fault downs handle id content old new answer
  puts_same id put says = search (rules, puts_new, puts_old, is_not_zero)

  pub puts_at : {id : ℕ} {value : RequestValue} → value ≡ (putting 0 handle id content).asks → IsPut talk since fault downs value old new
      → answer ≡ said_in 0x21 id_of (reply_at 0x21 new.reply) → Puts talk since fault downs handle id content old new answer
  puts_at same put says = search (rules, puts_same)
