-- One request of a handheld of another make, and of our own device under handle 1.
use Rattle.std.proofs.Common.{◌≡◌, ◌∙◌, ◌≤◌, ◌+◌, refl, sym, ap, subst, inl, inr, ℕ, suc, true, false, List, length, length-append, lit<}
use Rattle.std.specs.Prelude.{◌⊎◌, Option, Some, None, Result, Ok, ◌==◌}
use Rattle.dlp_args.specs.Arguments.{header, written_form}
use Rattle.dlp_args.specs.Fields.{Fields, FieldsFit, fields_text}
use Rattle.dlp_requests.specs.Forms as form
use Rattle.dlp_requests.specs.Forms.{Form, argument_of, kinds_of}
use Rattle.dlp_requests.specs.RequestTexts.{IsRequest, argument_text, request_text}
use Rattle.dlp_requests.specs.RequestValues.{RequestValue}
use Rattle.dlp_replies.specs.declared.fault.ReplyFault.{ReplyFault}
use Rattle.dlp_replies.specs.ReplyReading.{reply_at}
use Rattle.dlp_replies.specs.ReplyValues as reply
use Rattle.dlp_replies.specs.ReplyValues.{ReplyValue}
use Rattle.dlp_commands.specs.DeviceSteps.{DeviceStep, function_number}
use Rattle.desktop_session.specs.declared.fault.SessionFault.{SessionFault}
use Rattle.desktop_session.specs.Inquiries.{Asks, Ends, Inquiry, asks_read}
use Rattle.desktop_session.specs.Orders.{may_find_none}
use Rattle.desktop_session.proofs.ActLaws.{read_back}
use Rattle.foreign_laws.specs.Endings.{EndsOver}
use Rattle.foreign_laws.specs.Foreign.{Does, Foreign, ForeignStep, Grants, IsForeign, MayReply, Refuses, at_handle, twin}
use Rattle.foreign_laws.specs.Twins.{HasTwin}
use Rattle.foreign_laws.proofs.EndLaws.{ok_same}

-- ---- under handle 1 a request fits into a message as well

fields_fit : (f : Form) (fields : Fields (kinds_of f)) → FieldsFit (kinds_of f) fields → FieldsFit (kinds_of f) (at_handle 1 f fields)
fields_fit form.CloseDb fields fits = lit< tt
fields_fit form.ReadNextModifiedRec fields fits = lit< tt
fields_fit form.CleanUpDatabase fields fits = lit< tt
fields_fit form.ResetSyncFlags fields fits = lit< tt
fields_fit form.ReadOpenDbInfo fields fits = lit< tt
fields_fit form.ResetRecordIndex fields fits = lit< tt
fields_fit form.ReadAppBlock fields fits = (lit< tt, fits.1)
fields_fit form.WriteAppBlock fields fits = (lit< tt, fits.1)
fields_fit form.ReadSortBlock fields fits = (lit< tt, fits.1)
fields_fit form.WriteSortBlock fields fits = (lit< tt, fits.1)
fields_fit form.ReadRecordById fields fits = (lit< tt, fits.1)
fields_fit form.ReadRecordByIndex fields fits = (lit< tt, fits.1)
fields_fit form.WriteRecord fields fits = (lit< tt, fits.1)
fields_fit form.DeleteRecord fields fits = (lit< tt, fits.1)
fields_fit form.ReadResourceByIndex fields fits = (lit< tt, fits.1)
fields_fit form.ReadResourceByType fields fits = (lit< tt, fits.1)
fields_fit form.WriteResource fields fits = (lit< tt, fits.1)
fields_fit form.DeleteResource fields fits = (lit< tt, fits.1)
fields_fit form.MoveCategory fields fits = (lit< tt, fits.1)
fields_fit form.ReadRecordIdList fields fits = (lit< tt, fits.1)
fields_fit f fields fits = fits

fields_length : (f : Form) (fields : Fields (kinds_of f))
    → length (fields_text (kinds_of f) fields) ≡ length (fields_text (kinds_of f) (at_handle 1 f fields))
fields_length form.CloseDb fields = refl
fields_length f fields = refl

arg_length : (id : Option ℕ) (first other : List ℕ) → length first ≡ length other → length (argument_text id first) ≡ length (argument_text id other)
arg_length None first other same = refl
arg_length (Some id) first other same =
    ap suc (length-append (header (written_form (length first)) id (length first)) first
    ∙ ap (λ (n : ℕ). length (header (written_form n) id n) + n) same
    ∙ sym (length-append (header (written_form (length other)) id (length other)) other))

pub fits_twin : (request : RequestValue) → IsRequest request → IsRequest (twin request)
unfolding IsRequest request_text
fits_twin request fits = record {
  fields = fields_fit request.form request.fields fits.fields;
  fits = subst (λ (n : ℕ). suc n ≤ 65535) (arg_length (argument_of request.form) _ _ (fields_length request.form request.fields)) fits.fits;
}

-- ---- a step is one by the request that was asked

pub record Served (old : Foreign) (request : RequestValue) (answer : List ℕ) (new : Foreign) : Type 0 where
  pub value : ReplyValue
  pub reads : reply_at (function_number request) answer ≡ Ok value
  pub serves : Refuses old request value new ⊎ Grants old request.form request.fields value new

pub step_of : (request : RequestValue) (old new : Foreign) (answer : List ℕ) → IsRequest request → ForeignStep old (request_text request) answer new
    → Served old request answer new
step_of request old new answer fits step =
    let is : step.request ≡ request = ok_same (sym step.asked ∙ read_back request fits) in
    let both = subst (λ (r : RequestValue). (reply_at (function_number r) answer ≡ Ok step.value)
    × (Refuses old r step.value new ⊎ Grants old r.form r.fields step.value new)) is (step.reads, step.serves) in
    record { value = step.value; reads = both.0; serves = both.1 }

-- a handheld of another make stays one
pub stays_foreign : {A : Type 0} (asked : Inquiry A) (old new : Foreign) (x : A) → IsForeign old → EndsOver ForeignStep asked old x new → IsForeign new
stays_foreign (Ends answer) old new x proper ended = subst IsForeign (sym ended.1) proper
stays_foreign (Asks request more) old new x proper ended = stays_foreign (more ended.0) ended.1 new x ended.3.proper ended.4

-- ---- one request, by what is made of its reply

-- a request that isn't a list, of which no reply that is a refusal is an answer, and of which the answer to each reply that the other handheld may
-- give is that to ours
module _ {A : Type 0} (request : RequestValue) (make : List ℕ → Result A SessionFault)
    (stops : (code : ℕ) (answer : List ℕ) (x : A) → (may_find_none request.form ≡ true → (code == 5) ≡ false)
    → reply_at (function_number request) answer ≡ Ok (reply.Refused (function_number request) code) → make answer ≡ Ok x → ⊥)
    (does : (old new : Foreign) (value : ReplyValue) → Grants old request.form request.fields value new → Does old request value new)
    (same : (handle : ℕ) (ours value : ReplyValue) (answer own : List ℕ) (x : A) → MayReply request.form handle ours value
    → reply_at (function_number request) answer ≡ Ok value → reply_at (function_number request) own ≡ Ok ours → make answer ≡ Ok x → make own ≡ Ok x) where
  by : (old between new : Foreign) (answer : List ℕ) (x : A) → IsRequest request → Served old request answer between → make answer ≡ Ok x → new ≡ between
      → EndsOver DeviceStep (Asks (twin request) (λ reply. Ends (make reply))) old.device x new.device
  by old between new answer x fits served is stays = each served.serves
    where
      each : Refuses old request served.value between ⊎ Grants old request.form request.fields served.value between
          → EndsOver DeviceStep (Asks (twin request) (λ reply. Ends (make reply))) old.device x new.device
      each (inl refuses) = absurd (stops refuses.code answer x refuses.other (served.reads ∙ ap Ok refuses.is) is)
      each (inr grants) =
          let done = does old between served.value grants in (
            done.own,
            between.device,
            fits_twin request fits,
            done.step,
            (
              same between.handle done.ours served.value answer done.own x done.replies served.reads done.told is,
              ap (λ (hand : Foreign). hand.device) stays,
            ),
          )

  pub twin_by : HasTwin (Asks request (λ reply. Ends (make reply))) (Asks (twin request) (λ reply. Ends (make reply)))
  twin_by = record {
    ends = λ old new x proper ended. by old ended.1 new ended.0 x ended.2 (step_of request old ended.1 ended.0 ended.2 ended.3) ended.4.0 ended.4.1;
  }

-- the same, where the other handheld replies as ours does
pub twin_read : {A : Type 0} (request : RequestValue) (read : Result ReplyValue ReplyFault → Result A SessionFault)
    (stops : (code : ℕ) (x : A) → (may_find_none request.form ≡ true → (code == 5) ≡ false)
    → read (Ok (reply.Refused (function_number request) code)) ≡ Ok x → ⊥)
    (does : (old new : Foreign) (value : ReplyValue) → Grants old request.form request.fields value new → Does old request value new)
    (plain : (handle : ℕ) (ours value : ReplyValue) → MayReply request.form handle ours value → value ≡ ours)
    → HasTwin (asks_read request read) (asks_read (twin request) read)
twin_read request read stops does plain =
    twin_by request (λ answer. read (reply_at (function_number request) answer))
    (λ code answer x other reads is. stops code x other (ap read (sym reads) ∙ is))
    does
    (λ handle ours value answer own x may reads told is. ap read (told ∙ ap Ok (sym (plain handle ours value may)) ∙ sym reads) ∙ is)
