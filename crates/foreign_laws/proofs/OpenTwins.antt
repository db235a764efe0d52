-- A database is opened, or made, under the handle that is told: ours tells handle 1.
use Rattle.std.proofs.Common.{◌≡◌, ◌∙◌, sym, ap, inl, inr, ℕ, List}
use Rattle.std.specs.Prelude.{◌⊎◌, Ok}
use Rattle.pdb_values.specs.declared.head.DbHead.{DbHead}
use Rattle.dlp_requests.specs.RequestTexts.{IsRequest}
use Rattle.dlp_requests.specs.RequestValues.{RequestValue}
use Rattle.dlp_replies.specs.ReplyReading.{reply_at}
use Rattle.dlp_replies.specs.ReplyValues as reply
use Rattle.dlp_replies.specs.ReplyValues.{ReplyValue}
use Rattle.dlp_commands.specs.DeviceSteps.{DeviceStep, function_number}
use Rattle.desktop_session.specs.Answers.{handle_of, said_in}
use Rattle.desktop_session.specs.Asking.{makes, opens}
use Rattle.desktop_session.specs.Inquiries.{asks_for}
use Rattle.desktop_session.specs.Requests.{making, opening_in}
use Rattle.foreign_laws.specs.Endings.{EndsOver}
use Rattle.foreign_laws.specs.Foreign.{Does, Foreign, ForeignStep, Grants, IsOpened, MayReply, Refuses, twin}
use Rattle.foreign_laws.specs.Twins.{OpensAlike}
use Rattle.foreign_laws.proofs.StepLaws.{Served, fits_twin, step_of}

refused_stops : {A : Type 0} (number other code : ℕ) (take : ReplyValue → A) (x : A) → said_in number take (Ok (reply.Refused other code)) ≡ Ok x → ⊥
refused_stops number other code take x is = cc

opened_one : (number handle told : ℕ) (ours value : ReplyValue) → IsOpened handle ours value → said_in number handle_of (Ok value) ≡ Ok told
    → said_in number handle_of (Ok ours) ≡ Ok 1
opened_one number handle told (reply.OpenDb one) value is said = ap Ok is.0
opened_one number handle told (reply.CreateDb one) value is said = ap Ok is.0
opened_one number handle told (reply.Refused other code) value is said =
    absurd (refused_stops number other code handle_of told (ap (λ (v : ReplyValue). said_in number handle_of (Ok v)) (sym is) ∙ said))
opened_one number handle told ours value is said = absurd is

module _ (request : RequestValue)
    (does : (old new : Foreign) (value : ReplyValue) → Grants old request.form request.fields value new → Does old request value new)
    (opened : (handle : ℕ) (ours value : ReplyValue) → MayReply request.form handle ours value → IsOpened handle ours value) where
  by : (old between new : Foreign) (answer : List ℕ) (told : ℕ) → IsRequest request → Served old request answer between
      → said_in (function_number request) handle_of (reply_at (function_number request) answer) ≡ Ok told → new ≡ between
      → EndsOver DeviceStep (asks_for (twin request) handle_of) old.device 1 new.device
  by old between new answer told fits served is stays = each served.serves
    where
      each : Refuses old request served.value between ⊎ Grants old request.form request.fields served.value between
          → EndsOver DeviceStep (asks_for (twin request) handle_of) old.device 1 new.device
      each (inl refuses) =
          absurd (refused_stops (function_number request) (function_number request) refuses.code handle_of told
          (ap (said_in (function_number request) handle_of) (sym (served.reads ∙ ap Ok refuses.is)) ∙ is))
      each (inr grants) =
          let done = does old between served.value grants in
          let said = ap (said_in (function_number request) handle_of) (sym served.reads) ∙ is in (
            done.own,
            between.device,
            fits_twin request fits,
            done.step,
            (
              ap (said_in (function_number request) handle_of) done.told
                  ∙ opened_one (function_number request) between.handle told done.ours served.value
                  (opened between.handle done.ours served.value done.replies) said,
              ap (λ (hand : Foreign). hand.device) stays,
            ),
          )

  pub opens_by : (old new : Foreign) (told : ℕ) → EndsOver ForeignStep (asks_for request handle_of) old told new
      → EndsOver DeviceStep (asks_for (twin request) handle_of) old.device 1 new.device
  opens_by old new told ended =
      by old ended.1 new ended.0 told ended.2 (step_of request old ended.1 ended.0 ended.2 ended.3) ended.4.0 ended.4.1

pub opens_alike : (mode : ℕ) (name : List ℕ) → OpensAlike (opens mode name)
opens_alike mode name = record {
  opens = λ old new told proper ended.
      opens_by (opening_in mode name).asks (λ old new value grants. grants) (λ handle ours value may. may) old new told ended;
}

pub makes_alike : (head : DbHead) → OpensAlike (makes head)
makes_alike head = record {
  opens = λ old new told proper ended.
      opens_by (making head).asks (λ old new value grants. grants) (λ handle ours value may. may) old new told ended;
}
