-- A record that a handheld of another make lends is the one that ours does: what comes cut is taken for none.
use Rattle.std.proofs.Common.{◌≡◌, ◌∙◌, refl, sym, ap, inl, inr, ℕ, Bool, true, false, List, []}
use Rattle.std.specs.Prelude.{◌==◌, Option, Result, Ok, if◌then◌else◌}
use Rattle.dlp_requests.specs.RequestValues.{RequestValue}
use Rattle.dlp_replies.specs.declared.fault.ReplyFault.{ReplyFault}
use Rattle.dlp_replies.specs.ReplyReading.{reply_at}
use Rattle.dlp_replies.specs.ReplyValues as reply
use Rattle.dlp_replies.specs.ReplyValues.{ReplyValue}
use Rattle.dlp_commands.specs.DeviceSteps.{function_number}
use Rattle.desktop_session.specs.declared.fault.SessionFault.{SessionFault}
use Rattle.desktop_session.specs.Answers.{or_none, record_of, said_in}
use Rattle.desktop_session.specs.Inquiries.{Asks, Ends, ◌>>=◌}
use Rattle.desktop_session.specs.Lendings.{lends_at, lends_next, lends_of}
use Rattle.desktop_session.specs.Lent.{LentValue}
use Rattle.desktop_session.specs.Orders.{may_find_none}
use Rattle.desktop_session.specs.Requests.{reading_at, reading_next, reading_of}
use Rattle.desktop_session.specs.Wholes.{is_whole, whole_reply}
use Rattle.foreign_laws.specs.Foreign.{Does, Foreign, Grants, IsOursOrCut, MayReply, twin}
use Rattle.foreign_laws.specs.Twins.{HasTwin}
use Rattle.foreign_laws.proofs.AskTwins.{none_stops, said_stops}
use Rattle.foreign_laws.proofs.StepLaws.{twin_by}

-- a reply by what is_whole says of it
by_whole : (number : ℕ) (answer : List ℕ) (b : Bool) → is_whole (reply_at number answer) ≡ b
    → reply_at number (whole_reply number answer) ≡ reply_at number (if b then answer else [])
by_whole number answer b is = ap (λ (w : Bool). reply_at number (if w then answer else [])) is

module _ {A : Type 0} (request : RequestValue) (read : Result ReplyValue ReplyFault → Result A SessionFault)
    (stops : (code : ℕ) (x : A) → (may_find_none request.form ≡ true → (code == 5) ≡ false)
    → read (Ok (reply.Refused (function_number request) code)) ≡ Ok x → ⊥)
    (none : (x : A) → read (reply_at (function_number request) []) ≡ Ok x → ⊥)
    (does : (old new : Foreign) (value : ReplyValue) → Grants old request.form request.fields value new → Does old request value new)
    (cut : (handle : ℕ) (ours value : ReplyValue) → MayReply request.form handle ours value → IsOursOrCut ours value) where
  abbrev make : List ℕ → Result A SessionFault
  make answer = read (reply_at (function_number request) (whole_reply (function_number request) answer))

  refused : (code : ℕ) (answer : List ℕ) (x : A) → (may_find_none request.form ≡ true → (code == 5) ≡ false)
      → reply_at (function_number request) answer ≡ Ok (reply.Refused (function_number request) code)
      → make answer ≡ Ok x → ⊥
  refused code answer x other reads is =
      stops code x other (ap read (sym (by_whole (function_number request) answer true (ap is_whole reads) ∙ reads)) ∙ is)

  whole_same : (ours value : ReplyValue) (answer own : List ℕ) (x : A) (b : Bool) → is_whole (Ok value) ≡ b → value ≡ ours
      → reply_at (function_number request) answer ≡ Ok value → reply_at (function_number request) own ≡ Ok ours
      → make answer ≡ Ok x
      → make own ≡ Ok x
  whole_same ours value answer own x true whole same reads told is =
      let n = function_number request in
      let theirs : reply_at n (whole_reply n answer) ≡ Ok value = by_whole n answer true (ap is_whole reads ∙ whole) ∙ reads in
      let mine : reply_at n (whole_reply n own) ≡ Ok ours =
      by_whole n own true (ap is_whole told ∙ ap (λ (v : ReplyValue). is_whole (Ok v)) (sym same) ∙ whole) ∙ told in
      ap read (mine ∙ ap Ok (sym same) ∙ sym theirs) ∙ is
  whole_same ours value answer own x false whole same reads told is =
      absurd (none x (ap read (sym (by_whole (function_number request) answer false (ap is_whole reads ∙ whole))) ∙ is))

  lent_same : (ours value : ReplyValue) (answer own : List ℕ) (x : A) → IsOursOrCut ours value
      → reply_at (function_number request) answer ≡ Ok value → reply_at (function_number request) own ≡ Ok ours
      → make answer ≡ Ok x
      → make own ≡ Ok x
  lent_same ours value answer own x (inl same) reads told is = whole_same ours value answer own x (is_whole (Ok value)) refl same reads told is
  lent_same ours value answer own x (inr short) reads told is =
      absurd (none x (ap read (sym (by_whole (function_number request) answer false (ap is_whole reads ∙ short))) ∙ is))

  pub twin_record : HasTwin (Asks request (λ answer. Ends (make answer))) (Asks (twin request) (λ answer. Ends (make answer)))
  twin_record = twin_by request make refused does
      (λ handle ours value answer own x may reads told is. lent_same ours value answer own x (cut handle ours value may) reads told is)

-- no bytes are no record
no_record : (x : LentValue) → said_in 0x20 record_of (reply_at 0x20 []) ≡ Ok x → ⊥
unfolding reply_at
no_record x is = cc

none_of : (x : Option LentValue) → or_none (said_in 0x20 record_of (reply_at 0x20 [])) ≡ Ok x → ⊥
unfolding reply_at
none_of x is = cc

none_next : (x : Option LentValue) → or_none (said_in 0x1F record_of (reply_at 0x1F [])) ≡ Ok x → ⊥
unfolding reply_at
none_next x is = cc

module _ (handle : ℕ) where
  pub twin_at : (index : ℕ) → HasTwin (lends_at handle index) (lends_at 1 index)
  unfolding ◌>>=◌
  twin_at index = twin_record (reading_at handle index).asks (said_in 0x20 record_of) (λ code x other is. said_stops 0x20 code record_of x is) no_record
      (λ old new value grants. grants) (λ handle ours value may. may)

  pub twin_of : (id : ℕ) → HasTwin (lends_of handle id) (lends_of 1 id)
  unfolding ◌>>=◌
  twin_of id = twin_record (reading_of handle id).asks (λ read. or_none (said_in 0x20 record_of read))
      (λ code x other is. none_stops 0x20 code record_of x (other refl) is) none_of (λ old new value grants. grants) (λ handle ours value may. may)

  pub twin_next : HasTwin (lends_next handle) (lends_next 1)
  unfolding ◌>>=◌
  twin_next = twin_record (reading_next handle).asks (λ read. or_none (said_in 0x1F record_of read))
      (λ code x other is. none_stops 0x1F code record_of x (other refl) is) none_next (λ old new value grants. grants) (λ handle ours value may. may)
