-- Why a session stops once both sides have met.
use Rattle.std.proofs.Common.{◌≡◌, inl, inr, ◌⊎◌, subst, sym, ℕ, Bool, false, List, Option, Some, None, IfErr, Result, Ok, Err}
use Rattle.dlp_replies.specs.declared.fault.ReplyFault.{ReplyFault}
use Rattle.dlp_replies.specs.ReplyReading.{reply_at}
use Rattle.dlp_replies.specs.ReplyValues.{ReplyValue}
use Rattle.session_parts.proofs.LinkWords.{LinkFault, Talk, SessionFault, Act, SessionValue, AsksOne, Ended, Halted, answer_by, no_more, said_in, end_of, link_ended}
use Rattle.desktop_session.specs.declared.fault.SessionFault.TheVariants as session
use Rattle.desktop_session.specs.Answers.{IsCopy, block_of, or_false, or_none}
use Rattle.desktop_session.specs.Lasts.{IsByLastReply}
use Rattle.desktop_session.specs.Lists.{HasCause}
use Rattle.desktop_session.specs.Orders.{may_find_none}
use Rattle.desktop_session.specs.Tellings.{number_of}
use Rattle.desktop_session.proofs.LastLaws.{by_found, by_removed, cause_answered, last_found, last_refused, last_removed}
use Rattle.session_parts.specs.Causes.{IsLater}

-- by the cause of a refusal, and the last reply
pub later_by : (talk : Option Talk) (fault : Option LinkFault) (read : Result ReplyValue ReplyFault) (cause : SessionFault) → HasCause fault read cause
    → IsByLastReply talk cause → IsLater talk fault cause
later_by talk fault read session.Down is last = is
later_by talk fault read (session.Refused function code) is last = (is.0, last)
later_by talk fault read (session.BadReply function broken) is last = (is.0, last)
later_by talk fault read session.NoMemory is last = tt
later_by talk fault read other is last = absurd is

pub later_by_two : (talk : Option Talk) (fault : Option LinkFault) (one two : Result ReplyValue ReplyFault) (cause : SessionFault)
    → HasCause fault one cause ⊎ HasCause fault two cause → IsByLastReply talk cause → IsLater talk fault cause
later_by_two talk fault one two cause (inl is) last = later_by talk fault one cause is last
later_by_two talk fault one two cause (inr is) last = later_by talk fault two cause is last

pub later_by_three : (talk : Option Talk) (fault : Option LinkFault) (one two three : Result ReplyValue ReplyFault) (cause : SessionFault)
    → HasCause fault one cause ⊎ (HasCause fault two cause ⊎ HasCause fault three cause) → IsByLastReply talk cause → IsLater talk fault cause
later_by_three talk fault one two three cause (inl is) last = later_by talk fault one cause is last
later_by_three talk fault one two three cause (inr is) last = later_by_two talk fault two three cause is last

pub later_by_four : (talk : Option Talk) (fault : Option LinkFault) (one two three four : Result ReplyValue ReplyFault) (cause : SessionFault)
    → HasCause fault one cause ⊎ (HasCause fault two cause ⊎ (HasCause fault three cause ⊎ HasCause fault four cause)) → IsByLastReply talk cause
    → IsLater talk fault cause
later_by_four talk fault one two three four cause (inl is) last = later_by talk fault one cause is last
later_by_four talk fault one two three four cause (inr is) last = later_by_three talk fault two three four cause is last

-- by an answer, and the last reply
pub later_said : {A : Type 0} (function : ℕ) (talk : Option Talk) (fault : Option LinkFault) (take : ReplyValue → A) (read : Result ReplyValue ReplyFault)
    (cause : SessionFault) → Err cause ≡ answer_by fault (said_in function take read) → IsByLastReply talk cause → IsLater talk fault cause
later_said function talk fault take read cause is last = later_by talk fault read cause (cause_answered fault function take read cause is) last

module _ {L A : Type 0} {talk : L → Option Talk} {since : L → L → Type 0} {fault : L → Option LinkFault} {downs : L → ℕ} {one : Act} {old new : SessionValue L} where
  -- by the answer to one act
  pub later_refused : (take : ReplyValue → A) (cause : SessionFault) → may_find_none one.asks.form ≡ false → AsksOne talk since fault downs one old new
      → Err cause ≡ answer_by (fault new.link) (said_in (number_of one) take (reply_at (number_of one) new.reply)) → IsLater (talk new.link) (fault new.link) cause
  later_refused take cause none asked is =
      later_said (number_of one) (talk new.link) (fault new.link) take (reply_at (number_of one) new.reply) cause is (last_refused take cause none asked is)

  pub later_answer : (take : ReplyValue → A) (answer : Result A SessionFault) → may_find_none one.asks.form ≡ false
      → AsksOne talk since fault downs one old new
      → answer ≡ answer_by (fault new.link) (said_in (number_of one) take (reply_at (number_of one) new.reply)) → IfErr answer (IsLater (talk new.link) (fault new.link))
  later_answer take (Ok x) none asked is = tt
  later_answer take (Err cause) none asked is = later_refused take cause none asked is

  -- the same where error 5 has an answer of its own
  pub later_found : (take : ReplyValue → A) (cause : SessionFault) → AsksOne talk since fault downs one old new
      → ◌≡◌ {A = Result (Option A) SessionFault} (Err cause) (answer_by (fault new.link) (or_none (said_in (number_of one) take (reply_at (number_of one) new.reply))))
      → IsLater (talk new.link) (fault new.link) cause
  later_found take cause asked is =
      later_said (number_of one) (talk new.link) (fault new.link) take (reply_at (number_of one) new.reply) cause
      (by_found (fault new.link) (said_in (number_of one) take (reply_at (number_of one) new.reply)) cause is) (last_found take cause asked is)

  -- a database that was not opened
  pub later_unopened : {B : Type 0} (number : ℕ) (take : ReplyValue → A) (r : Result B SessionFault) (cause : SessionFault)
      → number ≡ number_of one → may_find_none one.asks.form ≡ false → AsksOne talk since fault downs one old new → r ≡ Err cause
      → IfErr r (λ cause. Err cause ≡ answer_by (fault new.link) (said_in number take (reply_at number new.reply)))
      → IsLater (talk new.link) (fault new.link) cause
  later_unopened number take r cause own none asked is held =
      later_refused take cause none asked
      (subst (λ n. Err cause ≡ answer_by (fault new.link) (said_in n take (reply_at n new.reply))) own (rw is at held))

pub later_removed : {L : Type 0} {talk : L → Option Talk} {since : L → L → Type 0} {fault : L → Option LinkFault} {downs : L → ℕ} {one : Act}
    {old new : SessionValue L} (cause : SessionFault) → AsksOne talk since fault downs one old new
    → ◌≡◌ {A = Result Bool SessionFault} (Err cause) (answer_by (fault new.link) (or_false (said_in (number_of one) no_more (reply_at (number_of one) new.reply))))
    → IsLater (talk new.link) (fault new.link) cause
later_removed {talk} {fault} {one} {new} cause asked is =
    later_said (number_of one) (talk new.link) (fault new.link) no_more (reply_at (number_of one) new.reply) cause
    (by_removed (fault new.link) (said_in (number_of one) no_more (reply_at (number_of one) new.reply)) cause is) (last_removed cause asked is)

-- an ending
pub later_ended : {L : Type 0} (function : ℕ) (talk : L → Option Talk) (fault : L → Option LinkFault) (read : Result ReplyValue ReplyFault)
    (answer : Result (Ended L) (Halted L))
    → end_of answer ≡ answer_by (fault (link_ended answer)) (said_in function no_more read) → IfErr answer (λ halted. IsByLastReply (talk halted.link) halted.cause)
    → IfErr answer (λ halted. IsLater (talk halted.link) (fault halted.link) halted.cause)
later_ended function talk fault read (Ok ended) is last = tt
later_ended function talk fault read (Err halted) is last =
    later_said function (talk halted.link) (fault halted.link) no_more read halted.cause is last

-- a block that was not had: memory ran out for its copy, or it was refused
not_had : {A : Type 0} (bytes : A → List ℕ) (cause : SessionFault) (said : Result (Option (List ℕ)) SessionFault) → IsCopy bytes (Err cause) said
    → (cause ≡ session.NoMemory) ⊎ (said ≡ Err cause)
not_had bytes cause (Ok (Some found)) is = inl is
not_had bytes cause (Ok None) is = inr is
not_had bytes cause (Err other) is = inr is

module _ {L A : Type 0} {talk : L → Option Talk} {since : L → L → Type 0} {fault : L → Option LinkFault} {downs : L → ℕ} {one : Act} {old new : SessionValue L} where
  pub later_copy : (bytes : A → List ℕ) (cause : SessionFault) → AsksOne talk since fault downs one old new
      → IsCopy bytes (Err cause) (answer_by (fault new.link) (or_none (said_in (number_of one) block_of (reply_at (number_of one) new.reply))))
      → IsLater (talk new.link) (fault new.link) cause
  later_copy bytes cause asked copy = elim (not_had bytes cause _ copy) [
    | inl none ↦ rw none tt
    | inr is ↦ later_found block_of cause asked (sym is)
  ]
