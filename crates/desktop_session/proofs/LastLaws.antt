-- A refusal is by the last reply of the talk.
use Rattle.std.proofs.Common.{◌≡◌, refl, sym, ap, subst, ℕ, Bool, true, false, cond, List, [], ◌∷◌}
use Rattle.std.specs.Prelude.{◌==◌, Option, Some, None, IfErr, IfSome, Result, Ok, Err}
use Rattle.dlp_requests.specs.Forms.{Form}
use Rattle.dlp_requests.specs.RequestTexts.{IsRequest}
use Rattle.dlp_requests.specs.RequestValues.{RequestValue}
use Rattle.dlp_replies.specs.declared.error_code.ErrorCode.{ErrorCode}
use Rattle.dlp_replies.specs.declared.fault.ReplyFault.{ReplyFault}
use Rattle.dlp_replies.specs.ReplyReading.{reply_at}
use Rattle.dlp_replies.specs.ReplyValues as reply
use Rattle.dlp_replies.specs.ReplyValues.{ReplyValue}
use Rattle.dlp_commands.specs.declared.link.LinkFault.{LinkFault}
use Rattle.dlp_commands.specs.declared.link.LinkFault.TheVariants as link
use Rattle.dlp_commands.specs.Talks.{Talk}
use Rattle.desktop_session.specs.declared.fault.SessionFault.{SessionFault}
use Rattle.desktop_session.specs.declared.fault.SessionFault.TheVariants as session
use Rattle.desktop_session.specs.Acts.{Act, acted, text}
use Rattle.desktop_session.specs.Answers.{answer_by, no_more, or_false, or_none, said_in}
use Rattle.desktop_session.specs.Faults.{fault_of}
use Rattle.desktop_session.specs.Lasts.{IsBroken, IsByErrorReply, IsByLastReply, IsErrorReply, IsRefusal, LastSays}
use Rattle.desktop_session.specs.Lists.{HasCause, IsNotMissing, IsToldOf}
use Rattle.desktop_session.specs.Orders.{may_find_none}
use Rattle.desktop_session.proofs.ActLaws.{read_back}
use Rattle.desktop_session.proofs.AnswerLaws.{cause_of_reply}
use Rattle.desktop_session.specs.Says.{saying}
use Rattle.desktop_session.specs.Sessions.{SessionValue}
use Rattle.desktop_session.specs.Stops.{AsksOne, Does}
use Rattle.desktop_session.specs.Tellings.{number_of}

-- what the reply to one act says is what the last reply says
says_last : (says : RequestValue → Result ReplyValue ReplyFault → Type 0) (one : Act) {new : Option Talk} (old : Option Talk) (bytes : List ℕ)
    → IsRequest one.asks → new ≡ saying (one ∷ []) old → IfSome old (λ talk. bytes ≡ (acted one talk.device).0)
    → says one.asks (reply_at (number_of one) bytes) → IfSome new (LastSays says)
unfolding saying text
says_last says one {new} None bytes fits is told reads = subst (λ talk. IfSome talk (LastSays says)) (sym is) tt
says_last says one {new} (Some talk) bytes fits is told reads =
    subst (λ talk. IfSome talk (LastSays says)) (sym is) (record {
      before = talk.exchanges;
      exchange = record { request = text one; reply = (acted one talk.device).0 };
      is = refl;
      asked = one.asks;
      request = read_back one.asks fits;
      reads = subst (λ bytes. says one.asks (reply_at (number_of one) bytes)) told reads;
    })

module _ {L : Type 0} {talk : L → Option Talk} {since : L → L → Type 0} {fault : L → Option LinkFault} {downs : L → ℕ} {one : Act} {old new : SessionValue L} where
  asked_last : (says : RequestValue → Result ReplyValue ReplyFault → Type 0) → AsksOne talk since fault downs one old new → fault new.link ≡ None
      → says one.asks (reply_at (number_of one) new.reply) → IfSome (talk new.link) (LastSays says)
  asked_last says asked none reads =
      says_last says one (talk old.link) new.reply asked.fits ((asked.does none).said) (asked.told none) reads

  -- by the cause of a refusal, its function, and that it is not the answer that a call has for error 5
  pub last_by : (cause : SessionFault) → AsksOne talk since fault downs one old new → HasCause (fault new.link) (reply_at (number_of one) new.reply) cause
      → IsToldOf (number_of one) cause → (may_find_none one.asks.form ≡ true → IsNotMissing cause) → IsByLastReply (talk new.link) cause
  last_by (session.Refused function code) asked is own other =
      asked_last (IsRefusal function code.0) asked is.0 (record { own = own; refuses = is.1; other = other })
  last_by (session.BadReply function broken) asked is own other =
      asked_last (IsBroken function broken) asked is.0 (record { own = own; breaks = is.1 })
  last_by other asked is own found = tt

  -- and without the last
  pub error_by : (cause : SessionFault) → AsksOne talk since fault downs one old new → HasCause (fault new.link) (reply_at (number_of one) new.reply) cause
      → IsToldOf (number_of one) cause → IsByErrorReply (talk new.link) cause
  error_by (session.Refused function code) asked is own =
      asked_last (IsErrorReply function code.0) asked is.0 (record { own = own; refuses = is.1 })
  error_by (session.BadReply function broken) asked is own =
      asked_last (IsBroken function broken) asked is.0 (record { own = own; breaks = is.1 })
  error_by other asked is own = tt

-- the cause of an answer
cause_said : {A : Type 0} (function : ℕ) (take : ReplyValue → A) (read : Result ReplyValue ReplyFault) (cause : SessionFault)
    → Err cause ≡ said_in function take read → HasCause None read cause
cause_said function take (Err broken) cause is = let same : cause ≡ session.BadReply function broken = cc in rw same (refl, refl)
cause_said function take (Ok (reply.Refused number code)) cause is =
    let other : ErrorCode = record { 0 = code } in
    let same : cause ≡ session.Refused function other = cc in rw same (refl, refl)
cause_said function take (Ok value) cause is = absurd cc

pub cause_answered : {A : Type 0} (fault : Option LinkFault) (function : ℕ) (take : ReplyValue → A) (read : Result ReplyValue ReplyFault) (cause : SessionFault)
    → Err cause ≡ answer_by fault (said_in function take read) → HasCause fault read cause
cause_answered None function take read cause is = cause_said function take read cause is
cause_answered (Some link.Down) function take read cause is = let same : cause ≡ session.Down = cc in rw same refl
cause_answered (Some link.NoMemory) function take read cause is = let same : cause ≡ session.NoMemory = cc in rw same tt

-- and its function
told_said : {A : Type 0} (function : ℕ) (take : ReplyValue → A) (read : Result ReplyValue ReplyFault) (cause : SessionFault)
    → Err cause ≡ said_in function take read → IsToldOf function cause
told_said function take (Err broken) cause is = let same : cause ≡ session.BadReply function broken = cc in rw same refl
told_said function take (Ok (reply.Refused number code)) cause is =
    let other : ErrorCode = record { 0 = code } in
    let same : cause ≡ session.Refused function other = cc in rw same refl
told_said function take (Ok value) cause is = absurd cc

pub told_answered : {A : Type 0} (fault : Option LinkFault) (function : ℕ) (take : ReplyValue → A) (read : Result ReplyValue ReplyFault) (cause : SessionFault)
    → Err cause ≡ answer_by fault (said_in function take read) → IsToldOf function cause
told_answered None function take read cause is = told_said function take read cause is
told_answered (Some link.Down) function take read cause is = let same : cause ≡ session.Down = cc in rw same tt
told_answered (Some link.NoMemory) function take read cause is = let same : cause ≡ session.NoMemory = cc in rw same tt

-- a request whose call has no answer of its own for error 5
pub never_missing : (f : Form) (P : Type 0) → may_find_none f ≡ false → may_find_none f ≡ true → P
never_missing f P none some = absurd (let never : ⊥ = cc in never)

module _ {L A : Type 0} {talk : L → Option Talk} {since : L → L → Type 0} {fault : L → Option LinkFault} {downs : L → ℕ} {one : Act} {old new : SessionValue L} where
  -- by what an answered act's reply says
  pub last_caused : (answer : Result A SessionFault) → AsksOne talk since fault downs one old new
      → ◌≡◌ {A = Result (Unit {0}) SessionFault} (Ok tt) (answer_by (fault new.link) (Ok tt))
      → IfErr answer (HasCause None (reply_at (number_of one) new.reply)) → IfErr answer (IsToldOf (number_of one))
      → (may_find_none one.asks.form ≡ true → IfErr answer IsNotMissing) → IfErr answer (IsByLastReply (talk new.link))
  last_caused (Ok done) asked done_is is own other = tt
  last_caused (Err cause) asked done_is is own other =
      last_by cause asked (cause_of_reply (fault new.link) (reply_at (number_of one) new.reply) cause done_is is) own other

  pub last_said : (take : ReplyValue → A) (answer : Result A SessionFault) → may_find_none one.asks.form ≡ false → AsksOne talk since fault downs one old new
      → ◌≡◌ {A = Result (Unit {0}) SessionFault} (Ok tt) (answer_by (fault new.link) (Ok tt))
      → answer ≡ said_in (number_of one) take (reply_at (number_of one) new.reply) → IfErr answer (IsByLastReply (talk new.link))
  last_said take (Ok done) none asked done_is is = tt
  last_said take (Err cause) none asked done_is is =
      last_caused (Err cause) asked done_is (cause_said (number_of one) take (reply_at (number_of one) new.reply) cause is)
      (told_said (number_of one) take (reply_at (number_of one) new.reply) cause is) (never_missing one.asks.form _ none)

  -- by what a call answers
  pub last_answered : (take : ReplyValue → A) (answer : Result A SessionFault) → may_find_none one.asks.form ≡ false
      → AsksOne talk since fault downs one old new
      → answer ≡ answer_by (fault new.link) (said_in (number_of one) take (reply_at (number_of one) new.reply)) → IfErr answer (IsByLastReply (talk new.link))
  last_answered take (Ok done) none asked is = tt
  last_answered take (Err cause) none asked is =
      last_by cause asked (cause_answered (fault new.link) (number_of one) take (reply_at (number_of one) new.reply) cause is)
      (told_answered (fault new.link) (number_of one) take (reply_at (number_of one) new.reply) cause is) (never_missing one.asks.form _ none)

-- error 5 is no refusal of what may not be there
refusal_tested : {A B : Type 0} (here : A) (b : Bool) (function : ℕ) (code : ErrorCode) (cause : SessionFault)
    → ◌≡◌ {A = Result A SessionFault} (Err cause) (cond b (Ok here) (Err (session.Refused function code)))
    → ◌≡◌ {A = Result B SessionFault} (Err cause) (Err (session.Refused function code))
refusal_tested here true function code cause is = absurd cc
refusal_tested here false function code cause is = let same : cause ≡ session.Refused function code = cc in ap (λ c. Err c) same

-- and what is left of them is no such one
other_tested : {A : Type 0} (here : A) (b : Bool) (function : ℕ) (code : ErrorCode) (cause : SessionFault) → (code.0 == 5) ≡ b
    → ◌≡◌ {A = Result A SessionFault} (Err cause) (cond b (Ok here) (Err (session.Refused function code))) → IsNotMissing cause
other_tested here true function code cause five is = absurd cc
other_tested here false function code cause five is = let same : cause ≡ session.Refused function code = cc in rw same five

kept_other : {A : Type 0} (now cause : SessionFault) → IsNotMissing now → ◌≡◌ {A = Result A SessionFault} (Err cause) (Err now) → IsNotMissing cause
kept_other now cause other is = let same : cause ≡ now = cc in rw same other

kept_cause : {A B : Type 0} (now cause : SessionFault) → ◌≡◌ {A = Result A SessionFault} (Err cause) (Err now)
    → ◌≡◌ {A = Result B SessionFault} (Err cause) (Err now)
kept_cause now cause is = let same : cause ≡ now = cc in ap (λ c. Err c) same

found_refusal : {A : Type 0} (said : Result A SessionFault) (cause : SessionFault) → ◌≡◌ {A = Result (Option A) SessionFault} (Err cause) (or_none said)
    → Err cause ≡ said
found_refusal (Ok x) cause is = absurd cc
found_refusal (Err (session.Refused function code)) cause is = refusal_tested None (code.0 == 5) function code cause is
found_refusal (Err session.Down) cause is = kept_cause session.Down cause is
found_refusal (Err (session.OtherUser one two)) cause is = kept_cause (session.OtherUser one two) cause is
found_refusal (Err (session.BadReply function broken)) cause is = kept_cause (session.BadReply function broken) cause is
found_refusal (Err session.TooManyUsers) cause is = kept_cause session.TooManyUsers cause is
found_refusal (Err session.NoMemory) cause is = kept_cause session.NoMemory cause is

removed_refusal : (said : Result (Unit {0}) SessionFault) (cause : SessionFault) → ◌≡◌ {A = Result Bool SessionFault} (Err cause) (or_false said)
    → Err cause ≡ said
removed_refusal (Ok x) cause is = absurd cc
removed_refusal (Err (session.Refused function code)) cause is = refusal_tested false (code.0 == 5) function code cause is
removed_refusal (Err session.Down) cause is = kept_cause session.Down cause is
removed_refusal (Err (session.OtherUser one two)) cause is = kept_cause (session.OtherUser one two) cause is
removed_refusal (Err (session.BadReply function broken)) cause is = kept_cause (session.BadReply function broken) cause is
removed_refusal (Err session.TooManyUsers) cause is = kept_cause session.TooManyUsers cause is
removed_refusal (Err session.NoMemory) cause is = kept_cause session.NoMemory cause is

retyped : {A B : Type 0} (fault : LinkFault) (cause : SessionFault) → ◌≡◌ {A = Result A SessionFault} (Err cause) (Err (fault_of fault))
    → ◌≡◌ {A = Result B SessionFault} (Err cause) (Err (fault_of fault))
retyped fault cause is = kept_cause (fault_of fault) cause is

pub by_found : {A : Type 0} (fault : Option LinkFault) (said : Result A SessionFault) (cause : SessionFault)
    → ◌≡◌ {A = Result (Option A) SessionFault} (Err cause) (answer_by fault (or_none said)) → Err cause ≡ answer_by fault said
by_found None said cause is = found_refusal said cause is
by_found (Some fault) said cause is = retyped fault cause is

pub by_removed : (fault : Option LinkFault) (said : Result (Unit {0}) SessionFault) (cause : SessionFault)
    → ◌≡◌ {A = Result Bool SessionFault} (Err cause) (answer_by fault (or_false said)) → Err cause ≡ answer_by fault said
by_removed None said cause is = removed_refusal said cause is
by_removed (Some fault) said cause is = retyped fault cause is

-- such a refusal is none of what may not be there
found_other : {A : Type 0} (said : Result A SessionFault) (cause : SessionFault) → ◌≡◌ {A = Result (Option A) SessionFault} (Err cause) (or_none said)
    → IsNotMissing cause
found_other (Ok x) cause is = absurd cc
found_other (Err (session.Refused function code)) cause is = other_tested None (code.0 == 5) function code cause refl is
found_other (Err session.Down) cause is = kept_other session.Down cause tt is
found_other (Err (session.OtherUser one two)) cause is = kept_other (session.OtherUser one two) cause tt is
found_other (Err (session.BadReply function broken)) cause is = kept_other (session.BadReply function broken) cause tt is
found_other (Err session.TooManyUsers) cause is = kept_other session.TooManyUsers cause tt is
found_other (Err session.NoMemory) cause is = kept_other session.NoMemory cause tt is

removed_other : (said : Result (Unit {0}) SessionFault) (cause : SessionFault) → ◌≡◌ {A = Result Bool SessionFault} (Err cause) (or_false said)
    → IsNotMissing cause
removed_other (Ok x) cause is = absurd cc
removed_other (Err (session.Refused function code)) cause is = other_tested false (code.0 == 5) function code cause refl is
removed_other (Err session.Down) cause is = kept_other session.Down cause tt is
removed_other (Err (session.OtherUser one two)) cause is = kept_other (session.OtherUser one two) cause tt is
removed_other (Err (session.BadReply function broken)) cause is = kept_other (session.BadReply function broken) cause tt is
removed_other (Err session.TooManyUsers) cause is = kept_other session.TooManyUsers cause tt is
removed_other (Err session.NoMemory) cause is = kept_other session.NoMemory cause tt is

link_other : {A : Type 0} (fault : LinkFault) (cause : SessionFault) → ◌≡◌ {A = Result A SessionFault} (Err cause) (Err (fault_of fault)) → IsNotMissing cause
link_other link.Down cause is = kept_other session.Down cause tt is
link_other link.NoMemory cause is = kept_other session.NoMemory cause tt is

pub other_found : {A : Type 0} (fault : Option LinkFault) (said : Result A SessionFault) (cause : SessionFault)
    → ◌≡◌ {A = Result (Option A) SessionFault} (Err cause) (answer_by fault (or_none said)) → IsNotMissing cause
other_found None said cause is = found_other said cause is
other_found (Some fault) said cause is = link_other fault cause is

pub other_removed : (fault : Option LinkFault) (said : Result (Unit {0}) SessionFault) (cause : SessionFault)
    → ◌≡◌ {A = Result Bool SessionFault} (Err cause) (answer_by fault (or_false said)) → IsNotMissing cause
other_removed None said cause is = removed_other said cause is
other_removed (Some fault) said cause is = link_other fault cause is

module _ {L : Type 0} {talk : L → Option Talk} {since : L → L → Type 0} {fault : L → Option LinkFault} {downs : L → ℕ} {one : Act} {old new : SessionValue L} where
  pub last_refused_by : {A : Type 0} (take : ReplyValue → A) (cause : SessionFault) → (may_find_none one.asks.form ≡ true → IsNotMissing cause)
      → AsksOne talk since fault downs one old new
      → Err cause ≡ answer_by (fault new.link) (said_in (number_of one) take (reply_at (number_of one) new.reply)) → IsByLastReply (talk new.link) cause
  last_refused_by take cause other asked is =
      last_by cause asked (cause_answered (fault new.link) (number_of one) take (reply_at (number_of one) new.reply) cause is)
      (told_answered (fault new.link) (number_of one) take (reply_at (number_of one) new.reply) cause is) other

  pub error_refused : {A : Type 0} (take : ReplyValue → A) (cause : SessionFault) → AsksOne talk since fault downs one old new
      → Err cause ≡ answer_by (fault new.link) (said_in (number_of one) take (reply_at (number_of one) new.reply)) → IsByErrorReply (talk new.link) cause
  error_refused take cause asked is =
      error_by cause asked (cause_answered (fault new.link) (number_of one) take (reply_at (number_of one) new.reply) cause is)
      (told_answered (fault new.link) (number_of one) take (reply_at (number_of one) new.reply) cause is)

  pub last_refused : {A : Type 0} (take : ReplyValue → A) (cause : SessionFault) → may_find_none one.asks.form ≡ false
      → AsksOne talk since fault downs one old new
      → Err cause ≡ answer_by (fault new.link) (said_in (number_of one) take (reply_at (number_of one) new.reply)) → IsByLastReply (talk new.link) cause
  last_refused take cause none asked is = last_refused_by take cause (never_missing one.asks.form _ none) asked is

  pub last_found : {A : Type 0} (take : ReplyValue → A) (cause : SessionFault) → AsksOne talk since fault downs one old new
      → ◌≡◌ {A = Result (Option A) SessionFault} (Err cause) (answer_by (fault new.link) (or_none (said_in (number_of one) take (reply_at (number_of one) new.reply))))
      → IsByLastReply (talk new.link) cause
  last_found take cause asked is =
      last_refused_by take cause (λ may. other_found (fault new.link) (said_in (number_of one) take (reply_at (number_of one) new.reply)) cause is) asked
      (by_found (fault new.link) (said_in (number_of one) take (reply_at (number_of one) new.reply)) cause is)

  pub last_removed : (cause : SessionFault) → AsksOne talk since fault downs one old new
      → ◌≡◌ {A = Result Bool SessionFault} (Err cause) (answer_by (fault new.link) (or_false (said_in (number_of one) no_more (reply_at (number_of one) new.reply))))
      → IsByLastReply (talk new.link) cause
  last_removed cause asked is =
      last_refused_by no_more cause (λ may. other_removed (fault new.link) (said_in (number_of one) no_more (reply_at (number_of one) new.reply)) cause is) asked
      (by_removed (fault new.link) (said_in (number_of one) no_more (reply_at (number_of one) new.reply)) cause is)
