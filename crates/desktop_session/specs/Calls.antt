-- What a call of a session takes from its last reply, and what it stops for.
use Rattle.std.specs.Prelude.{◌≡◌, ℕ, true, Option, Result, Err}
use Rattle.dlp_replies.specs.ReplyReading.{reply_at}
use Rattle.dlp_replies.specs.ReplyValues.{ReplyValue}
use Rattle.dlp_commands.specs.declared.link.LinkFault.{LinkFault}
use Rattle.dlp_commands.specs.Talks.{Talk}
use Rattle.desktop_session.specs.declared.fault.SessionFault.{SessionFault}
use Rattle.desktop_session.specs.Acts.{Act}
use Rattle.desktop_session.specs.Answers.{answer_by, said_in}
use Rattle.desktop_session.specs.Lasts.{IsByErrorReply, IsByLastReply}
use Rattle.desktop_session.specs.Lists.{HasCause, IsByReplyTo, IsNotMissing, id_listing, id_parts}
use Rattle.desktop_session.specs.Orders.{SaysInOrder, may_find_none}
use Rattle.desktop_session.specs.Sessions.{SessionValue}
use Rattle.desktop_session.specs.Stops.{AsksOne}
use Rattle.desktop_session.specs.Tellings.{number_of}

-- what a call takes from the last reply, which is one to its act
abbrev pub reply_said : {L A : Type 0} → Act → (ReplyValue → A) → SessionValue L
    → Result A SessionFault
reply_said one take now = said_in (number_of one) take (reply_at (number_of one) now.reply)

-- what the call answers: the fault of its link, or that
abbrev pub call_answer : {L A : Type 0} → (L → Option LinkFault) → Act → (ReplyValue → A)
    → SessionValue L → Result A SessionFault
call_answer fault one take now = answer_by (fault now.link) (reply_said one take now)

-- ---- what a call stops for

-- A call answers its link's fault, or what was said. Where that is a cause to stop, it is what the
-- last reply of the link's talk says.
abbrev pub StopsByLastReply : {L A : Type 0} → (L → Option Talk) → (L → Option LinkFault)
    → SessionValue L → Result A SessionFault → Type 0
StopsByLastReply talk fault now said =
    (cause : SessionFault) → Err cause ≡ answer_by (fault now.link) said
    → IsByLastReply (talk now.link) cause

-- the same of a cause that is not error 5, where the request may find none
abbrev pub OthersStopByLastReply : {L A : Type 0} → Act → (L → Option Talk)
    → (L → Option LinkFault) → SessionValue L → Result A SessionFault → Type 0
OthersStopByLastReply one talk fault now said =
    (cause : SessionFault) → (may_find_none one.asks.form ≡ true → IsNotMissing cause)
    → Err cause ≡ answer_by (fault now.link) said → IsByLastReply (talk now.link) cause

-- the same, where the last reply may refuse with any error
abbrev pub StopsByErrorReply : {L A : Type 0} → (L → Option Talk) → (L → Option LinkFault)
    → SessionValue L → Result A SessionFault → Type 0
StopsByErrorReply talk fault now said =
    (cause : SessionFault) → Err cause ≡ answer_by (fault now.link) said
    → IsByErrorReply (talk now.link) cause

-- ---- calls in their order

-- over a link that tells its device a session asked for one act in its order
pub record AsksInOrder {L : Type 0} (talk : L → Option Talk) (since : L → L → Type 0)
    (fault : L → Option LinkFault) (downs : L → ℕ) (one : Act)
    (old new : SessionValue L) : Type 0 where
  pub asked : AsksOne talk since fault downs one old new
  pub order : SaysInOrder talk one old.link

-- A list of at most so many requests, all of one function, stopped for this cause: by the link's
-- fault, or by the device's reply to one of them.
pub record ListStop {L : Type 0} (talk : L → Option Talk) (fault : L → Option LinkFault) (most : ℕ)
    (asks : ℕ → Act) (old new : SessionValue L) (cause : SessionFault) : Type 0 where
  pub replied : IsByReplyTo talk fault most asks old new
  pub caused : HasCause (fault new.link) (reply_at (number_of (asks 0)) new.reply) cause

-- the list of the ids of an open database's records did
abbrev pub IdsStop : {L : Type 0} → (L → Option Talk) → (L → Option LinkFault) → ℕ → ℕ
    → SessionValue L → SessionValue L → SessionFault → Type 0
IdsStop talk fault handle count old new cause =
    ListStop talk fault (id_parts count) (id_listing handle) old new cause
