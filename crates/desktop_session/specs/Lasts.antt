-- The last reply of a talk, and what a session stops for by it.
use Rattle.std.specs.Prelude.{◌≡◌, ◌==◌, ℕ, true, false, List, [], ◌∷◌, ◌++◌, Option, IfSome, Result, Ok, Err}
use Rattle.dlp_requests.specs.RequestReading.{request_at}
use Rattle.dlp_requests.specs.RequestValues.{RequestValue}
use Rattle.dlp_replies.specs.declared.fault.ReplyFault.{ReplyFault}
use Rattle.dlp_replies.specs.ReplyReading.{reply_at}
use Rattle.dlp_replies.specs.ReplyValues.{ReplyValue}
use Rattle.dlp_commands.specs.DeviceRuns.{Exchange}
use Rattle.dlp_commands.specs.DeviceSteps.{function_number}
use Rattle.dlp_commands.specs.Talks.{Talk}
use Rattle.desktop_session.specs.declared.fault.SessionFault.{SessionFault}
use Rattle.desktop_session.specs.declared.fault.SessionFault.TheVariants as session
use Rattle.desktop_session.specs.Lists.{Refuses}
use Rattle.desktop_session.specs.Orders.{may_find_none}

-- the last exchange of a talk: its request is read as this one, and its reply, read as one to the
-- function of that, says this
pub record LastSays (says : RequestValue → Result ReplyValue ReplyFault → Type 0) (talk : Talk)
    : Type 0 where
  pub before : List Exchange
  pub exchange : Exchange
  pub is : talk.exchanges ≡ before ++ exchange ∷ []
  pub asked : RequestValue
  pub request : request_at exchange.request ≡ Ok asked
  pub reads : says asked (reply_at (function_number asked) exchange.reply)

-- a request of this function was refused with this error, which is not 5 where the request's call
-- has an answer of its own for that
pub record IsRefusal (function code : ℕ) (asked : RequestValue)
    (read : Result ReplyValue ReplyFault) : Type 0 where
  pub own : function ≡ function_number asked
  pub refuses : Refuses code read
  pub other : may_find_none asked.form ≡ true → (code == 5) ≡ false

-- the same, whatever the error
pub record IsErrorReply (function code : ℕ) (asked : RequestValue)
    (read : Result ReplyValue ReplyFault) : Type 0 where
  pub own : function ≡ function_number asked
  pub refuses : Refuses code read

-- the reply to a request of this function breaks this rule first
pub record IsBroken (function : ℕ) (broken : ReplyFault) (asked : RequestValue)
    (read : Result ReplyValue ReplyFault) : Type 0 where
  pub own : function ≡ function_number asked
  pub breaks : read ≡ Err broken

-- A session that stops for a refusal stops for the error in the last reply of its talk, and one
-- that stops for a reply that can't be read stops for the first rule that this one breaks; either
-- is told with the function of the last request.
abbrev pub IsByLastReply : Option Talk → SessionFault → Type 0
IsByLastReply talk (session.Refused function code) =
    IfSome talk (LastSays (IsRefusal function code.0))
IsByLastReply talk (session.BadReply function broken) =
    IfSome talk (LastSays (IsBroken function broken))
IsByLastReply talk other = Unit {0}

-- The same of what no call of a session makes, a reading without an answer of its own for error 5
-- where the request may find none: the last reply refuses with this error, which may be 5.
abbrev pub IsByErrorReply : Option Talk → SessionFault → Type 0
IsByErrorReply talk (session.Refused function code) =
    IfSome talk (LastSays (IsErrorReply function code.0))
IsByErrorReply talk (session.BadReply function broken) =
    IfSome talk (LastSays (IsBroken function broken))
IsByErrorReply talk other = Unit {0}
