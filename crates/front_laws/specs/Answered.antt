-- A request and a reply to it that is no refusal.
use Rattle.std.specs.Prelude.{◌≡◌, ℕ, List, Ok}
use Rattle.std.specs.List.{AllByRecursion}
use Rattle.palm_device.specs.Devices.{Device}
use Rattle.dlp_requests.specs.RequestReading.{request_at}
use Rattle.dlp_requests.specs.RequestValues.{RequestValue}
use Rattle.dlp_replies.specs.ReplyReading.{reply_at}
use Rattle.dlp_replies.specs.ReplyValues.{ReplyValue}
use Rattle.dlp_commands.specs.DeviceRuns.{DeviceRun, Exchange, exchanged}
use Rattle.dlp_commands.specs.DeviceSteps.{function_number}
use Rattle.desktop_session.specs.Orders.{IsAnswered}

-- both can be read, and the reply is no error, or error 5 where the request's call has an answer of
-- its own for it
pub record IsAnsweredExchange (exchange : Exchange) : Type 0 where
  pub asked : RequestValue
  pub request : request_at exchange.request ≡ Ok asked
  pub answer : ReplyValue
  pub reply : reply_at (function_number asked) exchange.reply ≡ Ok answer
  pub answered : IsAnswered asked.form answer

-- a handheld that runs by these requests refuses none, whichever ids it gives
abbrev pub RefusesNone : Device → List (List ℕ) → Type 0
RefusesNone device asked =
    (replies : List (List ℕ)) (reached : Device) → DeviceRun device asked replies reached
    → AllByRecursion IsAnsweredExchange (exchanged asked replies)
