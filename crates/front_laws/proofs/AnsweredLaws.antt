-- A session each of whose exchanges was answered stops for no refusal, and for no reply that can't be read.
use Rattle.std.proofs.Common.{◌≡◌, ◌∙◌, sym, ap, subst, ℕ, false, List, [], ◌∷◌, ◌++◌}
use Rattle.std.specs.Prelude.{◌==◌, Some, Result, Ok, Err}
use Rattle.std.specs.List.{AllByRecursion}
use Rattle.dlp_requests.specs.RequestReading.{request_at}
use Rattle.dlp_requests.specs.RequestValues.{RequestValue}
use Rattle.dlp_replies.specs.declared.fault.ReplyFault.{ReplyFault}
use Rattle.dlp_replies.specs.ReplyReading.{reply_at}
use Rattle.dlp_replies.specs.ReplyValues.{ReplyValue}
use Rattle.dlp_commands.specs.DeviceRuns.{Exchange}
use Rattle.dlp_commands.specs.DeviceSteps.{function_number}
use Rattle.dlp_commands.specs.Talks.{Talk}
use Rattle.desktop_session.specs.declared.fault.SessionFault.{SessionFault}
use Rattle.desktop_session.specs.declared.fault.SessionFault.TheVariants as session
use Rattle.desktop_session.specs.Lasts.{IsBroken, IsByLastReply, IsRefusal, LastSays}
use Rattle.desktop_session.specs.Lists.{Refuses}
use Rattle.desktop_session.specs.Orders.{IsAnswered, IsUnrefused}
use Rattle.front_laws.specs.Answered.{IsAnsweredExchange}
use Rattle.desktop_session.proofs.ListOrderLaws.{refuses_five}

-- the last of a list
all-last : {A : Type 0} (P : A → Type 0) (before : List A) (x : A) → AllByRecursion P (before ++ x ∷ []) → P x
all-last P [] x all = all.0
all-last P (y ∷ before) x all = all-last P before x all.1

five : (code : ℕ) → code ≡ 5 → (code == 5) ≡ false → ⊥
five code is other = let same : (5 == 5) ≡ false = sym (ap (λ n. n == 5) is) ∙ other in cc

-- an answered exchange, by its request
record Reads (exchange : Exchange) (asked : RequestValue) : Type 0 where
  answer : ReplyValue
  reply : reply_at (function_number asked) exchange.reply ≡ Ok answer
  answered : IsAnswered asked.form answer

reads_by : {exchange : Exchange} {asked : RequestValue} → IsAnsweredExchange exchange → request_at exchange.request ≡ Ok asked → Reads exchange asked
reads_by {exchange} {asked} is request =
    let both : Ok is.asked ≡ Ok asked = sym is.request ∙ request in
    let same : is.asked ≡ asked = cc in
    subst (Reads exchange) same (record { answer = is.answer; reply = is.reply; answered = is.answered })

unrefused : {function code : ℕ} {exchange : Exchange} {asked : RequestValue} → Reads exchange asked
    → IsRefusal function code asked (reply_at (function_number asked) exchange.reply) → ⊥
unrefused {code = code} {asked = asked} reads refusal =
    let found = refuses_five asked.form reads.answer code reads.answered (subst (Refuses code) reads.reply refusal.refuses) in
    five code found.1 (refusal.other found.0)

unbroken : {function : ℕ} {broken : ReplyFault} {exchange : Exchange} {asked : RequestValue} → Reads exchange asked
    → IsBroken function broken asked (reply_at (function_number asked) exchange.reply) → ⊥
unbroken reads is = let both = sym reads.reply ∙ is.breaks in cc

last_reads : {says : RequestValue → Result ReplyValue ReplyFault → Type 0} {talk : Talk} → AllByRecursion IsAnsweredExchange talk.exchanges
    → (last : LastSays says talk) → Reads last.exchange last.asked
last_reads all last = reads_by (all-last IsAnsweredExchange last.before last.exchange (subst (AllByRecursion IsAnsweredExchange) last.is all)) last.request

pub never-refused : (talk : Talk) (cause : SessionFault) → AllByRecursion IsAnsweredExchange talk.exchanges → IsByLastReply (Some talk) cause
    → IsUnrefused {A = Unit {0}} (Err cause)
never-refused talk (session.Refused function code) all last = unrefused (last_reads all last) last.reads
never-refused talk (session.BadReply function broken) all last = unbroken (last_reads all last) last.reads
never-refused talk session.Down all last = tt
never-refused talk (session.OtherUser handheld desktop) all last = tt
never-refused talk session.TooManyUsers all last = tt
never-refused talk session.NoMemory all last = tt
