-- What a link over a port does at each call.
use Rattle.std.specs.Prelude.{◌≡◌, ◌⊎◌, ◌<◌, ◌≤◌, ◌^◌, get_or, length, ℕ, Bool, true, false, List, [], ◌∷◌, ◌++◌, Option, Some, None, Result, Ok, Err}
use Rattle.std.specs.Option.{option_map, unwrap_or}
use Rattle.std.specs.Result.{result_err}
use Rattle.dlp_commands.specs.declared.link.LinkFault.{LinkFault}
use Rattle.dlp_commands.specs.DeviceSteps.{first_byte}
use Rattle.dlp_commands.specs.Tries.{Answered, Try, Unanswered}
use Rattle.hs_folders.specs.Causes.{HasCause}
use Rattle.padp_link.specs.Receivers.{whole_of}
use Rattle.port_laws.specs.Palms.{Palm}
use Rattle.port_line.specs.declared.port_fault.PortFault.{PortFault}
use Rattle.port_link.specs.declared.awaited.Awaited.{Awaited}
use Rattle.port_link.specs.declared.awaited.Awaited.TheVariants.{Wake, Message, Delivery, Tick}
use Rattle.port_link.specs.declared.desk.Desk.{Desk}
use Rattle.port_link.specs.declared.port_cause.PortCause.{PortCause}
use Rattle.port_link.specs.declared.port_cause.PortCause.TheVariants.{PortFailed}
use Rattle.port_link.specs.declared.turn.Turn.{Turn}
use Rattle.port_link.specs.declared.turn.Turn.TheVariants as then
use Rattle.port_link.specs.Causes.{cause_of, link_fault, waking_cause}
use Rattle.port_link.specs.Courses.{Course, Scene, scene}
use Rattle.port_link.specs.Desks.{Event, Awaits, Begins, first_desk, lingering}
use Rattle.port_link.specs.Greetings.{IsWakeAnswer, id_behind, init_text}
use Rattle.port_link.specs.Listening.{Listens}
use Rattle.port_link.specs.Logs.{EntryValue}
use Rattle.port_link.specs.Mended.{heard}

-- the message that a desktop's end took whole
abbrev pub message_of : Scene → List ℕ
message_of scene = unwrap_or (whole_of scene.desk.end.receiver.pieces) []

-- it did what it does by itself, and listened; or what it says couldn't be written
abbrev pub Says : Awaited → List Event → Scene → Scene → Result Turn PortFault → Type 0
Says awaited acts old new answer =
    ((opened : Scene) × Course acts None old opened × Listens awaited opened new answer)
    ⊎ ((fault : PortFault) × (answer ≡ Err fault) × Course acts (Some fault) old new)

-- ---- the greetings

abbrev pub rate_unless : Option PortCause → ℕ → Result ℕ PortCause
rate_unless None rate = Ok rate
rate_unless (Some cause) rate = Err cause

-- behind a wake the init is said until it is acknowledged
abbrev pub Inits : Result ℕ PortCause → Scene → Scene → Result ℕ PortCause → Type 0
Inits (Err cause) old new result = (new ≡ old) × (result ≡ Err cause)
Inits (Ok rate) old new result =
    (answer : Result Turn PortFault)
    × Says Delivery (Begins 255 init_text ∷ []) old new answer
    × (result ≡ rate_unless (cause_of answer) rate)

-- behind the first message, if one came
abbrev pub GoesOnFrom : Option PortCause → Scene → Scene → Result ℕ PortCause → Type 0
GoesOnFrom (Some cause) old new result = (new ≡ old) × (result ≡ Err cause)
GoesOnFrom None old new result =
    (wake : Result ℕ PortCause) × IsWakeAnswer (message_of old) wake × Inits wake old new result

-- the first message is awaited, and a wake is answered
pub record Greets (old new : Scene) (result : Result ℕ PortCause) : Type 0 where
  pub answer : Result Turn PortFault
  pub between : Scene
  pub waits : Says Wake (Awaits 255 ∷ []) old between answer
  pub goes_on : GoesOnFrom (waking_cause answer) between new result

-- ---- a request

-- The request is said under a transaction, and its reply awaited under the same; where nothing
-- went wrong the reply is the message that was taken whole.
pub record Converses (id : ℕ) (request reply : List ℕ) (old new : Scene)
    (cause : Option PortCause) : Type 0 where
  pub answer : Result Turn PortFault
  pub says : Says Message (Awaits id ∷ Begins id request ∷ []) old new answer
  pub cause_is : cause ≡ cause_of answer
  pub reply_is : cause ≡ None → whole_of new.desk.end.receiver.pieces ≡ Some reply

-- ---- the end

-- a tick of silence came, and it bears more
abbrev pub is_quiet : Result Turn PortFault → Bool
is_quiet (Ok then.Quiet) = true
is_quiet (Ok then.GoesOn) = false
is_quiet (Ok then.Delivered) = false
is_quiet (Ok then.Whole) = false
is_quiet (Ok then.Spent) = false
is_quiet (Ok then.Silent) = false
is_quiet (Ok then.Aborted) = false
is_quiet (Ok then.Greeted) = false
is_quiet (Err fault) = false

-- it listened up to one such tick after the other, and was this at each
abbrev pub Bears : List Scene → Scene → Scene → Type 0
Bears [] old new = new ≡ old
Bears (between ∷ later) old new =
    (answer : Result Turn PortFault) × (is_quiet answer ≡ true) × Listens Tick old between answer
    × Bears later between new

abbrev pub with_linger : Scene → Scene
with_linger scene = record {
  given = scene.given;
  taken = scene.taken;
  palm = scene.palm;
  held = scene.held;
  desk = lingering scene.desk;
  log = scene.log;
}

-- it listened once more, and no such tick came
pub record EndsLingering (old new : Scene) : Type 0 where
  pub answer : Result Turn PortFault
  pub over : is_quiet answer ≡ false
  pub listens : Listens Tick old new answer

-- it bears two ticks in a row and ten in all, and acknowledges what comes once more
pub record Lingers (old new : Scene) : Type 0 where
  pub ticks : List Scene
  pub last : Scene
  pub bears : Bears ticks (with_linger old) last
  pub ends : ((length ticks ≡ 10) × (new ≡ last))
      ⊎ ((length ticks < 10) × EndsLingering last new)

-- ---- a link

-- what contracts see of a link: its scene, the port's paths and its count of faults, the
-- transaction of the last message, whether a handheld woke it, and why it answers no more
pub record LinkValue : Type 0 where
  pub scene : Scene
  pub paths : Option (List (List ℕ))
  pub faults : ℕ
  pub id : ℕ
  pub begun : Bool
  pub cause : Option PortCause

-- a link over a port of which this is told, before its first call
abbrev pub first_link : Option (List (List ℕ)) → Option (List ℕ) → Option Palm
    → Option (List (List ℕ)) → ℕ → LinkValue
first_link given taken palm paths faults = record {
  scene = scene given taken palm [] first_desk [];
  paths = paths;
  faults = faults;
  id = 255;
  begun = false;
  cause = None;
}

-- it waits for a handheld's wake, or asks a request, and takes this for the reply where one comes
pub data Call : Type 0 where
  Hello : Call
  Exchange : List ℕ → List ℕ → Call

-- how the port and the count of its faults go on at a call
pub record GoesOn (old new : LinkValue) : Type 0 where
  pub paths : new.paths ≡ old.paths
  pub faults : HasCause old.faults new.faults (new.cause ≡ Some PortFailed)

-- a handheld is awaited and greeted
pub record SaysHello (result : Result ℕ PortCause) (old new : LinkValue) : Type 0 where
  pub greets : Greets old.scene new.scene result
  pub cause : new.cause ≡ result_err result
  pub begun : new.cause ≡ None → new.begun ≡ true
  pub not_begun : ¬ (new.cause ≡ None) → new.begun ≡ old.begun
  pub id : new.id ≡ old.id
  pub goes_on : GoesOn old new

-- a request is said, under the next transaction; what came is heard as a reply to it
pub record Asks (request reply : List ℕ) (old new : LinkValue) : Type 0 where
  pub came : List ℕ
  pub converses : Converses new.id request came old.scene new.scene new.cause
  pub reply_is : new.cause ≡ None → reply ≡ heard (first_byte request) came
  pub id : new.id ≡ id_behind old.id
  pub begun : new.begun ≡ old.begun
  pub goes_on : GoesOn old new

-- what a link answers
abbrev pub answer_of : Result ℕ PortCause → Result ℕ LinkFault
answer_of (Ok rate) = Ok rate
answer_of (Err cause) = Err (link_fault cause)

-- it answers the rate of the wake, or its fault; once there is a cause nothing is done any more
abbrev pub AnswersHello : Option PortCause → LinkValue → LinkValue → Result ℕ LinkFault → Type 0
AnswersHello (Some cause) old new answer = (new ≡ old) × (answer ≡ Err (link_fault cause))
AnswersHello None old new answer =
    (result : Result ℕ PortCause) × SaysHello result old new × (answer ≡ answer_of result)

-- it fills in the reply, or answers its fault
abbrev pub AnswersExchange : Option PortCause → List ℕ → List ℕ → LinkValue → LinkValue
    → Option LinkFault → Type 0
AnswersExchange (Some cause) request reply old new fault =
    (new ≡ old) × (fault ≡ Some (link_fault cause))
AnswersExchange None request reply old new fault =
    Asks request reply old new × (fault ≡ option_map link_fault new.cause)

-- a handheld is greeted at most once
pub record HailsFirst (old new : LinkValue) : Type 0 where
  pub first : old.begun ≡ false
  pub answer : Result ℕ PortCause
  pub says : SaysHello answer old new

-- a request of at most 65,535 bytes is said to a handheld that was greeted
pub record AsksGreeted (request reply : List ℕ) (old new : LinkValue) : Type 0 where
  pub greeted : old.begun ≡ true
  pub short : length request ≤ 65535
  pub bytes : (i : ℕ) → get_or request i 0 < 2 ^ 8
  pub asks : Asks request reply old new

-- the same of any call
abbrev pub IsCall : Option PortCause → Call → LinkValue → LinkValue → Type 0
IsCall (Some cause) call old new = new ≡ old
IsCall None Hello old new = HailsFirst old new
IsCall None (Exchange request reply) old new = AsksGreeted request reply old new

abbrev pub AreCalls : LinkValue → List Call → LinkValue → Type 0
AreCalls old [] new = new ≡ old
AreCalls old (call ∷ calls) new =
    (between : LinkValue) × IsCall old.cause call old between × AreCalls between calls new

-- these calls were made since
abbrev pub Since : LinkValue → LinkValue → Type 0
Since old new = (calls : List Call) × AreCalls old calls new

-- what a call asked, and what was replied, by why the link answered no more before it and behind it
abbrev pub tries_at : Option PortCause → Call → Option PortCause → List Try
tries_at before Hello after = []
tries_at (Some cause) (Exchange request reply) after = []
tries_at None (Exchange request reply) None = Answered request reply ∷ []
tries_at None (Exchange request reply) (Some cause) = Unanswered request ∷ []

-- calls were made since, and these are what they asked and what was replied
abbrev pub HeardBy : LinkValue → List Call → List Try → LinkValue → Type 0
HeardBy old [] tries new = (new ≡ old) × (tries ≡ [])
HeardBy old (call ∷ calls) tries new =
    (between : LinkValue) × IsCall old.cause call old between × (later : List Try)
    × (tries ≡ tries_at old.cause call between.cause ++ later) × HeardBy between calls later new

abbrev pub Heard : LinkValue → List Try → LinkValue → Type 0
Heard old tries new = (calls : List Call) × HeardBy old calls tries new

-- what is left of a link: where a handheld was greeted and nothing went wrong it lingers
abbrev pub LeavesWith : Bool → Option PortCause → Scene → Option (List (List ℕ))
    → Option (List ℕ) → Option Palm → List EntryValue → Type 0
LeavesWith true None old given taken palm log =
    (held : List ℕ) × (desk : Desk) × Lingers old (scene given taken palm held desk log)
LeavesWith false None old given taken palm log =
    (given ≡ old.given) × (taken ≡ old.taken) × (palm ≡ old.palm) × (log ≡ old.log)
LeavesWith begun (Some cause) old given taken palm log =
    (given ≡ old.given) × (taken ≡ old.taken) × (palm ≡ old.palm) × (log ≡ old.log)
