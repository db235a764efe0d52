-- The handheld's end of a talk: what it says to a packet and to silence, and what it is then
-- (pilot-link's cmp.c, padp.c and dlp.c).
use Rattle.std.specs.Prelude.{◌≡◌, ℕ, ◌+◌, Bool, true, false, ◌&&◌, nat_eq, is_none, List, [], ◌∷◌, ◌++◌, length, slice_index, Option, Some, None, if◌then◌else◌}
use Rattle.std.specs.Option.{unwrap_or}
use Rattle.std.specs.Str.{bytes_eq}
use Rattle.cmp_hello.specs.HelloFaults.{hello_fault}
use Rattle.cmp_hello.specs.HelloText.{kind_code}
use Rattle.cmp_hello.specs.Numbers.{kind_place}
use Rattle.cmp_hello.specs.declared.hello.HelloKind.TheVariants.{Init}
use Rattle.dlp_commands.specs.DeviceSteps.{MayGive, served}
use Rattle.dlp_replies.specs.Frames.{reply_text}
use Rattle.dlp_replies.specs.ReplyValues.{EndOfSync}
use Rattle.line_steps.specs.TalkTelling.{bytes_of, wake}
use Rattle.padp_end.specs.Ends.{EndValue, end_begins, end_expects, end_takes, end_waits, first_end}
use Rattle.padp_end.specs.Outgoings.{OutgoingFragment}
use Rattle.padp_end.specs.declared.heard.Heard.{Heard}
use Rattle.padp_end.specs.declared.heard.Heard.TheVariants as heard
use Rattle.padp_link.specs.Neighbours.{session_id}
use Rattle.padp_link.specs.Receivers.{whole_of}
use Rattle.palm_device.specs.Devices.{Device}
use Rattle.slp_frames.specs.PacketText.{PacketValue}
use Rattle.device_stream.specs.declared.talk_end.TalkEnd.{TalkEnd}
use Rattle.device_stream.specs.declared.talk_end.TalkEnd.TheVariants.{Ended, Aborted, BadHello}

-- the device, the end that takes and sends, what was performed and replied, whether it was greeted,
-- and whether the talk is over
pub record Hand : Type 0 where
  pub device : Device
  pub end : EndValue
  pub performed : List (List ℕ)
  pub replies : List (List ℕ)
  pub greeted : Bool
  pub over : Option TalkEnd

-- ---- the beginning

-- an end that awaits the init
abbrev pub wake_end : EndValue
wake_end = end_expects first_end (session_id 0)

-- the wake, in its packet
abbrev pub wake_said : List OutgoingFragment
wake_said = (end_begins wake_end (session_id 0) (bytes_of wake)).0

-- it has sent its wake, and awaits the init
abbrev pub woken : Device → Hand
woken device = record {
  device = device;
  end = (end_begins wake_end (session_id 0) (bytes_of wake)).1;
  performed = [];
  replies = [];
  greeted = false;
  over = None;
}

-- ---- a whole message

-- the message that an end took whole
abbrev pub message_of : EndValue → List ℕ
message_of end = unwrap_or (whole_of end.receiver.pieces) []

-- a greeting of the desktop that begins the talk
abbrev pub is_init : List ℕ → Bool
is_init message =
    is_none (hello_fault message) && nat_eq (slice_index message kind_place) (kind_code Init)

-- behind an init the first request is awaited; any other first message ends the talk
abbrev pub greeted_by : Hand → List ℕ → Hand
greeted_by hand message =
    if is_init message
    then record hand { end = end_expects hand.end (session_id 1); greeted = true }
    else record hand { over = Some BadHello }

-- the reply to EndOfSync
abbrev pub is_farewell : List ℕ → Bool
is_farewell message = bytes_eq message (reply_text EndOfSync)

-- the end that awaits the request of this number; behind the reply to EndOfSync it awaits none
abbrev pub awaiting : EndValue → List ℕ → ℕ → EndValue
awaiting end reply number = if is_farewell reply then end else end_expects end (session_id number)

-- the reply to the request of this number begins, under its transaction
abbrev pub replying : EndValue → ℕ → List ℕ → List OutgoingFragment × EndValue
replying end number reply = end_begins (awaiting end reply (number + 1)) (session_id number) reply

-- a request was performed: what the device replies, and the device then
abbrev pub with_reply : Hand → List ℕ → List ℕ × Device → List OutgoingFragment × Hand
with_reply hand request done = (
  (replying hand.end (length hand.performed + 1) done.0).0,
  record {
    device = done.1;
    end = (replying hand.end (length hand.performed + 1) done.0).1;
    performed = hand.performed ++ request ∷ [];
    replies = hand.replies ++ done.0 ∷ [];
    greeted = hand.greeted;
    over = hand.over;
  },
)

-- the first message greets it, and each later one is a request, which is served; `free` is the id
-- that a new record gets
abbrev pub message_heard : Hand → ℕ → List OutgoingFragment × Hand
message_heard hand free =
    if hand.greeted
    then with_reply hand (message_of hand.end) (served hand.device free (message_of hand.end))
    else ([], greeted_by hand (message_of hand.end))

-- ---- a packet, and silence

-- the talk is over where the message that was delivered is the reply to EndOfSync
abbrev pub with_delivery : Hand → Hand
with_delivery hand =
    if is_farewell hand.end.message then record hand { over = Some Ended } else hand

-- what it does where its end heard this
abbrev pub heard_by : Hand → ℕ → Heard → List OutgoingFragment × Hand
heard_by hand free heard.Nothing = ([], hand)
heard_by hand free heard.Tickle = ([], hand)
heard_by hand free heard.Delivered = ([], with_delivery hand)
heard_by hand free heard.Message = message_heard hand free
heard_by hand free heard.Stop = ([], record hand { over = Some Aborted })

abbrev pub with_end : Hand → EndValue → Hand
with_end hand end = record hand { end = end }

-- what it says to a packet, and what it is then
unfoldable pub taken_by : Hand → ℕ → PacketValue → List OutgoingFragment × Hand
taken_by hand free packet =
    let answer = end_takes hand.end packet in
    let next = heard_by (with_end hand answer.end) free answer.heard in
    (answer.said ++ next.0, next.1)

-- to silence: the piece that waits once more, or after ten tries nothing
abbrev pub waited_by : Hand → List OutgoingFragment × Hand
waited_by hand = ((end_waits hand.end).0, with_end hand (end_waits hand.end).1)

-- a request that is whole with this packet may give a new record this id
abbrev pub MayServe : Hand → PacketValue → ℕ → Type 0
MayServe hand packet free =
    hand.greeted ≡ true → (end_takes hand.end packet).heard ≡ heard.Message
    → MayGive hand.device (message_of (end_takes hand.end packet).end) free
