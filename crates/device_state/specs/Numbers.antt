-- What a talk holds in numbers, as bytes.
use Rattle.std.specs.Prelude.{ℕ, ◌/◌, ◌%◌, Bool, true, false, List, [], ◌∷◌, ◌++◌, Option, Some, None, unwrap_or}
use Rattle.padp_link.specs.declared.parts.ReceiverParts.{ReceiverParts}
use Rattle.padp_link.specs.declared.parts.SenderParts.{SenderParts}
use Rattle.padp_link.specs.declared.piece.Key.{Key}
use Rattle.device_stream.specs.declared.parts.TalkParts.{TalkParts}
use Rattle.device_stream.specs.declared.talk_end.TalkEnd.{TalkEnd}
use Rattle.device_stream.specs.declared.talk_end.TalkEnd.TheVariants.{Ended, Aborted, BadHello}

-- a number in two bytes, the high one first
abbrev pub two_bytes : ℕ → List ℕ
two_bytes number = number / 256 ∷ number % 256 ∷ []

-- 1 where there is something, and 0 where there is nothing
abbrev pub mark : {A : Type 0} → Option A → ℕ
mark None = 0
mark (Some it) = 1

-- a mark and the transaction that is awaited, or 0
abbrev pub awaited_text : Option ℕ → List ℕ
awaited_text awaited = mark awaited ∷ unwrap_or awaited 0 ∷ []

-- what stands where there is no key
abbrev pub no_key : Key
no_key = record { id = 0; flags = 0; size = 0 }

-- a transaction, flags, and a size in two bytes
abbrev pub key_text : Key → List ℕ
key_text key = key.id ∷ key.flags ∷ two_bytes key.size

-- a mark and the key of the last piece that was taken, or zeros
abbrev pub last_text : Option Key → List ℕ
last_text last = mark last ∷ key_text (unwrap_or last no_key)

-- what is awaited, the length of the message that comes in two bytes, how many pieces of it were
-- taken, and the last key
abbrev pub receiver_numbers : ReceiverParts → List ℕ
receiver_numbers receiver =
    awaited_text receiver.awaited ++ two_bytes receiver.length
    ++ receiver.taken ∷ last_text receiver.last

-- the transaction of a message, its length in two bytes, how many pieces of it are acknowledged,
-- and how often the next one was sent
abbrev pub sender_numbers : SenderParts → List ℕ
sender_numbers sender =
    sender.id ∷ two_bytes sender.length ++ sender.acknowledged ∷ sender.tries ∷ []

-- 1 once the init came
abbrev pub greeted_code : Bool → ℕ
greeted_code false = 0
greeted_code true = 1

-- how a talk is over, and 0 while it goes on
abbrev pub over_code : Option TalkEnd → ℕ
over_code None = 0
over_code (Some Ended) = 1
over_code (Some Aborted) = 2
over_code (Some BadHello) = 3

-- the 18 bytes: the receiver, the sender, the number of requests, whether the init came, and how
-- the talk is over
abbrev pub numbers_text : TalkParts → List ℕ
numbers_text parts =
    receiver_numbers parts.end.receiver ++ sender_numbers parts.end.sender
    ++ parts.number ∷ greeted_code parts.greeted ∷ over_code parts.over ∷ []
