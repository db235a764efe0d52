-- A talk of the program over packets, and a sink that takes what is said.
use Rattle.std.specs.Prelude.{◌≡◌, ⊤, ℕ, true, List, ◌++◌, map, Option, Some, None}
use Rattle.std.specs.Option.{option_map}
use Rattle.hs_folders.specs.Appends.{AppendsPrefix}
use Rattle.hs_folders.specs.FileMaps.{FileMap}
use Rattle.hs_folders.specs.Moments.{Moments}
use Rattle.dlp_commands.specs.DeviceRuns.{Exchange}
use Rattle.line_world.specs.Folders.{ServedSince}
use Rattle.padp_end.specs.Outgoings.{OutgoingFragment, said_text}
use Rattle.slp_frames.specs.Histories.{Continues}
use Rattle.slp_frames.specs.PacketScan.{scan}
use Rattle.slp_frames.specs.PacketText.{PacketValue}
use Rattle.device_stream.specs.declared.device_end.DeviceEnd.{DeviceEnd}
use Rattle.device_stream.specs.declared.device_end.DeviceEnd.TheVariants.{Ended, SourceRead, SinkWrite, Keeper, StreamEnded, StreamAborted, BadHello, TooLong, NoMemory}
use Rattle.device_stream.specs.declared.talk_end.TalkEnd.{TalkEnd}
use Rattle.device_stream.specs.declared.talk_end.TalkEnd.TheVariants as talk
use Rattle.device_stream.specs.Hands.{Hand}
use Rattle.device_stream.specs.Laws.{DidNothing}
use Rattle.device_stream.specs.Talks.{TalkValue, Talks, talk_server}

-- the list begins with these
abbrev pub BeginsWith : {X : Type 0} → List X → List X → Type 0
BeginsWith {X} all first = (later : List X) × (all ≡ first ++ later)

-- a talk that takes more: its folder stands for its device, and it isn't over
pub record IsReady {F : Type 0} (value : TalkValue F) : Type 0 where
  pub sound : value.sound ≡ true
  pub going : value.hand.over ≡ None

-- requests were performed, and the folder went with the device
pub record PerformsAny {F : Type 0} (contents : F → Option FileMap) (moments : F → Moments)
    (paths : F → Option (List (List ℕ))) (faults : F → ℕ)
    (old new : TalkValue F) : Type 0 where
  pub exchanges : List Exchange
  pub performed_is : new.hand.performed
      ≡ old.hand.performed ++ map (λ (exchange : Exchange). exchange.request) exchanges
  pub replies_are : new.hand.replies
      ≡ old.hand.replies ++ map (λ (exchange : Exchange). exchange.reply) exchanges
  pub since : ServedSince contents moments paths faults (talk_server old)
      (talk_server new) exchanges

-- ---- packets

-- the hand took these packets, and the sink the bytes of what was said
pub record HasTalked (old new : Hand) (told later : Option (List ℕ))
    (packets : List PacketValue) : Type 0 where
  pub said : List OutgoingFragment
  pub talks : Talks old packets said new
  pub wrote : later ≡ option_map (λ taken. taken ++ said_text said) told

-- what the sink took where a run ends so: all that was said, or where the sink failed or memory was
-- wanting a first part of it
abbrev pub Wrote : DeviceEnd → Option (List ℕ) → Option (List ℕ) → List ℕ → Type 0
Wrote SinkWrite told later text = AppendsPrefix told later text
Wrote NoMemory told later text = AppendsPrefix told later text
Wrote end told later text = later ≡ option_map (λ taken. taken ++ text) told

-- how the talk is over where a run ends so
abbrev pub IsOver : DeviceEnd → Option TalkEnd → Type 0
IsOver Ended over = over ≡ Some talk.Ended
IsOver StreamAborted over = over ≡ Some talk.Aborted
IsOver BadHello over = over ≡ Some talk.BadHello
IsOver SinkWrite over = ⊤
IsOver NoMemory over = ⊤
IsOver SourceRead over = over ≡ None
IsOver Keeper over = over ≡ None
IsOver StreamEnded over = over ≡ None
IsOver TooLong over = over ≡ None

-- what ends a run while it takes packets
abbrev pub IsWithin : DeviceEnd → Type 0
IsWithin SourceRead = ⊥
IsWithin StreamEnded = ⊥
IsWithin TooLong = ⊥
IsWithin end = ⊤

-- the run ended so while it took these packets: the first of them were taken, and where one behind
-- these was begun, no request was performed by it
pub record Stops (end : DeviceEnd) (old new : Hand) (told later : Option (List ℕ))
    (packets : List PacketValue) : Type 0 where
  pub taken : List PacketValue
  pub first : BeginsWith packets taken
  pub said : List OutgoingFragment
  pub hand : Hand
  pub talks : Talks old taken said hand
  pub same : DidNothing hand new
  pub wrote : Wrote end told later (said_text said)
  pub over : IsOver end hand.over

-- ---- bytes

-- of bytes a reader handed out packets and holds these, and the packets were taken
pub record Hears (bytes held : List ℕ) (old new : Hand)
    (told later : Option (List ℕ)) : Type 0 where
  pub packets : List PacketValue
  pub continues : Continues bytes packets held
  pub talked : HasTalked old new told later packets

-- the run ended so while packets were taken that begin those of these bytes, whatever follows them
pub record Breaks (end : DeviceEnd) (bytes : List ℕ) (old new : Hand)
    (told later : Option (List ℕ)) : Type 0 where
  pub packets : List PacketValue
  pub front : (more : List ℕ) → BeginsWith (scan (bytes ++ more)) packets
  pub stops : Stops end old new told later packets
