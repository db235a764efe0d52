-- What one packet does to a talk of the program.
use Rattle.std.specs.Prelude.{◌≡◌, ◌≤◌, ℕ, List, ◌++◌, length, map, Option}
use Rattle.hs_folders.specs.FileMaps.{FileMap}
use Rattle.hs_folders.specs.Moments.{Moments}
use Rattle.dlp_commands.specs.DeviceRuns.{Exchange}
use Rattle.dlp_commands.specs.DeviceSteps.{MayGive, served}
use Rattle.line_world.specs.Folders.{ServedSince}
use Rattle.padp_end.specs.Outgoings.{OutgoingFragment, said_text}
use Rattle.slp_frames.specs.PacketText.{PacketValue}
use Rattle.device_stream.specs.Hands.{Hand, message_of, with_reply}
use Rattle.device_stream.specs.Talks.{TalkValue, Takes, talk_server}

-- it took the packet, and these are the bytes of what it said
pub record HasTaken (old : Hand) (packet : PacketValue) (text : List ℕ) (new : Hand) : Type 0 where
  pub said : List OutgoingFragment
  pub takes : Takes old packet said new
  pub text_is : text ≡ said_text said

-- nothing was performed, and the server stays
pub record PerformsNothing {F : Type 0} (old new : TalkValue F) : Type 0 where
  pub server_is : talk_server new ≡ talk_server old
  pub performed_is : new.hand.performed ≡ old.hand.performed
  pub replies_are : new.hand.replies ≡ old.hand.replies

-- a request that is whole was served: behind these bytes stand those of what it said
pub record Serves (old : Hand) (before text : List ℕ) (new : Hand) : Type 0 where
  pub free : ℕ
  pub may : MayGive old.device (message_of old.end) free
  pub said : List OutgoingFragment
  pub is : with_reply old (message_of old.end) (served old.device free (message_of old.end))
      ≡ (said, new)
  pub text_is : text ≡ before ++ said_text said

-- at most one request was performed, and the folder went with the device
pub record Performs {F : Type 0} (contents : F → Option FileMap) (moments : F → Moments)
    (paths : F → Option (List (List ℕ))) (faults : F → ℕ)
    (old new : TalkValue F) : Type 0 where
  pub exchanges : List Exchange
  pub few : length exchanges ≤ 1
  pub performed_is : new.hand.performed
      ≡ old.hand.performed ++ map (λ (exchange : Exchange). exchange.request) exchanges
  pub replies_are : new.hand.replies
      ≡ old.hand.replies ++ map (λ (exchange : Exchange). exchange.reply) exchanges
  pub since : ServedSince contents moments paths faults (talk_server old)
      (talk_server new) exchanges
