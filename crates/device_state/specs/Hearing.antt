-- What a handheld in memory makes of bytes that come, and of silence.
use Rattle.std.specs.Prelude.{◌≡◌, ℕ, Bool, false, List, [], ◌++◌, Option, None, Some}
use Rattle.padp_end.specs.Ends.{is_spent}
use Rattle.padp_end.specs.Outgoings.{OutgoingFragment, said_text}
use Rattle.slp_frames.specs.Histories.{Continues}
use Rattle.slp_frames.specs.PacketScan.{scan}
use Rattle.slp_frames.specs.PacketText.{PacketValue}
use Rattle.slp_frames.specs.Streams.{IsDrained}
use Rattle.device_stream.specs.Courses.{BeginsWith}
use Rattle.device_stream.specs.Hands.{Hand, waited_by}
use Rattle.device_stream.specs.Talks.{Talks}
use Rattle.device_stream.specs.declared.talk_end.TalkEnd.{TalkEnd}

-- These packets of the bytes were taken. Where the talk goes on they are all that are whole, and
-- what is left may become the next one. Where it is over they begin the packets of the bytes,
-- whatever follows, and nothing is left.
abbrev pub ReadsUpTo : List ℕ → List PacketValue → Option TalkEnd → List ℕ → Type 0
ReadsUpTo bytes packets None left = Continues bytes packets left × IsDrained left
ReadsUpTo bytes packets (Some over) left =
    ((more : List ℕ) → BeginsWith (scan (bytes ++ more)) packets) × (left ≡ [])

-- the packets of these bytes are taken in order, up to one by which the talk is over
pub record HearsBytes (old : Hand) (bytes said : List ℕ) (new : Hand)
    (left : List ℕ) : Type 0 where
  pub packets : List PacketValue
  pub outgoing : List OutgoingFragment
  pub talks : Talks old packets outgoing new
  pub said_is : said ≡ said_text outgoing
  pub reads : ReadsUpTo bytes packets new.over left

-- silence, where the talk is over or not: the piece that waits is said once more, unless it had its
-- ten tries; a talk that is over says nothing
abbrev pub SilenceAt : Option TalkEnd → Hand → List ℕ → Hand → Bool → Type 0
SilenceAt None old said new spent =
    (said ≡ said_text (waited_by old).0) × (new ≡ (waited_by old).1) × (spent ≡ is_spent old.end)
SilenceAt (Some over) old said new spent = (said ≡ []) × (new ≡ old) × (spent ≡ false)

-- what silence makes of a hand, and whether a piece had its tries
abbrev pub HearsSilence : Hand → List ℕ → Hand → Bool → Type 0
HearsSilence old said new spent = SilenceAt old.over old said new spent
