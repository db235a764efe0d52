-- Traces of a session between two empty folders on 2001-09-09 at 01:46:40, computed by hand from
-- the formats: over a line that loses nothing, and over one
-- that loses the acknowledgement of the first request and the first reply to it.
use Rattle.std.specs.Prelude.{ℕ, ◌+◌, ◌*◌, ◌-◌, ◌||◌, nat_eq, nat_lt, codes, if◌then◌else◌, Bool, true, false, List, [], ◌∷◌, ◌++◌}
use Rattle.trace_text.specs.declared.frame.End.{End}
use Rattle.trace_text.specs.declared.frame.End.TheVariants.{Handheld, Desktop}
use Rattle.trace_text.specs.Fates.{FateValue, Untouched, Lost}
use Rattle.trace_text.specs.TraceLines.{FrameValue}
use Rattle.trace_text.specs.Talks.{Talk}

-- bytes from their hexadecimal digits
abbrev pub digit : ℕ → ℕ
digit code = if nat_lt code 58 then code - 48 else code - 87

abbrev pub from_hex : List ℕ → List ℕ
from_hex [] = []
from_hex (high ∷ []) = []
from_hex (high ∷ low ∷ text) = (digit high * 16 + digit low) ∷ from_hex text

-- a frame with these bytes in hexadecimal
abbrev pub frame : ℕ → End → FateValue → Bool → List ℕ → FrameValue
frame number from fate came text = record {
  number = number;
  from = from;
  fate = fate;
  came = came;
  bytes = from_hex text;
}

-- the wake and the replies; the init and the requests
abbrev pub talk : Talk
talk = record {
  handheld =
      from_hex (codes "01000101000000002580")
      ∷ from_hex (codes "90010000201e000000000000000000000000000000000000000000000000000000000000")
      ∷ from_hex (codes "ae000000")
      ∷ from_hex (codes "96000005")
      ∷ from_hex (codes "91000000")
      ∷ from_hex (codes "91000000")
      ∷ from_hex (codes "af000000")
      ∷ [];
  desktop =
      from_hex (codes "02000101000000002580")
      ∷ from_hex (codes "1000")
      ∷ from_hex (codes "2e00")
      ∷ from_hex (codes "1601200480000000")
      ∷ from_hex (codes "1101201600000000000000000000000000000000000000004000")
      ∷ from_hex (codes "1101201600000000000000000000000107d10909012e2800f000")
      ∷ from_hex (codes "2f0120020000")
      ∷ [];
}

-- a line that loses nothing, and one that loses frames 6 and 7
abbrev pub quiet : ℕ → FateValue
quiet number = Untouched

abbrev pub losing : ℕ → FateValue
losing number = if nat_eq number 6 || nat_eq number 7 then Lost else Untouched

-- the packet with the reply about the user
abbrev pub user_packet : List ℕ
user_packet =
    codes "beefed030302002801cb01c0002490010000201e000000000000"
    ++ codes "000000000000000000000000000000000000000000000000ed6b"

-- the trace of the line that loses nothing
abbrev pub quiet_frames : List FrameValue
quiet_frames =
    frame 1 Handheld Untouched true (codes "beefed030302000effaf01c0000a0100010100000000258071ae")
    ∷ frame 2 Desktop Untouched true (codes "beefed0303020004ffa502c0000a1a85")
    ∷ frame 3 Desktop Untouched true (codes "beefed030302000effaf01c0000a02000101000000002580c061")
    ∷ frame 4 Handheld Untouched true (codes "beefed0303020004ffa502c0000a1a85")
    ∷ frame 5 Desktop Untouched true (codes "beefed030302000601a901c0000210000e37")
    ∷ frame 6 Handheld Untouched true (codes "beefed030302000401a702c00002ce11")
    ∷ frame 7 Handheld Untouched true user_packet
    ∷ frame 8 Desktop Untouched true (codes "beefed030302000401a702c000248ab5")
    ∷ frame 9 Desktop Untouched true (codes "beefed030302000602aa01c000022e00385a")
    ∷ frame 10 Handheld Untouched true (codes "beefed030302000402a802c000026508")
    ∷ frame 11 Handheld Untouched true (codes "beefed030302000802ac01c00004ae0000006ecc")
    ∷ frame 12 Desktop Untouched true (codes "beefed030302000402a802c0000405ce")
    ∷ frame 13 Desktop Untouched true (codes "beefed030302000c03b101c000081601200480000000dc2d")
    ∷ frame 14 Handheld Untouched true (codes "beefed030302000403a902c000082bb3")
    ∷ frame 15 Handheld Untouched true (codes "beefed030302000803ad01c00004960000051325")
    ∷ frame 16 Desktop Untouched true (codes "beefed030302000403a902c00004ea3f")
    ∷ frame 17 Desktop Untouched true
    (codes "beefed030302001e04c401c0001a110120160000000000000000000000000000000000000000400036bb")
    ∷ frame 18 Handheld Untouched true (codes "beefed030302000404aa02c0001a3f53")
    ∷ frame 19 Handheld Untouched true (codes "beefed030302000804ae01c00004910000002313")
    ∷ frame 20 Desktop Untouched true (codes "beefed030302000404aa02c00004ccac")
    ∷ frame 21 Desktop Untouched true
    (codes "beefed030302001e05c501c0001a1101201600000000000000000000000107d10909012e2800f0002128")
    ∷ frame 22 Handheld Untouched true (codes "beefed030302000405ab02c0001ad0a2")
    ∷ frame 23 Handheld Untouched true (codes "beefed030302000805af01c0000491000000a775")
    ∷ frame 24 Desktop Untouched true (codes "beefed030302000405ab02c00004235d")
    ∷ frame 25 Desktop Untouched true (codes "beefed030302000a06b201c000062f0120020000b3ac")
    ∷ frame 26 Handheld Untouched true (codes "beefed030302000406ac02c00006aa2b")
    ∷ frame 27 Handheld Untouched true (codes "beefed030302000806b001c00004af00000053a3")
    ∷ frame 28 Desktop Untouched false (codes "beefed030302000406ac02c000048a69")
    ∷ []

-- the trace of the other line: the request and its reply are sent again, and the reply counts as
-- acknowledgement
abbrev pub losing_frames : List FrameValue
losing_frames =
    frame 1 Handheld Untouched true (codes "beefed030302000effaf01c0000a0100010100000000258071ae")
    ∷ frame 2 Desktop Untouched true (codes "beefed0303020004ffa502c0000a1a85")
    ∷ frame 3 Desktop Untouched true (codes "beefed030302000effaf01c0000a02000101000000002580c061")
    ∷ frame 4 Handheld Untouched true (codes "beefed0303020004ffa502c0000a1a85")
    ∷ frame 5 Desktop Untouched true (codes "beefed030302000601a901c0000210000e37")
    ∷ frame 6 Handheld Lost false (codes "beefed030302000401a702c00002ce11")
    ∷ frame 7 Handheld Lost false user_packet
    ∷ frame 8 Desktop Untouched true (codes "beefed030302000601a901c0000210000e37")
    ∷ frame 9 Handheld Untouched true user_packet
    ∷ frame 10 Handheld Untouched true (codes "beefed030302000401a702c00002ce11")
    ∷ frame 11 Desktop Untouched true (codes "beefed030302000401a702c000248ab5")
    ∷ frame 12 Desktop Untouched true (codes "beefed030302000602aa01c000022e00385a")
    ∷ frame 13 Handheld Untouched true (codes "beefed030302000402a802c000026508")
    ∷ frame 14 Handheld Untouched true (codes "beefed030302000802ac01c00004ae0000006ecc")
    ∷ frame 15 Desktop Untouched true (codes "beefed030302000402a802c0000405ce")
    ∷ frame 16 Desktop Untouched true (codes "beefed030302000c03b101c000081601200480000000dc2d")
    ∷ frame 17 Handheld Untouched true (codes "beefed030302000403a902c000082bb3")
    ∷ frame 18 Handheld Untouched true (codes "beefed030302000803ad01c00004960000051325")
    ∷ frame 19 Desktop Untouched true (codes "beefed030302000403a902c00004ea3f")
    ∷ frame 20 Desktop Untouched true
    (codes "beefed030302001e04c401c0001a110120160000000000000000000000000000000000000000400036bb")
    ∷ frame 21 Handheld Untouched true (codes "beefed030302000404aa02c0001a3f53")
    ∷ frame 22 Handheld Untouched true (codes "beefed030302000804ae01c00004910000002313")
    ∷ frame 23 Desktop Untouched true (codes "beefed030302000404aa02c00004ccac")
    ∷ frame 24 Desktop Untouched true
    (codes "beefed030302001e05c501c0001a1101201600000000000000000000000107d10909012e2800f0002128")
    ∷ frame 25 Handheld Untouched true (codes "beefed030302000405ab02c0001ad0a2")
    ∷ frame 26 Handheld Untouched true (codes "beefed030302000805af01c0000491000000a775")
    ∷ frame 27 Desktop Untouched true (codes "beefed030302000405ab02c00004235d")
    ∷ frame 28 Desktop Untouched true (codes "beefed030302000a06b201c000062f0120020000b3ac")
    ∷ frame 29 Handheld Untouched true (codes "beefed030302000406ac02c00006aa2b")
    ∷ frame 30 Handheld Untouched true (codes "beefed030302000806b001c00004af00000053a3")
    ∷ frame 31 Desktop Untouched false (codes "beefed030302000406ac02c000048a69")
    ∷ []

-- the first trace with the last digit of frame 5 changed
abbrev pub changed_frames : List FrameValue
changed_frames =
    frame 1 Handheld Untouched true (codes "beefed030302000effaf01c0000a0100010100000000258071ae")
    ∷ frame 2 Desktop Untouched true (codes "beefed0303020004ffa502c0000a1a85")
    ∷ frame 3 Desktop Untouched true (codes "beefed030302000effaf01c0000a02000101000000002580c061")
    ∷ frame 4 Handheld Untouched true (codes "beefed0303020004ffa502c0000a1a85")
    ∷ frame 5 Desktop Untouched true (codes "beefed030302000601a901c0000210000e36")
    ∷ frame 6 Handheld Untouched true (codes "beefed030302000401a702c00002ce11")
    ∷ frame 7 Handheld Untouched true user_packet
    ∷ frame 8 Desktop Untouched true (codes "beefed030302000401a702c000248ab5")
    ∷ frame 9 Desktop Untouched true (codes "beefed030302000602aa01c000022e00385a")
    ∷ frame 10 Handheld Untouched true (codes "beefed030302000402a802c000026508")
    ∷ frame 11 Handheld Untouched true (codes "beefed030302000802ac01c00004ae0000006ecc")
    ∷ frame 12 Desktop Untouched true (codes "beefed030302000402a802c0000405ce")
    ∷ frame 13 Desktop Untouched true (codes "beefed030302000c03b101c000081601200480000000dc2d")
    ∷ frame 14 Handheld Untouched true (codes "beefed030302000403a902c000082bb3")
    ∷ frame 15 Handheld Untouched true (codes "beefed030302000803ad01c00004960000051325")
    ∷ frame 16 Desktop Untouched true (codes "beefed030302000403a902c00004ea3f")
    ∷ frame 17 Desktop Untouched true
    (codes "beefed030302001e04c401c0001a110120160000000000000000000000000000000000000000400036bb")
    ∷ frame 18 Handheld Untouched true (codes "beefed030302000404aa02c0001a3f53")
    ∷ frame 19 Handheld Untouched true (codes "beefed030302000804ae01c00004910000002313")
    ∷ frame 20 Desktop Untouched true (codes "beefed030302000404aa02c00004ccac")
    ∷ frame 21 Desktop Untouched true
    (codes "beefed030302001e05c501c0001a1101201600000000000000000000000107d10909012e2800f0002128")
    ∷ frame 22 Handheld Untouched true (codes "beefed030302000405ab02c0001ad0a2")
    ∷ frame 23 Handheld Untouched true (codes "beefed030302000805af01c0000491000000a775")
    ∷ frame 24 Desktop Untouched true (codes "beefed030302000405ab02c00004235d")
    ∷ frame 25 Desktop Untouched true (codes "beefed030302000a06b201c000062f0120020000b3ac")
    ∷ frame 26 Handheld Untouched true (codes "beefed030302000406ac02c00006aa2b")
    ∷ frame 27 Handheld Untouched true (codes "beefed030302000806b001c00004af00000053a3")
    ∷ frame 28 Desktop Untouched false (codes "beefed030302000406ac02c000048a69")
    ∷ []
