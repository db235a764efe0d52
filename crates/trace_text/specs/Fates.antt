-- What a line does with a frame: its words, which arrive, which are faults, and how many bytes
-- land.
use Rattle.std.specs.Prelude.{ℕ, ◌+◌, ◌%◌, Bool, true, false, ◌||◌, List, [], ◌∷◌, ◌++◌, length, take, drop, codes, bit_xor}
use Rattle.std.specs.Fmt.{decimal}
use Rattle.hex.specs.Hex.{encode_lower}
use Rattle.slp_frames.specs.PacketScan.{scan}
use Rattle.trace_text.specs.declared.fate.Fate.{Fate}
use Rattle.trace_text.specs.declared.fate.Fate.TheVariants as fate

-- a fate, wherever its bytes lie
pub data FateValue : Type 0 where
  Untouched : FateValue
  Lost : FateValue
  Late : FateValue
  Cut : ℕ → FateValue
  Hit : ℕ → List ℕ → FateValue
  Noise : List ℕ → FateValue
  Unplug : FateValue
  Abort : FateValue

-- the fates of the program as fates
abbrev pub fate_value : Fate → FateValue
fate_value fate.Ok = Untouched
fate_value fate.Lost = Lost
fate_value fate.Late = Late
fate_value (fate.Cut count) = Cut count
fate_value (fate.Hit place bytes) = Hit place bytes.items
fate_value (fate.Noise bytes) = Noise bytes.items
fate_value fate.Unplug = Unplug
fate_value fate.Abort = Abort

-- the bytes that a hit xors over the frame's, or the noise
abbrev pub fate_bytes : FateValue → List ℕ
fate_bytes (Hit place bytes) = bytes
fate_bytes (Noise bytes) = bytes
fate_bytes _ = []

-- the words of a fate, in a script and in a trace; `ok` stands in a trace alone
abbrev pub fate_words : FateValue → List ℕ
fate_words Untouched = codes "ok"
fate_words Lost = codes "lost"
fate_words Late = codes "late"
fate_words (Cut count) = codes "cut " ++ decimal count
fate_words (Hit place bytes) = codes "hit " ++ decimal place ++ codes " " ++ encode_lower bytes
fate_words (Noise bytes) = codes "noise " ++ encode_lower bytes
fate_words Unplug = codes "unplug"
fate_words Abort = codes "abort"

-- the frame itself arrives
abbrev pub arrives : FateValue → Bool
arrives Untouched = true
arrives Late = true
arrives (Noise bytes) = true
arrives _ = false

-- the line did the frame harm, and the run goes on
abbrev pub is_fault : FateValue → Bool
is_fault Lost = true
is_fault Late = true
is_fault (Cut count) = true
is_fault (Hit place bytes) = true
is_fault _ = false

-- the run ends when the frame is to be sent
abbrev pub is_stop : FateValue → Bool
is_stop Unplug = true
is_stop Abort = true
is_stop _ = false

-- bytes with others xored over them from the first one on; what would pass their end is left off
abbrev pub xored : List ℕ → List ℕ → List ℕ
xored [] bytes = bytes
xored (x ∷ xs) [] = []
xored (x ∷ xs) (byte ∷ bytes) = bit_xor byte x ∷ xored xs bytes

-- a frame that was hit
abbrev pub hit_at : ℕ → List ℕ → List ℕ → List ℕ
hit_at place xs bytes =
    take (place % length bytes) bytes ++ xored xs (drop (place % length bytes) bytes)

-- what arrives by itself, with a gap behind it, and isn't the frame as it was sent
abbrev pub strange_bytes : FateValue → List ℕ → List ℕ
strange_bytes (Cut count) bytes = take (count % length bytes) bytes
strange_bytes (Hit place xs) bytes = hit_at place xs bytes
strange_bytes (Noise noise) bytes = noise
strange_bytes _ bytes = []

-- such bytes hold a packet, which the end that takes them can't know from one that was sent
abbrev pub holds_packet : List ℕ → Bool
holds_packet bytes = is_some_list (scan bytes)
  where
    is_some_list : {X : Type 0} → List X → Bool
    is_some_list [] = false
    is_some_list (x ∷ xs) = true

-- the run ends with this frame: by its fate, or because what arrives of it holds a packet
abbrev pub ends_run : FateValue → List ℕ → Bool
ends_run fate bytes = is_stop fate || holds_packet (strange_bytes fate bytes)

-- how many bytes land of a frame of this length
abbrev pub landing : FateValue → ℕ → ℕ
landing Untouched count = count
landing Late count = count
landing (Hit place bytes) count = count
landing (Cut left) count = left % count
landing (Noise bytes) count = count + length bytes
landing _ count = 0
