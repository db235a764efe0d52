-- What is shown of the packets in a stream of bytes.
use Rattle.std.specs.Prelude.{◌≡◌, ℕ, List, [], ◌∷◌, ◌++◌, length, codes}
use Rattle.std.specs.Fmt.{decimal}
use Rattle.std.specs.List.{AllZip, flat_map}
use Rattle.slp_frames.specs.PacketText.{PacketValue}
use Rattle.slp_frames.specs.Histories.{Continues}
use Rattle.trace_text.specs.PacketLines.{ShowsPacket}

-- the byte that ends a line
abbrev pub line_feed : List ℕ
line_feed = 10 ∷ []

-- lines, each with its end
abbrev pub lines_text : List (List ℕ) → List ℕ
lines_text lines = flat_map (λ line. line ++ line_feed) lines

-- `packets K`
abbrev pub count_line : ℕ → List ℕ
count_line count = codes "packets " ++ decimal count ++ line_feed

-- the text shows these packets: a line for each of them, in order, and then how many there are
pub record ShowsPackets (packets : List PacketValue) (text : List ℕ) : Type 0 where
  pub lines : List (List ℕ)
  pub each : AllZip ShowsPacket packets lines
  pub is : text ≡ lines_text lines ++ count_line (length packets)

-- a reader that took these bytes and holds these handed out packets that these lines show
pub record IsShown (taken : List ℕ) (lines : List (List ℕ)) (held : List ℕ) : Type 0 where
  pub handed : List PacketValue
  pub each : AllZip ShowsPacket handed lines
  pub continues : Continues taken handed held
