-- The texts that are put into a room.
use Rattle.std.specs.Prelude.{◌≡◌, ℕ, List}
use Rattle.slp_frames.specs.PacketScan.{scan}
use Rattle.trace_text.specs.PacketLists.{ShowsPackets}
use Rattle.hotsync_c.specs.declared.refusal.Refusal.{Refusal}
use Rattle.hotsync_c.specs.declared.refusal.Refusal.TheVariants.{Memory}

-- the text has a line for each packet in the bytes, and then their number
abbrev pub ShowsPacketsIn : List ℕ → List ℕ → Type 0
ShowsPacketsIn bytes text = ShowsPackets (scan bytes) text

-- want of memory alone is a reason to refuse
abbrev pub RefusesForMemory : Refusal → Type 0
RefusesForMemory refusal = refusal ≡ Memory
