-- What a reader of packets holds, and how it goes on from what it took and handed out.
use Rattle.std.specs.Prelude.{◌≡◌, ℕ, ◌+◌, ◌-◌, ◌^◌, ◌<◌, min, List, [], ◌++◌, length, Option, Some, None, IfNone, IfSome}
use Rattle.std.specs.Borrow.{Fml, MutBor}
use Rattle.std.specs.Io.BufRead.{Rests}
use Rattle.slp_frames.specs.PacketText.{PacketValue, HasText}
use Rattle.slp_frames.specs.PacketScan.{scan}
use Rattle.slp_frames.specs.PacketValues.{lent_value, handed_out}
use Rattle.slp_frames.specs.Readers.{TallyValue, ReaderValue}
use Rattle.slp_frames.specs.declared.packet.PacketLent.{PacketLent}
use Rattle.slp_frames.specs.Numbers.{max_packet}
use Rattle.slp_frames.specs.contracts.reader.SlpReader.{the_row}

-- A reader that took these bytes, handed out these packets and holds these bytes goes on rightly:
-- whatever bytes follow, the
-- packets of all that was taken are those handed out and then those of what is held. So the packets
-- that were handed out begin
-- the scan of what was taken, and are all of it where what is held has none. A reader stores
-- neither what it took nor what it
-- handed out: a caller keeps both in its own invariant, and each call of the reader leads it on,
-- for whatever came before.
pub record Continues (taken : List ℕ) (handed : List PacketValue) (held : List ℕ) : Type 0 where
  pub scans : (more : List ℕ) → scan (taken ++ more) ≡ handed ++ scan (held ++ more)

-- a count that is raised, and stays at its greatest value
abbrev pub raised : ℕ → ℕ → ℕ
raised count added = min (count + added) (2 ^ 64 - 1)

-- the counts after a call that handed out a packet or none
abbrev pub after_packet : TallyValue → Option PacketLent → TallyValue
after_packet tally None = tally
after_packet tally (Some packet) = record tally { packets = raised tally.packets 1 }

-- what `next` does to a reader
pub record HandsOut (old : ReaderValue) (result : Option PacketLent)
    (new : ReaderValue) : Type 0 where
  -- it hands out the next packet of those that it holds
  pub found : scan old.held ≡ handed_out result ++ scan new.held
  -- whatever it took and handed out before, it goes on rightly with this packet
  pub continues : (taken : List ℕ) (handed : List PacketValue) → Continues taken handed old.held
      → Continues taken (handed ++ handed_out result) new.held
  pub has_text : IfSome result (λ packet. HasText (lent_value packet))
  -- it answers None only where it holds no packet, and then there is room
  pub all : IfNone result (scan new.held ≡ [])
  pub room : IfNone result (length new.held < max_packet)
  pub tally : new.tally ≡ after_packet old.tally result

-- the same of a reader that is lent until the packet is given back
abbrev pub HandsOutNext : MutBor ReaderValue → Option PacketLent → Fml
HandsOutNext reader result = Rests the_row reader (λ last. HandsOut reader.now result last)
