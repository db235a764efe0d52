-- The trace with a changed digit: frame 5 is no packet.
use Rattle.std.proofs.Common.{◌≡◌, ℕ, List, ap, arith}
use Rattle.std.specs.Prelude.{slice_index}
use Rattle.slp_frames.specs.PacketText.{header_text, packet_text}
use Rattle.slp_frames.specs.PacketScan.{fields_at}
use Rattle.slp_frames.specs.Crc.{crc_bit, crc_of}
use Rattle.trace_text.specs.Fates.{FateValue}
use Rattle.trace_text.specs.Talks.{Talk}
use Rattle.trace_text.specs.Proper.{IsProper}
use Rattle.line_laws.specs.Examples.{changed_frames}

pub not_proper : (script : ℕ → FateValue) (messages : Talk) → ¬ (IsProper script messages changed_frames)
unfolding fields_at packet_text header_text crc_of crc_bit
not_proper script messages proper =
    let frame_5 = proper.bear.1.1.1.1.0 in
    let last : 0x36 ≡ 0x37 = ap (λ (bytes : List ℕ). slice_index bytes 17) frame_5.is in
    omega (arith, last)
