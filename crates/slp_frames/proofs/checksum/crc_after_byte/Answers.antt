use Rattle.std.proofs.Common.{◌*◌, ◌%◌, sym, ap, ◌∙◌, arith}
use Rattle.std.specs.Int.Bits.{bit_xor}
use Rattle.slp_frames.proofs.CrcLaws.{crc_byte-split}
use Rattle.slp_frames.proofs.checksum.crc_after_byte.Goals as goal

pub returns : goal.returns
returns c =
    ap (bit_xor (c.args.value * 256 % 65536)) c.byte_crc.ensures
    ∙ sym (crc_byte-split c.args.value c.args.byte (omega (arith, c.ranges.value.fits)) (omega (arith, c.ranges.byte.fits)))
