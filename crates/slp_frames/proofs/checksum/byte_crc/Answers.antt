use Rattle.std.proofs.Common.{arith}
use Rattle.slp_frames.proofs.CrcLaws.{table_at}
use Rattle.slp_frames.proofs.checksum.byte_crc.Goals as goal

pub returns : goal.returns
returns c = rw c.from.ensures (table_at c.args.byte (omega (arith, c.ranges.byte.fits)))
