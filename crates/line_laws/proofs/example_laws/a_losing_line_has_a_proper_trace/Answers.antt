use Rattle.std.proofs.Common.{[], refl}
use Rattle.slp_frames.specs.PacketText.{header_text, packet_text}
use Rattle.slp_frames.specs.PacketScan.{fields_at}
use Rattle.slp_frames.specs.Crc.{crc_bit, crc_of}
use Rattle.line_laws.specs.Examples.{losing, losing_frames, talk}
use Rattle.line_laws.proofs.Findings.{proof}
use Rattle.line_laws.proofs.Rules.{proper}
use Rattle.line_laws.proofs.example_laws.a_losing_line_has_a_proper_trace.Goals as goal

pub returns : goal.returns
unfolding fields_at packet_text header_text crc_of crc_bit
returns c = proof (proper losing talk losing_frames (record { rest = []; is = refl }) (record { rest = []; is = refl })) refl
