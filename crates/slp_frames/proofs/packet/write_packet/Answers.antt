use Rattle.std.proofs.Common.{◌≡◌, arith}
use Rattle.std.proofs.lemmas.Grind.{common_steps}
use Rattle.slp_frames.specs.PacketText.{packet_text, HasText}
use Rattle.slp_frames.specs.PacketValues.{packet_value}
use Rattle.slp_frames.proofs.ScanLaws.{scan_packet_text}
use Rattle.slp_frames.proofs.packet.write_packet.Goals as goal

pub returns-clause-read_back : goal.returns-clause-read_back
unfolding packet_text
returns-clause-read_back c =
    let packet = packet_value c.args.packet.now in
    let text : c.append-3.new.out.items ≡ packet_text packet = grind (arith, common_steps) in
    let fits : HasText packet = rw c.as_slice-body.ensures.value at c.as_slice-body.ensures.fits in
    rw text (scan_packet_text packet fits)
