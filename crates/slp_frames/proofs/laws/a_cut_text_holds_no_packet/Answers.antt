use Rattle.slp_frames.proofs.ScanLaws.{scan-cut}
use Rattle.slp_frames.proofs.laws.a_cut_text_holds_no_packet.Goals as goal

pub returns : goal.returns
returns c = scan-cut
