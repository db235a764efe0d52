use Rattle.slp_frames.proofs.ScanLaws.{scan_packet_text}
use Rattle.slp_frames.proofs.laws.text_is_scanned.Goals as goal

pub returns : goal.returns
returns c = scan_packet_text
