use Rattle.slp_frames.proofs.ScanLaws.{scan_continues}
use Rattle.slp_frames.specs.PacketScan.{scan}
use Rattle.std.proofs.Common.{◌++◌}
use Rattle.slp_frames.proofs.laws.scan_begins_longer_scan.Goals as goal

pub returns : goal.returns
returns c bytes more = let held = scan_continues bytes in (scan (held.0 ++ more), held.1.scans more)
