use Rattle.std.proofs.Common.{[], drop}
use Rattle.slp_frames.specs.Histories.{Continues}
use Rattle.slp_frames.proofs.place.find_packet.Given as goal

-- no packet was passed
abbrev pub invariant-loop-place : goal.invariant-loop-place
invariant-loop-place l = Continues l.bytes [] (drop l.place l.bytes)
