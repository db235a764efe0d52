use Rattle.std.proofs.Common.{◌≡◌, List, ℕ, ◌++◌, length}
use Rattle.slp_frames.specs.Streams.{Gains, IsDrained}
use Rattle.slp_frames.proofs.stream.read_piece.Given as goal

-- what was taken of the piece
abbrev pub invariant-loop-rest : goal.invariant-loop-rest
invariant-loop-rest g l =
    IsDrained l.reader.held
    × ((part : List ℕ) × (l.piece ≡ part ++ l.rest) × Gains (l.initial.reader.held ++ part) (g.S.PacketSink.taken l.initial.sink) (g.S.PacketSink.taken l.sink)
    l.reader.held)

abbrev pub decreases-loop-rest : goal.decreases-loop-rest
decreases-loop-rest g l = length l.rest
