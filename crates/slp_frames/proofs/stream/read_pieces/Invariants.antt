use Rattle.std.proofs.Common.{take}
use Rattle.std.specs.List.{flat_map}
use Rattle.slp_frames.specs.Streams.{Gains, IsDrained}
use Rattle.slp_frames.proofs.stream.read_pieces.Given as goal

-- the pieces so far
abbrev pub invariant-loop-piece : goal.invariant-loop-piece
invariant-loop-piece g l =
    IsDrained l.reader.held
    × Gains (flat_map (λ piece. piece.items) (take l.piece-index l.pieces)) (g.S.PacketSink.taken l.initial.sink) (g.S.PacketSink.taken l.sink) l.reader.held
