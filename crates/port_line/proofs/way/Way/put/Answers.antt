use Rattle.std.proofs.Common.{◌∙◌}
use Rattle.port_line.proofs.WayLaws.{one_piece, puts_front}
use Rattle.port_line.proofs.way.Way.put.Goals as goal

pub returns-in_err-read_pieces-clause-front : goal.returns-in_err-read_pieces-clause-front
returns-in_err-read_pieces-clause-front c =
    puts_front (one_piece c.in_ok-from_slice.field-0 (c.deref.ensures.value ∙ c.in_ok-push.ensures.items) c.new-pieces.ensures.items c.in_ok-from_slice.ensures.items)
    c.in_err-read_pieces.ensures.err
