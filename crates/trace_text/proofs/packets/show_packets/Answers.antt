use Rattle.std.proofs.lemmas.List.{length-map}
use Rattle.trace_text.proofs.ListLaws.{shows_packets}
use Rattle.trace_text.proofs.packets.show_packets.Goals as goal

pub returns : goal.returns
returns c = shows_packets _ _ _ _ c.in_ok-lines.ensures (length-map _ _) (rw c.deref.ensures.value at c.in_ok-text.ensures)
