use Rattle.std.proofs.Common.{length, sym, ap, ◌∙◌}
use Rattle.padp_end.proofs.WaitingLaws.{waits_inside}
use Rattle.padp_end.proofs.end.End.say_waiting.Goals as goal

pub say_piece-requires-clause-inside : goal.say_piece-requires-clause-inside
say_piece-requires-clause-inside c =
    let it = waits_inside c.self.inside.sender c.bytes.result.now c.in-Some.piece
    (c.self.invariant.length_is ∙ ap length (sym c.bytes.ensures.bytes)) (sym c.current.ensures.piece ∙ c.in-Some.is) in
    it.inside

pub say_piece-requires-clause-fragment : goal.say_piece-requires-clause-fragment
say_piece-requires-clause-fragment c =
    let it = waits_inside c.self.inside.sender c.bytes.result.now c.in-Some.piece
    (c.self.invariant.length_is ∙ ap length (sym c.bytes.ensures.bytes)) (sym c.current.ensures.piece ∙ c.in-Some.is) in
    it.fragment

pub say_piece-requires-clause-short : goal.say_piece-requires-clause-short
say_piece-requires-clause-short c =
    let it = waits_inside c.self.inside.sender c.bytes.result.now c.in-Some.piece
    (c.self.invariant.length_is ∙ ap length (sym c.bytes.ensures.bytes)) (sym c.current.ensures.piece ∙ c.in-Some.is) in
    it.short
