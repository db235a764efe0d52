use Rattle.std.proofs.Common.{◌≡◌, ◌∙◌, ◌<◌, sym, ap, length, take, arith}
use Rattle.std.proofs.lemmas.List.{take_all}
use Rattle.slp_frames.specs.PacketValues.{packet_value}
use Rattle.port_line.proofs.GivingLaws.{given-part, gives-from, gives-last, gives-part}
use Rattle.port_line.proofs.coming.Coming.give.Goals as goal

pub invariant_of-self-else-is_last : goal.invariant_of-self-else-is_last
invariant_of-self-else-is_last c =
    let few : c.copy_front-count.result < length c.behind-left.result.now = omega (arith, c.copy_front-count.ensures.count, c.if-is_last.false) in
    given-part (packet_value c.in-Some.packet.now) c.in-Some.ensures.0 c.self.inside.way c.self.inside.given c.copy_front-count.result
    c.as_slice.result.now c.behind-left.result.now c.write_packet.ensures.has_text c.in-Some.ensures.1
    (c.as_slice.ensures.value ∙ c.write_packet.ensures.text) c.behind-left.ensures few

pub returns-then-is_last-clause-gives : goal.returns-then-is_last-clause-gives
returns-then-is_last-clause-gives c =
    let all = take_all (length c.args.room.now) c.behind-left.result.now c.if-is_last.true in
    gives-from c.self.view_is
    (gives-last (packet_value c.in-Some.packet.now) c.in-Some.ensures.0 c.self.inside.way c.pop.new.self c.self.inside.given
    (take c.copy_front-count.result c.copy_front-count.new.room) c.as_slice.result.now c.behind-left.result.now
    c.write_packet.ensures.has_text c.in-Some.ensures.1 c.pop.ensures.rest (c.as_slice.ensures.value ∙ c.write_packet.ensures.text)
    c.behind-left.ensures (c.copy_front-count.ensures.bytes ∙ all))

pub returns-else-is_last-clause-gives : goal.returns-else-is_last-clause-gives
returns-else-is_last-clause-gives c =
    let few : c.copy_front-count.result < length c.behind-left.result.now = omega (arith, c.copy_front-count.ensures.count, c.if-is_last.false) in
    let count_is : c.copy_front-count.result ≡ length c.args.room.now = omega (arith, c.copy_front-count.ensures.count, c.if-is_last.false) in
    gives-from c.self.view_is
    (gives-part (packet_value c.in-Some.packet.now) c.in-Some.ensures.0 c.self.inside.way c.self.inside.given c.copy_front-count.result
    (take c.copy_front-count.result c.copy_front-count.new.room) c.as_slice.result.now c.behind-left.result.now
    c.write_packet.ensures.has_text c.in-Some.ensures.1 (c.as_slice.ensures.value ∙ c.write_packet.ensures.text)
    c.behind-left.ensures (c.copy_front-count.ensures.bytes ∙ ap (λ n. take n c.behind-left.result.now) (sym count_is)) few)
