-- The bytes are as long as a packet, whose fields stand at their places.
use Rattle.std.proofs.Common.{arith}
use Rattle.trace_check.proofs.BearingLaws.{packet_length, packet-fields}
use Rattle.trace_check.proofs.bearing.packet_in.Goals as goal

pub bounds-bytes-3 : goal.bounds-bytes-3
bounds-bytes-3 c = let found = c.is_packet.ensures.0 c.if-not-is_packet.false in omega (arith, packet_length found.1)

pub bounds-bytes-4 : goal.bounds-bytes-4
bounds-bytes-4 c = let found = c.is_packet.ensures.0 c.if-not-is_packet.false in omega (arith, packet_length found.1)

pub bounds-bytes-5 : goal.bounds-bytes-5
bounds-bytes-5 c = let found = c.is_packet.ensures.0 c.if-not-is_packet.false in omega (arith, packet_length found.1)

pub bounds-bytes-8 : goal.bounds-bytes-8
bounds-bytes-8 c = let found = c.is_packet.ensures.0 c.if-not-is_packet.false in omega (arith, packet_length found.1)

pub overflow_sub-result : goal.overflow_sub-result
overflow_sub-result c = let found = c.is_packet.ensures.0 c.if-not-is_packet.false in omega (arith, packet_length found.1)

pub slice_bounds-result-count : goal.slice_bounds-result-count
slice_bounds-result-count c = let found = c.is_packet.ensures.0 c.if-not-is_packet.false in omega (arith, packet_length found.1)

pub slice_bounds-result-start : goal.slice_bounds-result-start
slice_bounds-result-start c = let found = c.is_packet.ensures.0 c.if-not-is_packet.false in omega (arith, packet_length found.1)

pub returns-clause-some : goal.returns-clause-some
returns-clause-some c = let found = c.is_packet.ensures.0 c.if-not-is_packet.false in packet-fields found.1
