-- Each line goes on from those before it.
use Rattle.std.proofs.Common.{◌≡◌, ◌<◌, ◌+◌, ◌^◌, length, map, arith, rules}
use Rattle.std.proofs.lemmas.List.{length-map, map-append}
use Rattle.trace_text.specs.TraceLines.{frame_value}
use Rattle.trace_check.proofs.TraceLaws.{goes-on, goes-open, goes-bad}
use Rattle.trace_check.proofs.reader.read_trace.Goals as goal

pub returns-in_default-clause-refused : goal.returns-in_default-clause-refused
returns-in_default-clause-refused c =
    let counted : c.len.result + 1 ≡ length (map frame_value c.loop-rest.frames.items) + 1 = search (rules, length-map) in
    let some : 0 < length c.loop-rest.rest.now = search rules in
    goes-open c.args.bytes.now _ c.loop-rest.rest.now (c.len.result + 1) c.loop-rest.invariant counted some c.in_default.ensures.none

pub returns-in_default-2-clause-refused : goal.returns-in_default-2-clause-refused
returns-in_default-2-clause-refused c =
    let counted : c.len.result + 1 ≡ length (map frame_value c.loop-rest.frames.items) + 1 = search (rules, length-map) in
    let few = c.loop-rest.invariant.few in
    let bound = c.requires in
    let small : c.len.result + 1 < 2 ^ 64 = omega (arith, counted, few, bound) in
    goes-bad c.args.bytes.now _ c.loop-rest.rest.now c.in-Some.line.now c.in-Some.behind.now (c.len.result + 1) c.loop-rest.invariant counted small
    c.in-Some.ensures.line c.in-Some.ensures.some
    (rw c.from.ensures at (rw c.in_default-2.is at c.in_ok-frame.ensures.none))

pub loop-rest-preserved : goal.loop-rest-preserved
loop-rest-preserved c =
    let counted : c.len.result + 1 ≡ length (map frame_value c.loop-rest.frames.items) + 1 = search (rules, length-map) in
    let goes = goes-on c.args.bytes.now _ c.loop-rest.rest.now c.in-Some.line.now c.in-Some.behind.now (frame_value c.in-Some-2.frame) (c.len.result + 1)
    c.loop-rest.invariant counted c.in-Some.ensures.some (rw c.from.ensures at (rw c.in-Some-2.is at c.in_ok-frame.ensures.some)) in
    rw (c.in_ok-push.ensures.items, map-append) goes
