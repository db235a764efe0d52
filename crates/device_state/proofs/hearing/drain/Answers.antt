use Rattle.device_stream.proofs.CourseLaws.{any-itself, any-then, hears-itself, hears-packet}
use Rattle.std.proofs.Common.{◌∙◌, sym}
use Rattle.std.specs.Prelude.{Some}
use Rattle.device_state.proofs.hearing.drain.Goals as goal
use Rattle.palm_device.proofs.TellingLaws.{none_where}

pub loop-packet-init : goal.loop-packet-init
loop-packet-init g c = record {
  ready = c.requires;
  hears = hears-itself c.args.reader.now.held c.args.talk.now.hand (Some c.args.said.now.items);
  performs = any-itself g.F.Folder.contents g.F.Folder.moments g.F.Folder.paths g.F.Folder.faults c.args.talk.now;
}

pub loop-packet-preserved : goal.loop-packet-preserved
loop-packet-preserved g c =
    let before = c.loop-packet.invariant in
    let step = rw c.in-Some.is at (c.next.follows.holds-at-none.continues c.args.reader.now.held before.hears.packets before.hears.continues) in
    let did = c.in_ok-take_packet.ensures in
    record {
      ready = record { sound = did.sound; going = sym c.over.ensures ∙ none_where c.over.result (sym c.is_some.ensures ∙ c.if-is_some.false) };
      hears = hears-packet before.hears step did.talked;
      performs = any-then g.F.Folder.contents g.F.Folder.moments g.F.Folder.paths g.F.Folder.faults before.performs did.performs;
    }

pub returns-then-is_some-clause-hears : goal.returns-then-is_some-clause-hears
returns-then-is_some-clause-hears g c =
    let before = c.loop-packet.invariant in
    let step = rw c.in-Some.is at (c.next.follows.holds-at-none.continues c.args.reader.now.held before.hears.packets before.hears.continues) in
    hears-packet before.hears step c.in_ok-take_packet.ensures.talked

pub returns-then-is_some-clause-performs : goal.returns-then-is_some-clause-performs
returns-then-is_some-clause-performs g c =
    any-then g.F.Folder.contents g.F.Folder.moments g.F.Folder.paths g.F.Folder.faults c.loop-packet.invariant.performs c.in_ok-take_packet.ensures.performs
