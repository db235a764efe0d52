use Rattle.std.proofs.Common.{refl, ◌∙◌}
use Rattle.std.proofs.lemmas.Result.{err_from_is_err_and}
use Rattle.hs_folders.proofs.CauseLaws.{ok_is_no_fault}
use Rattle.device_stream.proofs.CourseLaws.{any-itself, any-then, hears-breaks, hears-itself, hears-packet}
use Rattle.device_stream.proofs.hearing.drain.Goals as goal

pub loop-packet-init : goal.loop-packet-init
loop-packet-init g c = record {
  ready = c.requires;
  hears = hears-itself c.args.reader.now.held c.args.talk.now.hand (g.T.Sink.taken c.args.sink.now);
  performs = any-itself g.F.Folder.contents g.F.Folder.moments g.F.Folder.paths g.F.Folder.faults c.args.talk.now;
  keeper = refl;
  sink = refl;
  paths = refl;
}

pub loop-packet-preserved : goal.loop-packet-preserved
loop-packet-preserved g c =
    let before = c.loop-packet.invariant in
    let step = rw c.in-Some.is at (c.next.follows.holds-at-none.continues c.args.reader.now.held before.hears.packets before.hears.continues) in
    let did = c.in_ok-take_packet.ensures in
    record {
      ready = did.ready;
      hears = hears-packet before.hears step did.talked;
      performs = any-then g.F.Folder.contents g.F.Folder.moments g.F.Folder.paths g.F.Folder.faults before.performs did.performs;
      keeper = did.keeper.still (ok_is_no_fault _ _) ∙ before.keeper;
      sink = did.sink.still (ok_is_no_fault _ _) ∙ before.sink;
      paths = did.paths ∙ before.paths;
    }

pub returns-in_err-take_packet-clause-breaks : goal.returns-in_err-take_packet-clause-breaks
returns-in_err-take_packet-clause-breaks g c =
    let p = err_from_is_err_and c.from_residual.result c.from_residual.ensures.1 in
    let before = c.loop-packet.invariant in
    let step = rw c.in-Some.is at (c.next.follows.holds-at-none.continues c.args.reader.now.held before.hears.packets before.hears.continues) in
    rw (p.1, p.2) (hears-breaks before.hears step c.in_err-take_packet.ensures.stops)

pub returns-in_err-take_packet-clause-performs : goal.returns-in_err-take_packet-clause-performs
returns-in_err-take_packet-clause-performs g c =
    any-then g.F.Folder.contents g.F.Folder.moments g.F.Folder.paths g.F.Folder.faults c.loop-packet.invariant.performs
    c.in_err-take_packet.ensures.performs
