use Rattle.std.proofs.Common.{◌≡◌, [], ◌++◌, take, refl, sym, subst, ◌∙◌, arith}
use Rattle.std.proofs.lemmas.List.{length-append, length-take}
use Rattle.hs_folders.proofs.CauseLaws.{ok_is_no_fault}
use Rattle.device_stream.proofs.CourseLaws.{any-itself, any-then, hears-itself, hears-more, hears-then-breaks}
use Rattle.device_stream.proofs.ListenLaws.{listens-breaks, listens-ended, listens-long, listens-unkept, listens-unread, no-more, read-nothing, read-piece}
use Rattle.device_stream.proofs.ListenLaws.{read-still, read-then, start-read}
use Rattle.std.specs.Prelude.{IfSome}
use Rattle.device_stream.proofs.stream.listen.Goals as goal

pub loop-left-init : goal.loop-left-init
loop-left-init g c = record {
  ready = c.requires;
  drained = rw c.new-reader.ensures.held (record { all = refl; room = omega arith });
  bytes = (
    [],
    start-read (g.S.Source.left c.args.source.now),
    omega arith,
    rw c.new-reader.ensures.held (hears-itself [] c.args.talk.now.hand (g.T.Sink.taken c.args.sink.now)),
  );
  performs = any-itself g.F.Folder.contents g.F.Folder.moments g.F.Folder.paths g.F.Folder.faults c.args.talk.now;
  keeper = refl;
  source = refl;
  sink = refl;
  source_path = refl;
  sink_path = refl;
}

pub returns-in-Err-Failed-clause-listens : goal.returns-in-Err-Failed-clause-listens
returns-in-Err-Failed-clause-listens g c =
    let before = c.loop-left.invariant in
    let read = read-still (g.S.Source.left c.args.source.now) (g.S.Source.left c.loop-left.source) (g.S.Source.left c.read_some.new.source) before.bytes.0
    before.bytes.1 c.in-Err-Failed.ensures.stays in
    listens-unread (g.S.Source.left c.args.source.now) (g.S.Source.left c.read_some.new.source) before.bytes.3 read before.drained.all before.ready.going

pub returns-in-Err-NoMemory-clause-listens : goal.returns-in-Err-NoMemory-clause-listens
returns-in-Err-NoMemory-clause-listens g c =
    let before = c.loop-left.invariant in
    let read = read-still (g.S.Source.left c.args.source.now) (g.S.Source.left c.loop-left.source) (g.S.Source.left c.read_some.new.source) before.bytes.0
    before.bytes.1 c.in-Err-NoMemory.ensures.stays in
    listens-unkept (g.S.Source.left c.args.source.now) (g.S.Source.left c.read_some.new.source) before.bytes.3 read

pub returns-then-count-eq0-clause-listens : goal.returns-then-count-eq0-clause-listens
returns-then-count-eq0-clause-listens g c =
    let before = c.loop-left.invariant in
    let same = read-nothing (g.S.Source.left c.loop-left.source) (g.S.Source.left c.read_some.new.source) c.in-Ok.count c.if-count-eq0.true
    c.in-Ok.ensures.rest in
    let read = read-still (g.S.Source.left c.args.source.now) (g.S.Source.left c.loop-left.source) (g.S.Source.left c.read_some.new.source) before.bytes.0
    before.bytes.1 same in
    listens-ended (g.S.Source.left c.args.source.now) (g.S.Source.left c.read_some.new.source) before.bytes.3 read before.drained.all before.ready.going
    (subst (λ o. IfSome o (λ l. l ≡ [])) (sym same) (no-more (g.S.Source.left c.loop-left.source) c.in-Ok.count c.if-count-eq0.true c.in-Ok.ensures.end))

pub returns-in-Err-clause-listens : goal.returns-in-Err-clause-listens
returns-in-Err-clause-listens g c =
    let before = c.loop-left.invariant in
    let piece = take c.in-Ok.count c.read_some.new.room in
    let read = read-then (g.S.Source.left c.args.source.now) (g.S.Source.left c.loop-left.source) (g.S.Source.left c.read_some.new.source) before.bytes.0 piece
    before.bytes.1
    (read-piece (g.S.Source.left c.loop-left.source) (g.S.Source.left c.read_some.new.source) c.in-Ok.count piece c.in-Ok.ensures.bytes c.in-Ok.ensures.rest) in
    listens-breaks c.in-Err.end (g.S.Source.left c.args.source.now) (g.S.Source.left c.read_some.new.source) c.in-Err.ensures.within read
    (hears-then-breaks piece before.bytes.3 c.in-Err.ensures.breaks)

pub returns-in-Err-clause-performs : goal.returns-in-Err-clause-performs
returns-in-Err-clause-performs g c =
    any-then g.F.Folder.contents g.F.Folder.moments g.F.Folder.paths g.F.Folder.faults c.loop-left.invariant.performs c.in-Err.ensures.performs

pub loop-left-preserved : goal.loop-left-preserved
loop-left-preserved g c =
    let before = c.loop-left.invariant in
    let did = c.in_default.ensures in
    let piece = take c.in-Ok.count c.read_some.new.room in
    let read = read-then (g.S.Source.left c.args.source.now) (g.S.Source.left c.loop-left.source) (g.S.Source.left c.read_some.new.source) before.bytes.0 piece
    before.bytes.1
    (read-piece (g.S.Source.left c.loop-left.source) (g.S.Source.left c.read_some.new.source) c.in-Ok.count piece c.in-Ok.ensures.bytes c.in-Ok.ensures.rest) in
    record {
      ready = did.ready;
      drained = did.drained;
      bytes = (
        before.bytes.0 ++ piece,
        read,
        omega (
          arith,
          length-append before.bytes.0 piece,
          length-take c.in-Ok.count c.read_some.new.room,
          c.in-Ok.ensures.room,
          c.in-Ok.ensures.bound,
          c.min.ensures,
          before.bytes.2,
        ),
        hears-more piece before.bytes.3 did.hears,
      );
      performs = any-then g.F.Folder.contents g.F.Folder.moments g.F.Folder.paths g.F.Folder.faults before.performs did.performs;
      keeper = did.keeper.still (ok_is_no_fault _ _) ∙ before.keeper;
      source = c.in-Ok.ensures.cause.still (ok_is_no_fault _ _) ∙ before.source;
      sink = did.sink.still (ok_is_no_fault _ _) ∙ before.sink;
      source_path = c.read_some.ensures.paths ∙ before.source_path;
      sink_path = did.paths ∙ before.sink_path;
    }

pub returns-clause-listens : goal.returns-clause-listens
returns-clause-listens g c =
    let before = c.loop-left.invariant in
    listens-long (g.S.Source.left c.args.source.now) (g.S.Source.left c.loop-left.source) before.bytes.3 before.bytes.1 before.drained.all before.ready.going (omega (arith, before.bytes.2, c.loop-left-test.false))
