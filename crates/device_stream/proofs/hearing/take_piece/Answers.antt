use Rattle.std.proofs.Common.{ℕ, List, ◌++◌, [], take, drop, refl, sym, ap, subst, ◌∙◌}
use Rattle.std.proofs.lemmas.List.{append-nil, append_assoc, take_rest}
use Rattle.std.proofs.lemmas.Result.{err_from_is_err_and}
use Rattle.hs_folders.proofs.CauseLaws.{ok_is_no_fault}
use Rattle.slp_frames.proofs.StreamLaws.{piece_parts}
use Rattle.device_stream.specs.Courses.{Hears}
use Rattle.device_stream.proofs.CourseLaws.{any-itself, any-then, breaks-append, hears-itself, hears-more, hears-then-breaks}
use Rattle.device_stream.proofs.hearing.take_piece.Goals as goal

pub loop-rest-init : goal.loop-rest-init
loop-rest-init g c =
    let hand = c.args.talk.now.hand in
    let told = g.T.Sink.taken c.args.sink.now in
    record {
      ready = c.requires.ready;
      drained = c.requires.drained;
      part = (
        [],
        refl,
        subst (λ (s : List ℕ). Hears s c.args.reader.now.held hand hand told told) (sym (append-nil c.args.reader.now.held))
            (hears-itself c.args.reader.now.held hand told),
      );
      performs = any-itself g.F.Folder.contents g.F.Folder.moments g.F.Folder.paths g.F.Folder.faults c.args.talk.now;
      keeper = refl;
      sink = refl;
      paths = refl;
    }

pub loop-rest-preserved : goal.loop-rest-preserved
loop-rest-preserved g c =
    let before = c.loop-rest.invariant in
    let rest = c.loop-rest.rest.now in
    let bytes = take c.feed-count.result rest in
    let did = c.in_ok-drain.ensures in
    let hears = hears-more bytes before.part.2 (rw c.feed-count.ensures.held at did.hears) in
    record {
      ready = did.ready;
      drained = did.drained;
      part = (
        before.part.0 ++ bytes,
        rw take_rest (piece_parts c.args.piece.now before.part.0 rest c.feed-count.result before.part.1),
        rw (← append_assoc) hears,
      );
      performs = any-then g.F.Folder.contents g.F.Folder.moments g.F.Folder.paths g.F.Folder.faults before.performs did.performs;
      keeper = did.keeper.still (ok_is_no_fault _ _) ∙ before.keeper;
      sink = did.sink.still (ok_is_no_fault _ _) ∙ before.sink;
      paths = did.paths ∙ before.paths;
    }

pub returns-in_err-drain-clause-breaks : goal.returns-in_err-drain-clause-breaks
returns-in_err-drain-clause-breaks g c =
    let p = err_from_is_err_and c.from_residual.result c.from_residual.ensures.1 in
    let before = c.loop-rest.invariant.part in
    let rest = c.loop-rest.rest.now in
    let held = c.args.reader.now.held in
    let bytes = take c.feed-count.result rest in
    let left = drop c.feed-count.result rest in
    let parts = ap (λ (s : List ℕ). held ++ s) (piece_parts c.args.piece.now before.0 rest c.feed-count.result before.1)
    ∙ sym (append_assoc held (before.0 ++ bytes) left) ∙ ap (λ (s : List ℕ). s ++ left) (sym (append_assoc held before.0 bytes)) in
    rw (p.1, p.2) (breaks-append left parts (hears-then-breaks bytes before.2 (rw c.feed-count.ensures.held at c.in_err-drain.ensures.breaks)))

pub returns-in_err-drain-clause-performs : goal.returns-in_err-drain-clause-performs
returns-in_err-drain-clause-performs g c =
    any-then g.F.Folder.contents g.F.Folder.moments g.F.Folder.paths g.F.Folder.faults c.loop-rest.invariant.performs c.in_err-drain.ensures.performs
