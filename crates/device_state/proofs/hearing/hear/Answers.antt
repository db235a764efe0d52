use Rattle.std.proofs.Common.{◌≡◌, ◌∙◌, ap, arith, refl, sym, [], ◌++◌, take}
use Rattle.std.specs.Prelude.{None, Some}
use Rattle.std.proofs.lemmas.List.{take_rest}
use Rattle.slp_frames.proofs.StreamLaws.{piece_parts}
use Rattle.device_stream.proofs.CourseLaws.{any-itself, any-then, hears-itself, hears-more}
use Rattle.device_state.proofs.HearingLaws.{HearsBytes-ended, empty_by, no_tests, some_by}
use Rattle.device_state.proofs.hearing.hear.Goals as goal
use Rattle.device_state.proofs.hearing.hear.Goals.{then-loop-talk-test+else-is_none, else-loop-talk-test, then-is_some, else-is_some}

pub loop-talk-init : goal.loop-talk-init
loop-talk-init g c = record {
  sound = c.requires;
  drained = λ _. rw c.new-reader.ensures.held (record { all = refl; room = omega arith });
  part = ([], refl, rw (c.new-reader.ensures.held, c.new-said.ensures.items) (hears-itself [] c.args.talk.now.hand (Some [])));
  performs = any-itself g.F.Folder.contents g.F.Folder.moments g.F.Folder.paths g.F.Folder.faults c.args.talk.now;
}

pub loop-talk-preserved : goal.loop-talk-preserved
loop-talk-preserved g c =
    let before = c.loop-talk.invariant in
    let rest = c.loop-talk.rest.now in
    let bytes = take c.feed-count.result rest in
    let did = c.in_ok-drain.ensures in
    record {
      sound = did.sound;
      drained = did.drained;
      part = (
        before.part.0 ++ bytes,
        rw take_rest (piece_parts c.args.bytes.now before.part.0 rest c.feed-count.result before.part.1),
        hears-more bytes before.part.2 (rw c.feed-count.ensures.held at did.hears),
      );
      performs = any-then g.F.Folder.contents g.F.Folder.moments g.F.Folder.paths g.F.Folder.faults before.performs did.performs;
    }

pub returns-clause-hears : goal.returns-clause-hears
returns-clause-hears g c =
    let so_far = c.loop-talk.invariant in
    let over = c.over-2.result in
    let rest = c.loop-talk.rest.now in
    let left : c.in_ok-left.left.items ≡ c.if-is_some.reader.held = c.in_ok-left.ensures.items ∙ c.held.ensures in
    let empty : over ≡ None → rest ≡ [] = elim c.loop-talk-test.branch [
      | then-loop-talk-test+else-is_none w ↦ λ none. absurd (some_by w.over.result w.if-is_none.ensures (w.over.ensures ∙ sym c.over-2.ensures ∙ none))
      | else-loop-talk-test w ↦ λ none. empty_by rest w.loop-talk-test.ensures
    ] in
    let held : over ≡ None → c.if-is_some.reader.held ≡ c.loop-talk.reader.held = elim c.if-is_some.branch [
      | then-is_some w ↦ λ none. absurd (some_by over (sym c.is_some.ensures ∙ w.if-is_some.true) none)
      | else-is_some w ↦ λ none. ap (λ r. r.held) w.reader-is
    ] in
    HearsBytes-ended rest c.in_ok-left.left.items over (sym c.over-2.ensures) so_far.part.1 so_far.part.2 so_far.drained
    (λ none. (empty none, left ∙ held none)) (elim c.if-is_some.branch [
      | then-is_some w ↦ λ some. left ∙ ap (λ r. r.held) w.reader-is ∙ w.gap.ensures.held
      | else-is_some w ↦ λ some. absurd (no_tests (sym w.if-is_some.false ∙ c.is_some.ensures ∙ some))
    ])
