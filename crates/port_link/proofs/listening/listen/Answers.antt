use Rattle.std.proofs.Common.{ℕ, ◌+◌, [], ◌∷◌, ◌++◌, refl, sym, ap, ◌∙◌}
use Rattle.std.proofs.lemmas.List.{length-append}
use Rattle.hs_folders.proofs.CauseLaws.{ok_is_no_fault}
use Rattle.port_link.specs.declared.desk.Desk.{Desk}
use Rattle.port_link.specs.declared.turn.Turn.{Turn}
use Rattle.port_link.specs.Desks.{reacts}
use Rattle.port_link.specs.Listening.{is_over}
use Rattle.port_link.proofs.CourseLaws.{course-none, course-then, through-then}
use Rattle.port_link.proofs.listening.listen.Goals as goal

pub loop-count-init : goal.loop-count-init
loop-count-init g c = record { course = ([], course-none _, tt, refl); paths = refl; faults = refl }

pub loop-count-preserved : goal.loop-count-preserved
loop-count-preserved g c =
    let before = c.loop-count.invariant in
    let events = before.course.0 in
    let happens = c.in-Ok.ensures.happens in
    let event = happens.0 in
    let awaited = c.args.awaited in
    record {
      course = (
        events ++ event ∷ [],
        course-then before.course.1 happens.3,
        through-then awaited c.args.cable.now.desk events event before.course.2 happens.1
            (ap (λ (d : Desk). is_over awaited (reacts d event).turn) (sym before.course.1.desk) ∙ ap (λ (t : Turn). is_over awaited t) (sym happens.2)
            ∙ sym c.ends.ensures ∙ c.if-ends.false),
        length-append events (event ∷ []) ∙ ap (λ (n : ℕ). n + 1) before.course.3,
      );
      paths = c.step.ensures.paths ∙ before.paths;
      faults = c.in-Ok.ensures.cause.still (ok_is_no_fault _ _) ∙ before.faults;
    }
