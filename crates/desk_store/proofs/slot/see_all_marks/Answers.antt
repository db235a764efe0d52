-- What is known of one user after the other.
use Rattle.std.proofs.Common.{subst}
use Rattle.folder_files.specs.Slots.{SlotInfoValue}
use Rattle.desk_store.specs.Bounds.{AreBoundedMarks}
use Rattle.desk_store.proofs.BoundLaws.{each_taken}
use Rattle.desk_store.proofs.slot.see_all_marks.Goals as goal
use Rattle.pdb_files.proofs.WriteLaws.{all_of_more}

pub loop-info-preserved : goal.loop-info-preserved
loop-info-preserved c =
    all_of_more (λ (info : SlotInfoValue). AreBoundedMarks info.marks) c.args.infos.now c.loop-info.info-index c.loop-info-test.true c.info-item.is
    c.loop-info.invariant (subst (λ (info : SlotInfoValue). AreBoundedMarks info.marks) c.info.view_is c.see_marks.ensures)

pub returns : goal.returns
returns c =
    each_taken (λ (info : SlotInfoValue). AreBoundedMarks info.marks) c.args.infos.now c.loop-info.info-index c.loop-info-test.false c.loop-info.invariant
