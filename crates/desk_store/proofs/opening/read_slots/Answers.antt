-- No slot has a database yet.
use Rattle.std.proofs.Common.{◌∙◌, ap, sym, subst}
use Rattle.folder_files.specs.Slots.{AllRise, AreSlots, all_marks}
use Rattle.desk_store.specs.Bounds.{AreBounded}
use Rattle.desk_store.specs.Shelves.{AreInOrder, infos_of}
use Rattle.desk_store.proofs.BoundLaws.{bounded_bares}
use Rattle.desk_store.proofs.FindLaws.{infos_of-bare}
use Rattle.desk_store.proofs.OpenLaws.{told_empty}
use Rattle.desk_store.proofs.SlotListLaws.{bare_in_order, marks-infos}
use Rattle.desk_store.proofs.opening.read_slots.Goals as goal

pub returns-clause-found : goal.returns-clause-found
returns-clause-found g c = told_empty (g.F.Folder.contents c.args.folder.now) c.in_ok-infos.infos.items c.in_ok-infos.ensures.slots c.in_ok-slots.ensures

pub returns-clause-formed : goal.returns-clause-formed
returns-clause-formed g c =
    let same = ap infos_of c.in_ok-slots.ensures ∙ infos_of-bare c.in_ok-infos.infos.items in
    subst AreSlots (sym (ap all_marks same) ∙ marks-infos c.in_ok-slots.slots.items) c.in_ok-infos.ensures.formed

pub returns-clause-parted : goal.returns-clause-parted
returns-clause-parted g c = subst AllRise (sym (ap infos_of c.in_ok-slots.ensures ∙ infos_of-bare c.in_ok-infos.infos.items)) c.in_ok-infos.ensures.parted

pub returns-clause-ordered : goal.returns-clause-ordered
returns-clause-ordered g c = subst AreInOrder (sym c.in_ok-slots.ensures) (bare_in_order c.in_ok-infos.infos.items)

pub returns-clause-bounded : goal.returns-clause-bounded
returns-clause-bounded g c =
    subst AreBounded (sym c.in_ok-slots.ensures) (bounded_bares c.in_ok-infos.infos.items (rw c.deref.ensures.value at c.see_all_marks.ensures))
