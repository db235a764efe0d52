-- The picked slot is one of the desktop, or the new one.
use Rattle.folder_files.specs.Partings.{PartedRise}
use Rattle.desk_store.specs.Views.{parted_in}
use Rattle.desk_store.proofs.CommitLaws.{seen}
use Rattle.desk_store.proofs.OpenLaws.{picked_parted}
use Rattle.desk_store.proofs.desk.Desk.slot.Goals as goal

pub returns-in-Some-clause-parted : goal.returns-in-Some-clause-parted
returns-in-Some-clause-parted g c =
    seen (λ d. PartedRise (parted_in d)) c.self.view_is
    (picked_parted (g.F.Folder.contents c.self.inside.folder) c.self.inside.slots.items c.self.inside.picked c.self.invariant.0)
