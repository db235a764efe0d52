use Rattle.std.proofs.Common.{subst, sym}
use Rattle.handheld_files.specs.Openings.{Stands}
use Rattle.handheld_store.specs.Stores.{StoreValue}
use Rattle.handheld_store.proofs.KeptLaws.{stands_user}
use Rattle.handheld_store.proofs.store.Store.set_user.Goals as goal

pub returns-in-Ok-clause-stands : goal.returns-in-Ok-clause-stands
returns-in-Ok-clause-stands g c = λ stands.
    let inside = c.self.inside in
    let stood : Stands (g.F.Folder.contents inside.folder) inside.databases.items inside.user =
    subst (λ (s : StoreValue g.row.F.Denot). Stands (g.F.Folder.contents s.folder) s.databases s.user) (sym c.self.view_is) stands in
    stands_user (g.F.Folder.contents inside.folder)
    (g.F.Folder.contents c.write_user.new.folder) inside.databases.items inside.user c.args.user c.in-Ok.ensures.written c.in-Ok.ensures.file stood
