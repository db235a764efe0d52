-- A database's file is kept.
use Rattle.hs_folders.proofs.MomentLaws.{one_change}
use Rattle.install_backup.proofs.keeping.keep.Goals as goal

pub returns-in-Ok-clause-moments : goal.returns-in-Ok-clause-moments
returns-in-Ok-clause-moments g c =
    one_change (g.D.Folder.contents c.args.folder.now) (g.D.Folder.contents c.replace.new.self) (g.D.Folder.moments c.args.folder.now)
    (g.D.Folder.moments c.replace.new.self) c.in-Ok.ensures.moment
