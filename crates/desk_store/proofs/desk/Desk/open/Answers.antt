-- What finishes as the same files can be opened as they can.
use Rattle.desk_store.proofs.OpenableLaws.{open_openable}
use Rattle.desk_store.proofs.desk.Desk.open.Goals as goal

pub returns-in-Ok-clause-openable : goal.returns-in-Ok-clause-openable
returns-in-Ok-clause-openable g c =
    open_openable (g.F.Folder.contents c.args.folder) (g.F.Folder.contents c.open_files.new.folder) (g.F.Folder.moments c.args.folder)
    (g.F.Folder.moments c.open_files.new.folder) c.in-Ok.ensures.left c.in-Ok.ensures.each_left

pub returns-in-Err-clause-openable : goal.returns-in-Err-clause-openable
returns-in-Err-clause-openable g c =
    open_openable (g.F.Folder.contents c.args.folder) (g.F.Folder.contents c.open_files.new.folder) (g.F.Folder.moments c.args.folder)
    (g.F.Folder.moments c.open_files.new.folder) c.in-Err.ensures.left c.in-Err.ensures.each_left
