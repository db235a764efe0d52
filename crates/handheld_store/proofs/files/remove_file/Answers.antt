use Rattle.std.proofs.Common.{rules}
use Rattle.handheld_files.proofs.ChangeLaws.{missing_is_gone}
use Rattle.handheld_store.proofs.files.remove_file.Goals as goal

pub returns-in-Err-Missing-clause-removed : goal.returns-in-Err-Missing-clause-removed
returns-in-Err-Missing-clause-removed g c = missing_is_gone (g.F.Folder.contents c.args.folder.now)
    (g.F.Folder.contents c.remove.new.self) c.args.name.now c.in-Err-Missing.ensures.contents_stay (c.in-Err-Missing.ensures.missing (search rules))
