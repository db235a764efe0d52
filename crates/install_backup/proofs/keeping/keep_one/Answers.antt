-- A database is read, and its file kept.
use Rattle.std.proofs.Common.{refl}
use Rattle.std.proofs.lemmas.Result.{err_from_is_err_and}
use Rattle.install_backup.proofs.KeepLaws.{one_kept, one_unkept, one_unread}
use Rattle.install_backup.proofs.keeping.keep_one.Goals as goal

pub returns-in_err-whole-clause-keeps : goal.returns-in_err-whole-clause-keeps
returns-in_err-whole-clause-keeps g c =
    let p = err_from_is_err_and c.from_residual.result c.from_residual.ensures.1 in
    rw p.1 (one_unread g.D.Folder.contents g.D.Folder.moments c.in_err-whole.ensures.spans refl p.2)

pub returns-in_err-keep-clause-keeps : goal.returns-in_err-keep-clause-keeps
returns-in_err-keep-clause-keeps g c =
    let p = err_from_is_err_and c.from_residual-in_err-keep.result c.from_residual-in_err-keep.ensures.1 in
    rw (p.1, p.2) (one_unkept g.D.Folder.contents g.D.Folder.moments c.in_ok-whole.ensures.spans c.in_err-keep.ensures.stays c.in_err-keep.ensures.unkept c.in_err-keep.ensures.moments)

pub returns-clause-keeps : goal.returns-clause-keeps
returns-clause-keeps g c =
    one_kept g.D.Folder.contents g.D.Folder.moments c.in_ok-whole.ensures.spans c.in_ok-keep.ensures.kept c.moved_of.ensures c.in_ok-keep.ensures.moments
