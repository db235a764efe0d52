-- The other file gives no categories.
use Rattle.std.proofs.Common.{◌∙◌, ap, subst, sym}
use Rattle.pdb_values.specs.declared.head.DbHead.{DbHead}
use Rattle.hotsync_looks.specs.Likings.{SaysUnlike, like_status as status_of}
use Rattle.hotsync_looks.proofs.LikingLaws.{unlike}
use Rattle.hotsync_looks.proofs.liked.liked_file.Goals as goal

pub returns-clause-refused : goal.returns-clause-refused
returns-clause-refused c =
    let name = ap (λ (head : DbHead). head.name) c.head.ensures.head in
    subst (SaysUnlike c.args.path.now c.args.database.now c.args.bytes.now)
    (sym (c.like_status.ensures ∙ ap (λ n. status_of n c.in-Err-file_like.fault) name))
    (unlike c.args.path.now c.args.database.now c.in-Ok.other c.in-Some.block.now c.args.bytes.now c.in-Err-file_like.fault c.in-Ok.ensures.found
    (sym c.in-Some.ensures.block) c.in-Err-file_like.ensures.fault)
