use Rattle.database_merge.proofs.WriteLaws.{cleared}
use Rattle.database_merge.proofs.writing.clear.Goals as goal

pub returns : goal.returns
returns c =
    cleared c.args.ids.now c.args.database.now c.purge_all.new.database c.keep_records-kept.new.database c.reset_flags-reset.new.database
    c.purge_all.ensures c.keep_records-kept.ensures.left c.reset_flags-reset.ensures.reset
