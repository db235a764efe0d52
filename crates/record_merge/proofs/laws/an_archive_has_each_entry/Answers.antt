use Rattle.std.proofs.Common.{[], ◌++◌}
use Rattle.record_merge.proofs.ArchiveLaws.{copies-stand}
use Rattle.record_merge.proofs.laws.an_archive_has_each_entry.Goals as goal

pub returns : goal.returns
returns c = λ ch old e. copies-stand e [] (old ++ ch.archive)
