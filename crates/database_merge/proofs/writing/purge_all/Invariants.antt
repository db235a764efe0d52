use Rattle.std.proofs.Common.{◌≡◌, take}
use Rattle.palm_device.specs.Records.{with_records}
use Rattle.record_merge.specs.Writes.{after, purges}
use Rattle.database_merge.proofs.writing.purge_all.Given as goal

abbrev pub invariant-loop-id : goal.invariant-loop-id
invariant-loop-id l = l.database ≡ with_records (after (purges (take l.id-index l.ids)) l.fn.database.records) l.fn.database
