use Rattle.std.proofs.Common.{rules}
use Rattle.handheld_store.proofs.PlacedLaws.{record_back}
use Rattle.handheld_store.proofs.placed.rewrite_record.Goals as goal

pub returns-in-Err-clause-stays : goal.returns-in-Err-clause-stays
returns-in-Err-clause-stays g c = search (rules, record_back)
