-- What stays.
use Rattle.category_mirror.proofs.SameLaws.{block_stays, rows_stay}
use Rattle.category_mirror.proofs.laws.what_does_not_change_stays.Goals as goal

pub returns : goal.returns
returns c = record { block = block_stays; rows = rows_stay }
