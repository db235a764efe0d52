use Rattle.record_merge.proofs.BothLaws.{row_at-both}
use Rattle.record_merge.proofs.laws.rows_stand_under_the_ids_of_both_sessions.Goals as goal

pub returns : goal.returns
returns c = row_at-both
