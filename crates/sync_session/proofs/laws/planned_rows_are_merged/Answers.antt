use Rattle.session_plan.proofs.RowLaws.{base-merged, rows-merged}
use Rattle.sync_session.proofs.laws.planned_rows_are_merged.Goals as goal

pub returns : goal.returns
returns c = record { rows = rows-merged; base = base-merged }
