-- A second session.
use Rattle.category_mirror.proofs.AgainLaws.{made}
use Rattle.category_mirror.proofs.laws.a_stopped_session_is_made_up_for.Goals as goal

pub returns : goal.returns
returns c = record {
  block_before = λ handheld rows. (made handheld rows).before_block;
  rows_before = λ handheld rows. (made handheld rows).before_rows;
  block_behind = λ handheld rows. (made handheld rows).behind_block;
  rows_behind = λ handheld rows. (made handheld rows).behind_rows;
}
