use Rattle.front_laws.proofs.SkippedLaws.{left-again, left-whole}
use Rattle.front_laws.proofs.laws.a_skipped_database_is_left_alone.Goals as goal

pub returns : goal.returns
returns c = record { whole = left-whole; again = left-again }
