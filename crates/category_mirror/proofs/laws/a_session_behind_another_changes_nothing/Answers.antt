-- A session behind one that ended.
use Rattle.category_mirror.proofs.TwiceLaws.{second_changes, second_device, second_slots, second_writes}
use Rattle.category_mirror.proofs.laws.a_session_behind_another_changes_nothing.Goals as goal

pub returns : goal.returns
returns c = record { handheld = second_device; desktop = second_slots; commit = second_changes; writes = second_writes }
