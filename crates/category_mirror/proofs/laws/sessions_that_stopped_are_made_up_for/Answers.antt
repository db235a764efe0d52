-- A session behind one that stopped.
use Rattle.category_mirror.proofs.TwiceLaws.{marked_device, marked_slots, stopped_device, stopped_slots}
use Rattle.category_mirror.proofs.laws.sessions_that_stopped_are_made_up_for.Goals as goal

pub returns : goal.returns
returns c = record {
  handheld = stopped_device;
  desktop = stopped_slots;
  marked_handheld = marked_device;
  marked_desktop = marked_slots;
}
