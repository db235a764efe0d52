-- Two calls for categories, one behind the other.
use Rattle.std.specs.Prelude.{◌≡◌, Some}
use Rattle.handheld_files.specs.Openings.{Stands}
use Rattle.desk_store.specs.Desks.{IsDesk}
use Rattle.category_mirror.specs.Sides.{Filing, filed_device, filed_slots}
use Rattle.run_words.specs.Betweens.{Between}
use Rattle.run_words.specs.Commands.{Categories}
use Rattle.run_promises.specs.Again.{AreTold}
use Rattle.run_promises.specs.Calls.{Call, IsAnsweredCall}
use Rattle.call_parts.specs.Told.{CallTold}

-- both calls are for categories, and their folders are told; nothing is edited between them
pub record IsSecondCall (first second : Call) : Type 0 where
  pub words : Between
  pub other : Between
  pub task : first.task ≡ Some (Categories words)
  pub task_next : second.task ≡ Some (Categories other)
  pub answered : IsAnsweredCall first
  pub answered_next : IsAnsweredCall second
  pub told : AreTold first.before
  pub told_next : AreTold second.before
  pub palm : second.before.palm.contents ≡ first.after.palm.contents
  pub desk : second.before.desk.contents ≡ first.after.desk.contents

-- both folders stand for what this session makes of both sides
pub record StandsTogether (filing : Filing) (after : CallTold) : Type 0 where
  pub handheld : Stands after.palm.contents (filed_device filing).databases
      (filed_device filing).user
  pub desktop : IsDesk after.desk.contents (filed_slots filing)
