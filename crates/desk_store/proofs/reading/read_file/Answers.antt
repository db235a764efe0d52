-- What a file holds is added to its slot.
use Rattle.std.proofs.Common.{length}
use Rattle.desk_store.specs.DeskFiles.{file_in}
use Rattle.desk_store.proofs.SlotListLaws.{adds_form}
use Rattle.desk_store.proofs.reading.read_file.Goals as goal

pub returns-in-Ok-add_file-clause-form : goal.returns-in-Ok-add_file-clause-form
returns-in-Ok-add_file-clause-form g c = adds_form (file_in (length c.args.slots.now.items) c.args.name.now c.deref.result.now) c.in-Ok-add_file.ensures.added
