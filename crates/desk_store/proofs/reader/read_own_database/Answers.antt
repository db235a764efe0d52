-- What breaks no rule is the database of the bytes.
use Rattle.std.proofs.Common.{◌∙◌, sym}
use Rattle.desk_store.proofs.OwnLaws.{own_read}
use Rattle.desk_store.proofs.reader.read_own_database.Goals as goal

pub returns-in-Some-2 : goal.returns-in-Some-2
returns-in-Some-2 c = own_read c.args.slots c.args.role c.args.name.now c.in-Ok.ensures.found (sym c.in_ok-slot.ensures ∙ c.in-Some-2.is)

pub returns-in-None-2 : goal.returns-in-None-2
returns-in-None-2 c = own_read c.args.slots c.args.role c.args.name.now c.in-Ok.ensures.found (sym c.in_ok-slot.ensures ∙ c.in-None-2.is)
