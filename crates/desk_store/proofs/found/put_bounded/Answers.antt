-- What is put is within bounds.
use Rattle.desk_store.proofs.BoundLaws.{bounded_then}
use Rattle.desk_store.proofs.found.put_bounded.Goals as goal

pub returns-clause-bounded : goal.returns-clause-bounded
returns-clause-bounded c =
    bounded_then c.put_at.result c.args.place c.args.role c.args.slots.now.items c.put_at.new.slots.items c.put_at.ensures c.see_database.ensures
