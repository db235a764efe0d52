use Rattle.mirrors.proofs.EntryLaws.{bounded_id}
use Rattle.mirrors.proofs.others.shell_of.Goals as goal

pub returns-clause-bounded : goal.returns-clause-bounded
returns-clause-bounded c = bounded_id c.args.id (rw (← c.number.ensures.number) c.number.ensures.bound)
