-- The names of the role stay in order.
use Rattle.std.proofs.Common.{rules}
use Rattle.desk_store.specs.declared.role.Role.TheVariants.{Rows, Base, Archive}
use Rattle.desk_store.proofs.OrderLaws.{ordered_then}
use Rattle.desk_store.proofs.shelves.Shelves.put.Goals as goal

pub returns-in-Rows-clause-ordered : goal.returns-in-Rows-clause-ordered
returns-in-Rows-clause-ordered c = ordered_then c.put_database.result Rows c.args.database c.args.self.now _ (search rules)

pub returns-in-Base-clause-ordered : goal.returns-in-Base-clause-ordered
returns-in-Base-clause-ordered c = ordered_then c.put_database-in-Base.result Base c.args.database c.args.self.now _ (search rules)

pub returns-in-Archive-clause-ordered : goal.returns-in-Archive-clause-ordered
returns-in-Archive-clause-ordered c = ordered_then c.put_database-in-Archive.result Archive c.args.database c.args.self.now _ (search rules)
