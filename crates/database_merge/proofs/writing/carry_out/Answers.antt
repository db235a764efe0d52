use Rattle.std.proofs.Common.{[], ◌++◌, ◌∷◌}
use Rattle.record_merge.specs.Writes.{adding, clean_up, numbered, purges, replaces, reset}
use Rattle.database_merge.proofs.WriteLaws.{written}
use Rattle.database_merge.proofs.writing.carry_out.Goals as goal

pub returns-clause-written : goal.returns-clause-written
returns-clause-written c =
    let plan = c.args.plan.now in
    written (replaces plan.replace.items) (adding (numbered c.in_ok-given.given.items plan.adds.items)) (purges plan.purge.items ++ clean_up ∷ reset ∷ [])
    c.args.database.now c.replace_all.new.database c.add_all.new.database c.clear.new.database
    (rw c.deref.ensures.value at c.in_ok-replace_all.ensures.written)
    (rw c.deref-2.ensures.value at c.in_ok-given.ensures.written)
    (rw c.deref-3.ensures.value at c.clear.ensures)
