use Rattle.std.proofs.Common.{arith}
use Rattle.std.proofs.lemmas.Result.{err_from_is_err_and}
use Rattle.pdb_files.specs.Faults.{file_fault}
use Rattle.pdb_files.specs.declared.count.FileCount.{FileCount}
use Rattle.pdb_files.specs.declared.front.Front.{Front}
use Rattle.pdb_files.proofs.CountLaws.{count_is, is_counted, no_refusal}
use Rattle.pdb_files.proofs.ReadLaws.{refuses_alike}
use Rattle.pdb_files.proofs.count.count_entries.Goals as goal

pub returns-in_err-front-clause-only : goal.returns-in_err-front-clause-only
returns-in_err-front-clause-only c = λ database file.
    let p = err_from_is_err_and c.from_residual.result c.from_residual.ensures.1 in
    rw (p.1, p.2) (no_refusal Front c.args.bytes.now c.in_err-front.field-0.0 database c.in_err-front.ensures.fault file)

pub returns-in_err-front-clause-fault : goal.returns-in_err-front-clause-fault
returns-in_err-front-clause-fault c =
    let p = err_from_is_err_and c.from_residual.result c.from_residual.ensures.1 in
    rw (p.1, p.2) (refuses_alike Front FileCount c.in_err-front.field-0.0 (file_fault c.args.bytes.now) c.in_err-front.ensures.fault)

pub returns-clause-counted : goal.returns-clause-counted
returns-clause-counted c =
    rw c.holds_resources.ensures
    (is_counted c.args.bytes.now (λ i. omega (arith, c.type_inv.bytes i)) c.in_ok-front.ensures.header c.in_ok-front.ensures.fault)

pub returns-clause-only : goal.returns-clause-only
returns-clause-only c = λ database file. rw c.holds_resources.ensures (count_is database c.args.bytes.now c.in_ok-front.ensures.header file)
