use Rattle.std.proofs.Common.{sym, rules}
use Rattle.std.proofs.lemmas.Result.{err_from_is_err_and}
use Rattle.pdb_files.specs.Faults.{file_fault}
use Rattle.pdb_files.specs.declared.front.Front.{Front}
use Rattle.pdb_files.proofs.ReadLaws.{begins_few, first_is, of_blocks, of_header, of_short, refuses_fault}
use Rattle.pdb_files.proofs.front.Front.read.Goals as goal

pub returns-in_err-header-clause-fault : goal.returns-in_err-header-clause-fault
returns-in_err-header-clause-fault c =
    let bytes = c.args.bytes.now in
    let p = err_from_is_err_and c.from_residual.result c.from_residual.ensures.1 in
    rw (p.1, p.2) (refuses_fault Front c.in_err-header.field-0.0 (file_fault bytes) (of_header bytes (sym c.in_err-header.ensures.fault)))

pub returns-then-bytes-first-clause-fault : goal.returns-then-bytes-first-clause-fault
returns-then-bytes-first-clause-fault c = search (rules, of_short, first_is)

pub block_begins-requires-clause-long : goal.block_begins-requires-clause-long
block_begins-requires-clause-long c = search (rules, first_is)

pub check_blocks-requires : goal.check_blocks-requires
check_blocks-requires c = search (rules, begins_few)

pub returns-in_err-check_blocks-clause-fault : goal.returns-in_err-check_blocks-clause-fault
returns-in_err-check_blocks-clause-fault c = search (rules, first_is, of_blocks, err_from_is_err_and, refuses_fault)

pub returns-clause-fault : goal.returns-clause-fault
returns-clause-fault c = search (rules, first_is, of_blocks)
