use Rattle.pdb_files.specs.declared.count.FileCount.{FileCount}
use Rattle.run_words.specs.declared.look.Look.TheVariants.{Check}
use Rattle.hotsync_looks.proofs.LookLaws.{bad_file_refuses}
use Rattle.hotsync_looks.proofs.look.count_text.Goals as goal

pub returns-in-Err-clause-refused : goal.returns-in-Err-clause-refused
returns-in-Err-clause-refused c =
    bad_file_refuses FileCount Check c.args.file.now c.args.bytes.now c.in-Err.fault c.fault_status.result c.in-Err.ensures.fault c.fault_status.ensures
