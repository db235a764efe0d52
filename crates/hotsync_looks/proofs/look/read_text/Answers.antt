use Rattle.pdb_values.specs.Databases.{DatabaseValue}
use Rattle.hotsync_looks.proofs.LookLaws.{bad_file_refuses, no_text_result}
use Rattle.hotsync_looks.proofs.look.read_text.Goals as goal

pub returns-in-Err-clause-refused : goal.returns-in-Err-clause-refused
returns-in-Err-clause-refused c =
    bad_file_refuses DatabaseValue c.args.look c.args.file.now c.args.bytes.now c.in-Err.fault c.fault_status.result c.in-Err.ensures.fault c.fault_status.ensures

pub returns-clause-refused : goal.returns-clause-refused
returns-clause-refused c =
    no_text_result c.database_text.result c.args.look c.args.file.now c.args.bytes.now _ c.in-Ok.ensures.found c.database_text.ensures.refused
