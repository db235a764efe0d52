use Rattle.backup_files.proofs.FileBounds.{filed_database}
use Rattle.hotsync_looks.proofs.InstallLaws.{bad_file_known, bad_file_shows}
use Rattle.hotsync_looks.proofs.install_file.database_in.Goals as goal

pub returns-in-Err-clause-shown : goal.returns-in-Err-clause-shown
returns-in-Err-clause-shown c =
    bad_file_shows c.args.path.now c.args.bytes.now c.in-Err.fault c.in-Err.ensures.fault c.fault_status.result c.requires c.fault_status.ensures

pub returns-in-Err-clause-refusal : goal.returns-in-Err-clause-refusal
returns-in-Err-clause-refusal c =
    bad_file_known c.args.path.now c.args.bytes.now c.in-Err.fault c.in-Err.ensures.fault c.fault_status.result c.fault_status.ensures

pub returns-clause-bounded : goal.returns-clause-bounded
returns-clause-bounded c = filed_database _ c.args.bytes.now c.in-Ok.ensures.found c.head-head.ensures.database
