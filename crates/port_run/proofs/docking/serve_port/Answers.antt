use Rattle.std.proofs.Common.{map, string_bytes}
use Rattle.run_words.specs.Docks.{docking_of}
use Rattle.port_run.specs.Told.{dock_told}
use Rattle.port_run.proofs.UnreadLaws.{unread_dock}
use Rattle.port_run.proofs.docking.serve_port.Goals as goal

pub returns-in-Err-NoMemory-clause-call : goal.returns-in-Err-NoMemory-clause-call
returns-in-Err-NoMemory-clause-call g c =
    let said = c.print_refusal-status in
    let end = c.not_started-in-Err-NoMemory in
    rw (end.ensures.device, end.ensures.port)
    (unread_dock (docking_of (map string_bytes c.args.words.now)) (dock_told g.H.Folder g.P.Port g.T.Sink c.args.device c.args.port c.args.trace.now)
    said.ensures.status end.ensures.status end.ensures.report said.ensures.printed)
