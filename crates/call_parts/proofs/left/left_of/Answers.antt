use Rattle.std.specs.Option.{option_copied}
use Rattle.call_parts.proofs.SpokeLaws.{left_stopped}
use Rattle.call_parts.proofs.left.left_of.Goals as goal

pub returns-in-Err : goal.returns-in-Err
returns-in-Err c =
    left_stopped c.args.end (option_copied c.args.cause) c.stopped.result c.in-Err.is c.stop_status.ensures c.stopped.ensures.status c.stopped.ensures.end
    c.stopped.ensures.databases c.stopped.ensures.faulted
