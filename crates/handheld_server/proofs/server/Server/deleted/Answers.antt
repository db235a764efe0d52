use Rattle.std.proofs.Common.{rules}
use Rattle.handheld_server.proofs.KeepLaws.{touches_gone}
use Rattle.handheld_server.proofs.server.Server.deleted.Goals as goal
use Rattle.handheld_server.proofs.server.Server.deleted.Goals.{in-Ok-delete, in-Err-delete}

pub returns-clause-files : goal.returns-clause-files
returns-clause-files g c = search (rules, in-Ok-delete, touches_gone, in-Err-delete)
