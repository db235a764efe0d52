use Rattle.std.proofs.Common.{take}
use Rattle.session_parts.proofs.EachLaws.{EachSoFar}
use Rattle.install_backup.specs.InstallActs.{installs_under}
use Rattle.install_backup.specs.Installs.{SaysMoved}
use Rattle.install_backup.proofs.many.install_all.Given as goal

abbrev pub invariant-loop-database : goal.invariant-loop-database
invariant-loop-database g l = EachSoFar g.L.Link.talk g.L.Link.since g.L.Link.fault g.L.Link.downs installs_under SaysMoved
    (take l.database-index l.databases) l.moved.items l.initial.linked l.linked
