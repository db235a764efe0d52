use Rattle.std.proofs.Common.{◌≡◌, ◌≤◌, List, length}
use Rattle.port_link.specs.Calls.{Bears}
use Rattle.port_link.specs.Courses.{Scene, scene}
use Rattle.port_link.specs.Logs.{log_entries}
use Rattle.port_link.proofs.talking.linger.Given as goal

abbrev pub invariant-loop-tick : goal.invariant-loop-tick
invariant-loop-tick g l = record {
  bears : (ticks : List Scene)
      × Bears ticks
      (scene (g.P.Port.given l.initial.cable.port) (g.P.Port.taken l.initial.cable.port) (g.P.Port.palm l.initial.cable.port) l.initial.reader.held l.initial.cable.desk (log_entries l.initial.cable.log.entries))
      (scene (g.P.Port.given l.cable.port) (g.P.Port.taken l.cable.port) (g.P.Port.palm l.cable.port) l.reader.held l.cable.desk (log_entries l.cable.log.entries))
      × (length ticks ≡ l.tick);
  paths : g.P.Port.paths l.cable.port ≡ g.P.Port.paths l.initial.cable.port;
  later : g.P.Port.faults l.initial.cable.port ≤ g.P.Port.faults l.cable.port;
}
