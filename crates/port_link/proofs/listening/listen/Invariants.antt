use Rattle.std.proofs.Common.{◌≡◌, List, length}
use Rattle.std.specs.Prelude.{None}
use Rattle.port_link.specs.Courses.{Course, scene}
use Rattle.port_link.specs.Desks.{Event}
use Rattle.port_link.specs.Listening.{GoesThrough}
use Rattle.port_link.specs.Logs.{log_entries}
use Rattle.port_link.proofs.listening.listen.Given as goal

abbrev pub invariant-loop-count : goal.invariant-loop-count
invariant-loop-count g l = record {
  course : (events : List Event)
      × Course events None
      (scene (g.P.Port.given l.initial.cable.port) (g.P.Port.taken l.initial.cable.port) (g.P.Port.palm l.initial.cable.port) l.initial.reader.held l.initial.cable.desk (log_entries l.initial.cable.log.entries))
      (scene (g.P.Port.given l.cable.port) (g.P.Port.taken l.cable.port) (g.P.Port.palm l.cable.port) l.reader.held l.cable.desk (log_entries l.cable.log.entries))
      × GoesThrough l.awaited l.initial.cable.desk events
      × (length events ≡ l.count);
  paths : g.P.Port.paths l.cable.port ≡ g.P.Port.paths l.initial.cable.port;
  faults : g.P.Port.faults l.cable.port ≡ g.P.Port.faults l.initial.cable.port;
}
