use Rattle.std.proofs.Common.{◌≡◌, List, length}
use Rattle.device_stream.specs.Courses.{IsReady, PerformsAny}
use Rattle.port_link.specs.Desks.{Event}
use Rattle.port_link.specs.Logs.{log_entries}
use Rattle.port_link.specs.VigilCourses.{GoesOn, scene}
use Rattle.port_link.specs.Vigils.{vigil}
use Rattle.port_link.proofs.serving.listen.Given as goal

abbrev pub invariant-loop-count : goal.invariant-loop-count
invariant-loop-count g l = record {
  ready : IsReady l.waits.talk;
  goes : (events : List Event)
      × GoesOn events
      (scene (g.P.Port.given l.initial.waits.port) (g.P.Port.taken l.initial.waits.port) l.initial.reader.held (vigil l.initial.waits.talk.hand l.initial.waits.patience) (log_entries l.initial.waits.log.entries))
      (scene (g.P.Port.given l.waits.port) (g.P.Port.taken l.waits.port) l.reader.held (vigil l.waits.talk.hand l.waits.patience) (log_entries l.waits.log.entries))
      × (length events ≡ l.count);
  performs : PerformsAny g.F.Folder.contents g.F.Folder.moments g.F.Folder.paths g.F.Folder.faults l.initial.waits.talk l.waits.talk;
  keeper : g.F.Folder.faults l.waits.talk.folder ≡ g.F.Folder.faults l.initial.waits.talk.folder;
  port : g.P.Port.faults l.waits.port ≡ g.P.Port.faults l.initial.waits.port;
  paths : g.P.Port.paths l.waits.port ≡ g.P.Port.paths l.initial.waits.port;
}
