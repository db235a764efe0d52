-- What a desktop's end at a port shows at one moment, by the members of its port.
use Rattle.std.specs.Prelude.{List, ℕ, Option}
use Rattle.port_line.specs.declared.port.Port.{Ghosts as PortMembers}
use Rattle.port_line.specs.declared.port_fault.PortFault.{PortFault}
use Rattle.port_link.specs.declared.cable.Cable.{Cable}
use Rattle.port_link.specs.Courses.{Scene, Tells, scene}
use Rattle.port_link.specs.Logs.{EntryValue, log_entries}

-- its scene, with a reader that holds these bytes
abbrev pub scene_of : {P : Type 0} → PortMembers P → Cable P → List ℕ → Scene
scene_of ports cable held =
    scene (ports.given cable.port) (ports.taken cable.port) (ports.palm cable.port) held cable.desk
    (log_entries cable.log.entries)

-- these entries were kept between two moments, and what is said in them was written
abbrev pub CableTells : {P : Type 0} → PortMembers P → Option PortFault → Cable P → Cable P
    → List EntryValue → Type 0
CableTells ports fault old new entries =
    Tells fault (ports.taken old.port) (ports.taken new.port) (log_entries old.log.entries)
    (log_entries new.log.entries) entries
