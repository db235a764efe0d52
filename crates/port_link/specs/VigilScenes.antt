-- What a handheld's end at a port shows at one moment, and what it leaves, by the members of its
-- folder and its port.
use Rattle.std.specs.Prelude.{List, ℕ}
use Rattle.hs_folders.specs.declared.folder.Folder.{Ghosts as FolderMembers}
use Rattle.handheld_server.specs.Servers.{ServerValue}
use Rattle.device_stream.specs.Runs.{IsReportOf, KeptFor}
use Rattle.port_line.specs.declared.port.Port.{Ghosts as PortMembers}
use Rattle.port_link.specs.Desks.{Event}
use Rattle.port_link.specs.Logs.{log_entries}
use Rattle.port_link.specs.declared.port_end.PortEnd.{PortEnd}
use Rattle.port_link.specs.declared.serving.AtPort.{AtPort}
use Rattle.port_link.specs.declared.vigil.Vigil.{Vigil as Waits}
use Rattle.port_link.specs.VigilCourses.{Course, HasStepped, Scene, Stops, scene}
use Rattle.port_link.specs.Runs.{IsPortRun}
use Rattle.port_link.specs.Vigils.{Vigil, vigil}

-- its hand, and how many silent ticks more it bears
abbrev pub vigil_of : {F P : Type 0} → Waits F P → Vigil
vigil_of waits = vigil waits.talk.hand waits.patience

-- its scene, with a reader that holds these bytes
abbrev pub scene_of : {F P : Type 0} → PortMembers P → Waits F P → List ℕ → Scene
scene_of ports waits held =
    scene (ports.given waits.port) (ports.taken waits.port) held (vigil_of waits)
    (log_entries waits.log.entries)

-- it took an event between two moments
abbrev pub StepsBy : {F P : Type 0} → PortMembers P → Event → Waits F P → Waits F P → Type 0
StepsBy ports event old new =
    HasStepped event (vigil_of old) (vigil_of new) (ports.taken old.port) (ports.taken new.port)
    (log_entries old.log.entries) (log_entries new.log.entries)

-- it ended so between two moments, while these events came
abbrev pub StopsBy : {F P : Type 0} → PortMembers P → PortEnd → List Event → Waits F P
    → Waits F P → Type 0
StopsBy ports end came old new =
    Stops end came (vigil_of old) (vigil_of new) (ports.taken old.port) (ports.taken new.port)
    (log_entries old.log.entries) (log_entries new.log.entries)

-- what it leaves of a server and of a port: the packets are those of the port's bytes, and the
-- report and the folder are what the talk made of them
abbrev pub LeavesPort : {F P : Type 0} → FolderMembers F → PortMembers P → ServerValue F → P
    → AtPort F P → Type 0
LeavesPort folders ports server port left =
    (course : Course)
    × IsPortRun server.device (ports.given port) (ports.given left.port) (ports.taken port)
    (ports.taken left.port) (log_entries left.log) left.end course
    × IsReportOf course.vigil.hand left.report
    × KeptFor folders.contents folders.moments folders.paths folders.faults server left.folder
    course.vigil.hand
