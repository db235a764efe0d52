-- A run of a handheld at a port.
use Rattle.std.specs.Prelude.{◌≡◌, ℕ, List, [], ◌++◌, Option}
use Rattle.std.specs.Option.{option_map}
use Rattle.device_stream.specs.Courses.{BeginsWith}
use Rattle.device_stream.specs.Hands.{wake_said}
use Rattle.palm_device.specs.Devices.{Device}
use Rattle.port_link.specs.Courses.{Holds, Tells, reads_of}
use Rattle.port_link.specs.Logs.{EntryValue, said_entries}
use Rattle.port_link.specs.declared.port_end.PortEnd.{PortEnd}
use Rattle.port_link.specs.VigilCourses.{Course}
use Rattle.port_link.specs.Ends.{IsLong, IsOver, fault_of}
use Rattle.port_link.specs.Vigils.{Steps, StepsTo, waking}

-- A run of a handheld with this device at a port, which gave and took so much before it and behind
-- it: the port gave what came, the packets are those of its bytes, the first of what came was
-- taken, and the port took the wake and what was said to these. It went on behind each but the last.
pub record IsPortRun (device : Device) (given given' : Option (List (List ℕ)))
    (taken taken' : Option (List ℕ)) (log : List EntryValue) (end : PortEnd) (course : Course)
    : Type 0 where
  pub held : List ℕ
  pub holds : Holds [] course.came held
  pub gave : given' ≡ option_map (λ given. given ++ reads_of course.came) given
  pub first : BeginsWith course.came course.events
  pub steps : Steps (waking device) course.events course.kept course.vigil
  pub through : StepsTo (waking device) course.events course.kept course.vigil
  pub tells : Tells (fault_of end) taken taken' [] log (said_entries wake_said ++ course.kept)
  pub over : IsOver end course.vigil
  pub long : IsLong end course.came
