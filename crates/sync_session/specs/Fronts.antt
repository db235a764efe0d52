-- Where a handheld stands after some of a session's writes.
use Rattle.std.specs.Prelude.{ℕ, List}
use Rattle.palm_device.specs.Devices.{Device}
use Rattle.session_parts.specs.Fronts.{Front}
use Rattle.session_plan.specs.Tasks.{Meeting}
use Rattle.sync_session.specs.Sessions.{requests}

-- the handheld of a meeting stands after the first so many writes of its session, whose new records
-- got these ids
abbrev pub MeetingFront : Meeting → ℕ → List ℕ → Device → Type 0
MeetingFront meeting writes given device =
    Front meeting.device (requests meeting) writes given device
