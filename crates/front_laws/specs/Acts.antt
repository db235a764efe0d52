-- What comes of a session's acts.
use Rattle.std.specs.Prelude.{◌≡◌, ℕ, List, [], ◌∷◌, ◌++◌, filter, length, map}
use Rattle.palm_device.specs.Handles.{no_handles}
use Rattle.dlp_commands.specs.Changes.{changes}
use Rattle.desktop_session.specs.Acts.{Act, text}
use Rattle.desktop_session.specs.Requests.{ending}
use Rattle.desktop_session.specs.Tellings.{device_after}
use Rattle.session_plan.specs.Tasks.{Meeting}
use Rattle.sync_session.specs.Fronts.{MeetingFront}
use Rattle.sync_session.specs.Sessions.{session}
use Rattle.front_laws.specs.Given.{ids_in}

-- the end comes last, and nothing is open where it is asked for
abbrev pub ClosesBeforeEnd : Meeting → List ℕ → Type 0
ClosesBeforeEnd meeting given =
    (acts : List Act) × (session meeting given ≡ acts ++ ending ∷ [])
    × ((device_after acts meeting.device).handles ≡ no_handles)

-- the handheld stands at a front of the session behind these acts: with as many writes as they
-- have, and the ids that they gave
abbrev pub LeadToFront : Meeting → List Act → Type 0
LeadToFront meeting acts =
    MeetingFront meeting (length (filter changes (map text acts))) (ids_in acts)
    (device_after acts meeting.device)
