-- What the page knows of the frames so far: of each end the newest key, how often it stood in a
-- row, and the front of the message that it is at.
use Rattle.std.specs.Prelude.{ℕ, ◌+◌, Bool, false, Option, Some, None, List, if◌then◌else◌}
use Rattle.padp_link.specs.declared.piece.Key.{Key}
use Rattle.trace_text.specs.declared.frame.End.{End}
use Rattle.trace_text.specs.declared.frame.End.TheVariants.{Handheld, Desktop}
use Rattle.trace_text.specs.Frames.{is_data_kind}
use Rattle.trace_text.specs.Past.{PastFrame, first, run, said, same_key}
use Rattle.trace_page.specs.Bearings.{begins_message}
use Rattle.trace_page.specs.Pages.{front_of}
use Rattle.trace_page.specs.declared.bearing.Bearing.{Bearing}
use Rattle.trace_page.specs.declared.seen.Seen.{Seen}
use Rattle.trace_page.specs.declared.seen.Side.{Side}

-- what is known of an end by the frames so far
abbrev pub side_of : End → List PastFrame → Side
side_of X past = record { newest = first (said X past); run = run X past; front = front_of X past }

-- of both ends
unfoldable pub seen_of : List PastFrame → Seen
seen_of past = record { handheld = side_of Handheld past; desktop = side_of Desktop past }

-- this key is the newest one
abbrev pub is_newest : Key → Option Key → Bool
is_newest key None = false
is_newest key (Some newest) = same_key key newest

-- a data frame with the newest key
abbrev pub repeats : Side → Bearing → Bool
repeats side bearing =
    if is_data_kind bearing.kind then is_newest bearing.key side.newest else false

-- which sending it is, 0 where it is no repeat
abbrev pub times_by : Side → Bearing → ℕ
times_by side bearing = if repeats side bearing then side.run + 1 else 0

-- an end behind a data frame of its own
abbrev pub side_behind : Side → Bearing → Side
side_behind side bearing = record {
  newest = Some bearing.key;
  run = if is_newest bearing.key side.newest then side.run + 1 else 1;
  front = if begins_message bearing then bearing.front else side.front;
}

-- an end behind a frame of its own
abbrev pub side_after : Side → Bearing → Side
side_after side bearing = if is_data_kind bearing.kind then side_behind side bearing else side

-- what is known of an end
abbrev pub side_in : End → Seen → Side
side_in Handheld seen = seen.handheld
side_in Desktop seen = seen.desktop

-- both ends behind a frame of one
abbrev pub seen_after : End → Bearing → Seen → Seen
seen_after Handheld bearing seen = record {
  handheld = side_after seen.handheld bearing;
  desktop = seen.desktop;
}
seen_after Desktop bearing seen = record {
  handheld = seen.handheld;
  desktop = side_after seen.desktop bearing;
}
