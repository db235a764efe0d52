-- Frames behind others of which some could arrive and didn't come.
use Rattle.std.specs.Prelude.{◌≡◌, ◌↔◌, Bool, true, List, ◌∷◌}
use Rattle.std.specs.Bool.{MatchBool}
use Rattle.std.specs.List.{AllByRecursion}
use Rattle.trace_text.specs.declared.frame.End.{End}
use Rattle.trace_text.specs.declared.frame.End.TheVariants.{Handheld, Desktop}
use Rattle.trace_text.specs.Proper.{StaysAway, ComeInOrder}
use Rattle.trace_text.specs.TraceLines.{FrameValue}
use Rattle.trace_check.specs.declared.ordering.Closed.{Closed}

-- the direction is closed
abbrev pub is_closed : Closed → End → Bool
is_closed closed Handheld = closed.handheld
is_closed closed Desktop = closed.desktop

-- it and the directions that were closed are
abbrev pub closed_by : Closed → End → Closed
closed_by closed Handheld = record { handheld = true; desktop = closed.desktop }
closed_by closed Desktop = record { handheld = closed.handheld; desktop = true }

-- the frames come in order, and none in a direction that is closed
pub record ComeBehind (closed : Closed) (frames : List FrameValue) : Type 0 where
  pub order : ComeInOrder frames
  pub away : (X : End) → is_closed closed X ≡ true → AllByRecursion (StaysAway X) frames

-- a frame may come or not as it did, and then those behind it are to come in order behind the
-- directions that are closed then; or none may come in order behind it
abbrev pub PassesFrame : Bool → Closed → FrameValue → Closed → Type 0
PassesFrame may old frame new =
    MatchBool may
    ((later : List FrameValue) → ComeBehind old (frame ∷ later) ↔ ComeBehind new later)
    ((later : List FrameValue) → ¬ (ComeBehind old (frame ∷ later)))
