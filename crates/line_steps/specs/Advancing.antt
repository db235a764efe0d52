-- How many of its fragments the other end took of an end, and whether those are all.
use Rattle.std.specs.Prelude.{ℕ, ◌≤◌, ◌<◌, ⊤, length}
use Rattle.trace_text.specs.declared.frame.End.{End}
use Rattle.trace_text.specs.Past.{at}
use Rattle.trace_text.specs.Talks.{Talk, messages_of, pieces_before}
use Rattle.line_laws.specs.Hearing.{heard}
use Rattle.line_laws.specs.Talking.{count_messages}
use Rattle.line_steps.specs.declared.half.Half.{Half}
use Rattle.line_steps.specs.declared.half.Wire.{Wire}
use Rattle.line_steps.specs.declared.sending.Halt.{Halt}
use Rattle.line_steps.specs.declared.sending.Halt.TheVariants.{Down}
use Rattle.line_steps.specs.Running.{past_now}

-- so many so far
abbrev pub took_count : Wire → Half → ℕ
took_count wire half = length (heard half.end (at half.taken (past_now wire.frames.items)))

-- so many has all that it says
abbrev pub piece_total : End → Talk → ℕ
piece_total X talk = pieces_before (messages_of X talk) (count_messages X talk)

-- what was taken of both ends stays taken
pub record Advances (wire : Wire) (x y : Half) (new : Wire) (later_x later_y : Half) : Type 0 where
  pub own : took_count wire x ≤ took_count new later_x
  pub other : took_count wire y ≤ took_count new later_y

-- this holds where an end has spent its tries
abbrev pub WhereDown : Halt → Type 0 → Type 0
WhereDown (Down end) holds = holds
WhereDown halt holds = ⊤

-- none has
abbrev pub IsUp : Halt → Type 0
IsUp halt = WhereDown halt ⊥

-- where one has, no more was taken of an end than before
abbrev pub StandsStill : Halt → Wire → Half → Wire → Half → Type 0
StandsStill halt wire half new later = WhereDown halt (took_count new later ≤ took_count wire half)

-- and then its last message wasn't taken whole
abbrev pub FallsShort : Halt → Talk → Wire → Half → Type 0
FallsShort halt talk wire half = WhereDown halt (took_count wire half < piece_total half.end talk)
