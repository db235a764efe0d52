-- A line at rest between two messages: whose turn it is, and under which transactions the last
-- messages went.
use Rattle.std.specs.Prelude.{◌≡◌, ℕ, ◌+◌, ◌≤◌, length}
use Rattle.padp_link.specs.Neighbours.{session_id}
use Rattle.padp_link.specs.Pieces.{piece_count}
use Rattle.trace_text.specs.declared.frame.End.TheVariants.{Handheld, Desktop}
use Rattle.line_steps.specs.declared.line.Line.{Line}
use Rattle.line_steps.specs.Turning.{Turn}

-- each end stands in its place
pub record AreEnds (line : Line) : Type 0 where
  pub handheld_is : line.handheld.end ≡ Handheld
  pub desktop_is : line.desktop.end ≡ Desktop

-- nothing was sent, and the handheld may greet
pub record MayGreet (line : Line) : Type 0 where
  pub ends : AreEnds line
  pub turn : Turn line.wire line.handheld line.desktop
  pub handheld_id : line.handheld.sender.id ≡ 0
  pub desktop_id : line.desktop.sender.id ≡ 0

-- behind so many requests and their replies the desktop may send the next request; behind none the
-- handheld waits for nothing
pub record MayAsk (line : Line) (requests : ℕ) : Type 0 where
  pub ends : AreEnds line
  pub turn : Turn line.wire line.desktop line.handheld
  pub handheld_id : line.handheld.sender.id ≡ session_id requests
  pub desktop_id : line.desktop.sender.id ≡ session_id requests
  pub idle : requests ≡ 0
      → piece_count (length line.handheld.message) ≤ line.handheld.sender.acknowledged

-- the handheld has the request behind so many, and may reply to it
pub record MayAnswer (line : Line) (requests : ℕ) : Type 0 where
  pub ends : AreEnds line
  pub turn : Turn line.wire line.handheld line.desktop
  pub handheld_id : line.handheld.sender.id ≡ session_id requests
  pub desktop_id : line.desktop.sender.id ≡ session_id (requests + 1)
