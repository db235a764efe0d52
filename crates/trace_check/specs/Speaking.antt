-- What an end said so far, and what it may say next.
use Rattle.std.specs.Prelude.{◌≡◌, ℕ, ◌+◌, ◌<◌, ◌≤◌, Bool, true, false, List, reverse, Option, Some, None}
use Rattle.std.specs.Bool.{MatchBool}
use Rattle.cmp_hello.specs.declared.hello.HelloKind.{HelloKind}
use Rattle.padp_link.specs.declared.piece.Key.{Key}
use Rattle.trace_text.specs.declared.frame.End.{End}
use Rattle.trace_text.specs.Faults.{faulted, newest, last_repeat}
use Rattle.trace_text.specs.Parts.{Part, spoken}
use Rattle.trace_text.specs.Past.{PastFrame, same_key, first, said, is_repeat, run}
use Rattle.trace_text.specs.Proper.{AtMostTen}
use Rattle.trace_check.specs.Standings.{start, MaySay, MaySayAll, next, standing_behind}
use Rattle.trace_check.specs.declared.speaker.Speaker.{Speaker}

-- an end that said nothing
abbrev pub silent : Speaker
silent = record { newest = None; run = 0; last_repeat = 0; standing = start }

-- the end says its newest fragment again
abbrev pub is_again : Option Key → Key → Bool
is_again None key = false
is_again (Some newest) key = same_key key newest

-- it may: it said it less than ten times in a row, and there is a fault for it
pub record MayRepeat (old : Speaker) (fault : ℕ) : Type 0 where
  pub few : old.run < 10
  pub some : 0 < fault
  pub near : old.last_repeat ≤ fault + 1

-- the end behind a repeat, and behind a new part
abbrev pub repeated_at : ℕ → Speaker → Speaker
repeated_at number old = record {
  newest = old.newest;
  run = old.run + 1;
  last_repeat = number;
  standing = old.standing;
}

abbrev pub begun_with : Part → Speaker → Speaker
begun_with part old = record {
  newest = Some part.key;
  run = 1;
  last_repeat = old.last_repeat;
  standing = next old.standing part;
}

-- The end says this part in the frame of this number, where the newest fault has that number, and
-- is so then.
abbrev pub SaysNext : HelloKind → Speaker → Part → ℕ → ℕ → Speaker → Type 0
SaysNext greeting old part number fault new =
    MatchBool (is_again old.newest part.key) (MayRepeat old fault × (new ≡ repeated_at number old))
    (MaySay greeting old.standing part × (new ≡ begun_with part old))

-- it says a new part and is so then, or may not
abbrev pub BeginsOrNot : Bool → HelloKind → Part → Speaker → Speaker → Type 0
BeginsOrNot began greeting part old new =
    MatchBool began (MaySay greeting old.standing part × (new ≡ begun_with part old))
    (¬ (MaySay greeting old.standing part))

-- the end is so behind these frames
pub record IsSpeaker (X : End) (past : List PastFrame) (speaker : Speaker) : Type 0 where
  pub newest_is : speaker.newest ≡ first (said X past)
  pub run_is : speaker.run ≡ run X past
  pub repeat_is : speaker.last_repeat ≡ last_repeat X past
  pub standing_is : speaker.standing ≡ standing_behind start (reverse (spoken X past))

-- what the end said in these frames keeps the rule
pub record SpeaksSo (greeting : HelloKind) (X : End) (past : List PastFrame) : Type 0 where
  pub says : MaySayAll greeting start (reverse (spoken X past))
  pub ten : AtMostTen X past

-- a frame behind these has its fault, if it is a repeat of X
abbrev pub HasFault : End → PastFrame → List PastFrame → Type 0
HasFault X frame past =
    is_repeat X frame past ≡ true
    → (0 < newest faulted past) × (last_repeat X past ≤ newest faulted past + 1)
