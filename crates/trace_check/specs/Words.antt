-- The words of a line of a trace.
use Rattle.std.specs.Prelude.{◌≡◌, ◌==◌, ◌||◌, ℕ, Bool, false, List, ◌++◌, codes}
use Rattle.std.specs.List.{AllByRecursion}
use Rattle.trace_text.specs.TraceLines.{mark_word}

-- a line feed
abbrev pub is_feed : ℕ → Bool
is_feed byte = byte == 10

-- a plus or a minus
abbrev pub is_mark : ℕ → Bool
is_mark byte = byte == 43 || byte == 45

-- these words, the first mark, and what stands behind it
pub record IsMarked (front : List ℕ) (came : Bool) (back words : List ℕ) : Type 0 where
  pub unmarked : AllByRecursion (λ byte. is_mark byte ≡ false) front
  pub is : words ≡ front ++ codes " " ++ mark_word came ++ codes " " ++ back
