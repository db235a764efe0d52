-- What reached an end, by the first frame that came with it: its newest late frame tells whether
-- that one is held.
use Rattle.std.specs.Prelude.{ℕ, ◌+◌, Bool, false, ◌&&◌, ◌||◌, List, [], ◌∷◌, length, nat_eq, nat_lt}
use Rattle.std.specs.Prelude.{Option, Some, None}
use Rattle.std.specs.Bool.{then_some}
use Rattle.std.specs.Option.{option_or}
use Rattle.trace_text.specs.declared.frame.End.{End}
use Rattle.trace_text.specs.Past.{PastFrame, is_data_of, is_newest_key, said}
use Rattle.trace_text.specs.Faults.{late_of, newest}
use Rattle.trace_text.specs.Proper.{is_ack_of}

-- the newest late frame of Y, or 0, up to the first frame that passes and came, if one did
abbrev pub first_late : (List PastFrame → Bool) → End → (ℕ → Bool) → List PastFrame → Option ℕ
first_late p Y came [] = None
first_late p Y came (frame ∷ past) =
    option_or (first_late p Y came past)
    (then_some (p (frame ∷ past) && came (length past + 1)) (newest (late_of Y) (frame ∷ past)))

-- what has this arrival came, and isn't held by the newest repeat: no frame up to it is late, or
-- the repeat stands behind
abbrev pub is_free : ℕ → Option ℕ → Bool
is_free repeat None = false
is_free repeat (Some late) = nat_eq late 0 || nat_lt late repeat

-- the newest frame bears the fragment of X of this number, from 1 on
abbrev pub bears : End → ℕ → List PastFrame → Bool
bears X number [] = false
bears X number (frame ∷ past) = is_data_of X frame && nat_eq (length (said X (frame ∷ past))) number

-- the newest frame is Y's acknowledgement of the fragment of X of this number, which is X's newest
abbrev pub acks : End → End → ℕ → List PastFrame → Bool
acks X Y number [] = false
acks X Y number (frame ∷ past) =
    is_ack_of Y frame && nat_eq (length (said X (frame ∷ past))) number
    && is_newest_key frame.key (said X (frame ∷ past))
