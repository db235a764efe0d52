-- Strings that stand in a record only where its head says so.
use Rattle.std.specs.Prelude.{ℕ, ◌+◌, Bool, List, [], Result, Ok, drop, length, option_map, if◌then◌else◌}
use Rattle.palm_records.specs.Strings.{first_zero, until_zero}
use Rattle.palm_events.specs.Steps.{or_place}

-- the string at a place, or nothing; the fault is where a string begins that no zero byte ends
abbrev pub text_in : Bool → ℕ → List ℕ → Result (List ℕ) ℕ
text_in there place bytes =
    if there then or_place place
    (option_map (λ found. until_zero (drop place bytes)) (first_zero (drop place bytes))) else Ok []

-- the place behind it
abbrev pub behind_text : Bool → ℕ → List ℕ → ℕ
behind_text there place text = if there then place + length text + 1 else place
