-- The word at fault in words that name a port behind `device`, where they ask for nothing.
use Rattle.std.specs.Prelude.{ℕ, Bool, false, not, ◌==◌, List, [], ◌∷◌, length, Option, None, is_some}
use Rattle.std.specs.List.{filter}
use Rattle.std.specs.Option.{option_map_or, option_or}
use Rattle.run_words.specs.Faults.{Fault, form_fault}
use Rattle.run_words.specs.Tables.{dock_form}
use Rattle.run_words.specs.Words.{after}
use Rattle.hotsync_looks.specs.JointFaults.{empty_fault}

-- something follows a first part of a word
abbrev pub is_set : List ℕ → List ℕ → Bool
is_set part word = option_map_or (λ value. not (length value == 0)) (after part word) false

-- how many words begin so
abbrev pub begin_count : List ℕ → List (List ℕ) → ℕ
begin_count part words = length (filter (λ word. is_some (after part word)) words)

-- by the form of its words, which is that of a handheld at a port
abbrev pub docking_fault : List (List ℕ) → Option Fault
docking_fault [] = None
docking_fault (first ∷ words) =
    option_or (form_fault dock_form first words) (empty_fault words)
