-- The ids that new records get: each database gets as many as it has new records.
use Rattle.std.specs.Prelude.{◌≡◌, ℕ, List, [], ◌∷◌, length, if◌then◌else◌, is_none}
use Rattle.session_plan.specs.Choosing.{add_count}
use Rattle.session_plan.specs.Skips.{skip_of}
use Rattle.session_plan.specs.Tasks.{Meeting, Task}

-- each database got as many as it has new records, and one that is skipped got none
abbrev pub AreDealtTo : Meeting → List Task → List (List ℕ) → Type 0
AreDealtTo meeting [] [] = Unit {0}
AreDealtTo meeting [] (given ∷ more) = ⊥
AreDealtTo meeting (task ∷ later) [] = ⊥
AreDealtTo meeting (task ∷ later) (given ∷ more) =
    (length given ≡ (if is_none (skip_of task) then add_count meeting task else 0))
    × AreDealtTo meeting later more
