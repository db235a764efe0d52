-- Which words ask for a handheld at a port, and what they give.
use Rattle.std.specs.Prelude.{ℕ, Bool, List, Option, None, codes, option_map, option_and_then, if◌then◌else◌}
use Rattle.run_words.specs.Faults.{right_given}
use Rattle.run_words.specs.Forms.{Given}
use Rattle.run_words.specs.Helps.{begins, names_port}
use Rattle.run_words.specs.Tables.{dock_form}

-- a handheld's folder, the port that it stands at, and the trace that is written
pub record Dock : Type 0 where
  pub handheld : List ℕ
  pub port : List ℕ
  pub trace : Option (List ℕ)

-- the handheld at this port, with what the words give beside them
abbrev pub dock_at : Given → List ℕ → List ℕ → Dock
dock_at given handheld port =
    record { handheld = handheld; port = port; trace = given.said (codes "trace") }

-- what the words give
abbrev pub dock_in : Given → Option Dock
dock_in given =
    option_and_then
    (λ handheld. option_map (dock_at given handheld) (given.said (codes "port")))
    (given.plain 0)

-- the first word is `device`, and one behind it begins with `--port=`
abbrev pub begins_dock : List (List ℕ) → Bool
begins_dock words = names_port (codes "device") words

-- the handheld at a port that these words ask for
unfoldable pub docking_of : List (List ℕ) → Option Dock
docking_of words =
    if begins (codes "device") words
    then option_and_then dock_in (right_given None dock_form words) else None
