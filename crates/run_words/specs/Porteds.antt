-- Which words name a port in the place of a handheld's folder, and what they give.
use Rattle.std.specs.Prelude.{ℕ, List, Option, None, codes, option_map, option_and_then, if◌then◌else◌}
use Rattle.run_words.specs.Faults.{right_given}
use Rattle.run_words.specs.Forms.{Given}
use Rattle.run_words.specs.Helps.{names_port}
use Rattle.run_words.specs.Tables.{ported_form}

-- the port, another path, and the trace that is written
pub record Ported : Type 0 where
  pub port : List ℕ
  pub other : List ℕ
  pub trace : Option (List ℕ)

-- this path at this port, with what the words give beside them
abbrev pub ported_at : Given → List ℕ → List ℕ → Ported
ported_at given other port =
    record { port = port; other = other; trace = given.said (codes "trace") }

-- what the words give
abbrev pub ported_in : Given → Option Ported
ported_in given =
    option_and_then
    (λ other. option_map (ported_at given other) (given.said (codes "port")))
    (given.plain 0)

-- what these words ask for behind this command, which name a port
unfoldable pub ported_of : List ℕ → List (List ℕ) → Option Ported
ported_of command words =
    if names_port command words
    then option_and_then ported_in (right_given None ported_form words) else None
