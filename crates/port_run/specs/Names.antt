-- Which databases a session over a cable names.
use Rattle.std.specs.Prelude.{◌≡◌, ℕ, true, List, Some}
use Rattle.dlp_commands.specs.Tries.{Try}
use Rattle.session_parts.specs.Naming.{AreSuch, NamesOnly}
use Rattle.run_words.specs.Cables.{Cable, only_of}
use Rattle.run_words.specs.Choices.{is_among, names_in}
use Rattle.port_link.specs.Calls.{Heard, LinkValue}

-- where the words touch some databases alone, it is one of them
abbrev pub IsTouched : Cable → List ℕ → Type 0
IsTouched cable name =
    (stems : List ℕ) → only_of cable ≡ Some stems → is_among (names_in stems) name ≡ true

-- All that was asked over a link since, and what was replied: each request by name, that opens,
-- makes or takes away a database, is for such a one.
pub record NamesTouched (cable : Cable) (first last : LinkValue) : Type 0 where
  pub tries : List Try
  pub heard : Heard first tries last
  pub named : AreSuch (NamesOnly (IsTouched cable)) tries
