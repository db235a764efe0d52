-- What the matches of words give.
use Rattle.std.specs.Prelude.{ℕ, List, slice_get, Option, None, Some, codes, bytes_eq, option_and_then, if◌then◌else◌}
use Rattle.clap.specs.Matches.{first_value}
use Rattle.clap.specs.Words.{found_of}
use Rattle.clap.specs.declared.parser.matches.Found.{Found}
use Rattle.run_words.specs.Forms.{Given, NamedOption, WordFormValue, option_named}
use Rattle.run_words.specs.Views.{form_view}
use Rattle.run_words.specs.Forms.{OptionKind, Needed, Allowed, Flag}
use Rattle.run_clap.specs.declared.matched.Matched.{Matched}

-- the text of a flag, where it says that the flag stands
abbrev pub if_yes : Option (List ℕ) → Option (List ℕ)
if_yes None = None
if_yes (Some text) = if bytes_eq text (codes "true") then Some text else None

-- what the text that was found says
abbrev pub found_said : OptionKind → Option (List ℕ) → Option (List ℕ)
found_said Needed text = text
found_said Allowed text = text
found_said Flag text = if_yes text

abbrev pub said_of_found : Found → NamedOption → Option (List ℕ)
said_of_found found option = found_said option.kind (first_value found option.name)

-- what was found gives by a form: nothing that the form doesn't know
abbrev pub given_in : WordFormValue → Found → Given
given_in form found = record {
  plain = λ place. option_and_then (first_value found) (slice_get form.plain place);
  said = λ name. option_and_then (said_of_found found) (option_named form name);
}

abbrev pub matched_given : Matched → Given
matched_given matched = given_in (form_view matched.form) (found_of matched.matches)
