-- The form of the words behind a command, and what words of it give.
use Rattle.std.specs.Prelude.{ℕ, Bool, false, true, not, ◌==◌, ◌&&◌, ◌||◌, nat_le, List, [], ◌∷◌, ◌++◌, length, slice_get, Option, Some, None, codes, bytes_eq, is_some, option_and_then, if◌then◌else◌}
use Rattle.std.specs.List.{filter, find, list_all, list_any}
use Rattle.std.specs.Option.{option_map_or, option_or}
use Rattle.run_words.specs.Words.{after, is_plain}

-- with a value and has to stand, with a value and may, or a flag
pub data OptionKind : Type 0 where
  Needed : OptionKind
  Allowed : OptionKind
  Flag : OptionKind

abbrev pub is_needed : OptionKind → Bool
is_needed Needed = true
is_needed Allowed = false
is_needed Flag = false

abbrev pub is_flag_kind : OptionKind → Bool
is_flag_kind Needed = false
is_flag_kind Allowed = false
is_flag_kind Flag = true

-- an option `--NAME=VALUE`, or a flag `--NAME`
pub record NamedOption : Type 0 where
  pub name : List ℕ
  pub kind : OptionKind

-- the names of the plain words in their order, and the options
pub record WordFormValue : Type 0 where
  pub plain : List (List ℕ)
  pub options : List NamedOption

-- what follows `--NAME=` in a word that begins so
abbrev pub value_in : List ℕ → List ℕ → Option (List ℕ)
value_in name word = after (codes "--" ++ (name ++ codes "=")) word

-- a word is `--NAME`
abbrev pub is_flag : List ℕ → List ℕ → Bool
is_flag name word = bytes_eq word (codes "--" ++ name)

-- the text that says that a flag stands
abbrev pub flag_said : Bool → Option (List ℕ)
flag_said stands = if stands then Some (codes "true") else None

-- what a word says of an option: its value, or that it stands
abbrev pub said_by : OptionKind → List ℕ → List ℕ → Option (List ℕ)
said_by Needed name word = value_in name word
said_by Allowed name word = value_in name word
said_by Flag name word = flag_said (is_flag name word)

abbrev pub said_in : NamedOption → List ℕ → Option (List ℕ)
said_in option word = said_by option.kind option.name word

-- a word says something of an option, and no empty value
abbrev pub is_use : List ℕ → NamedOption → Bool
is_use word option = option_map_or (λ said. not (length said == 0)) (said_in option word) false

-- the plain words among some, in their order
abbrev pub plain_words : List (List ℕ) → List (List ℕ)
plain_words words = filter is_plain words

-- the plain word at a place among them
abbrev pub plain_at : ℕ → List (List ℕ) → Option (List ℕ)
plain_at place words = slice_get (plain_words words) place

-- what follows `--NAME=` in the first word that begins so
abbrev pub value_of : List ℕ → List (List ℕ) → Option (List ℕ)
value_of name [] = None
value_of name (word ∷ words) = option_or (value_in name word) (value_of name words)

-- one of the words is `--NAME`
abbrev pub has_flag : List ℕ → List (List ℕ) → Bool
has_flag name words = list_any (is_flag name) words

-- a plain word, or an option of the form
abbrev pub is_word : WordFormValue → List ℕ → Bool
is_word form word = is_plain word || list_any (is_use word) form.options

-- how many of the words say something of an option
abbrev pub use_count : NamedOption → List (List ℕ) → ℕ
use_count option words = length (filter (λ word. is_some (said_in option word)) words)

-- the option stands at most once, and not never where it has to stand
abbrev pub fits_option : List (List ℕ) → NamedOption → Bool
fits_option words option =
    nat_le (use_count option words) 1
    && (not (is_needed option.kind) || nat_le 1 (use_count option words))

-- words are of a form: each is one of it, as many are plain as it has, and each option of it stands
-- as it has to
unfoldable pub is_of_form : WordFormValue → List (List ℕ) → Bool
is_of_form form words =
    list_all (is_word form) words && ((length (plain_words words) == length form.plain) &&
    list_all (fits_option words) form.options)

-- ---- what words of a form give

-- what the first of the words says that says something of an option
abbrev pub said_kind : OptionKind → List ℕ → List (List ℕ) → Option (List ℕ)
said_kind Needed name words = value_of name words
said_kind Allowed name words = value_of name words
said_kind Flag name words = flag_said (has_flag name words)

abbrev pub said_of : List (List ℕ) → NamedOption → Option (List ℕ)
said_of words option = said_kind option.kind option.name words

-- the option of a name
abbrev pub option_named : WordFormValue → List ℕ → Option NamedOption
option_named form name = find (λ option. bytes_eq option.name name) form.options

-- the plain word at a place, and what is said of an option
pub record Given : Type 0 where
  pub plain : ℕ → Option (List ℕ)
  pub said : List ℕ → Option (List ℕ)

-- what words of a form give: nothing that it doesn't know
abbrev pub given_by : WordFormValue → List (List ℕ) → Given
given_by form words = record {
  plain = λ place. plain_at place words;
  said = λ name. option_and_then (said_of words) (option_named form name);
}
