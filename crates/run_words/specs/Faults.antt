-- The word at fault, where words ask for nothing, and what words give that are right.
use Rattle.std.specs.Prelude.{ℕ, Bool, false, not, ◌==◌, ◌&&◌, ◌||◌, nat_lt, List, [], ◌∷◌, drop, length, slice_get, Option, Some, None, codes, bytes_eq, is_none, is_some, option_map, option_and_then, if◌then◌else◌}
use Rattle.std.specs.List.{before_first, find}
use Rattle.std.specs.Option.{option_map_or, option_or}
use Rattle.run_words.specs.Actions.{is_actions_text}
use Rattle.run_words.specs.Choices.{are_stems}
use Rattle.run_words.specs.Exports.{is_form_word}
use Rattle.run_words.specs.Forms.{Given, WordFormValue, NamedOption, given_by, is_needed, is_of_form, is_word, option_named, plain_at, plain_words, said_of, use_count}
use Rattle.run_words.specs.Helps.{command_word}
use Rattle.run_words.specs.Numbers.{count_of, number_of}
use Rattle.run_words.specs.Runs.{date_at}
use Rattle.run_words.specs.Tables.{form_of}
use Rattle.run_words.specs.UserNames.{user_of}
use Rattle.run_words.specs.Words.{after, is_hex, is_plain}
use Rattle.run_words.specs.Forms.{OptionKind, Needed, Allowed, Flag}
use Rattle.run_words.specs.declared.fault.FaultKind.{FaultKind}
use Rattle.run_words.specs.declared.fault.FaultKind.TheVariants.{UnknownCommand, UnknownOption, NoValue, ExtraValue, Twice, Extra, Missing, TooFew, BadOption, BadWord}
use Rattle.run_words.specs.declared.topic.CommandWord.{CommandWord}
use Rattle.run_words.specs.declared.topic.CommandWord.TheVariants.{Make, Packet}

-- a word, or the name of an option or a flag, and what is wrong with it
pub record Fault : Type 0 where
  pub kind : FaultKind
  pub word : List ℕ

abbrev pub fault_in : FaultKind → List ℕ → Fault
fault_in kind word = record { kind = kind; word = word }

-- ---- words that are none of the form

abbrev pub is_equals : ℕ → Bool
is_equals byte = byte == 61

-- the name that a word gives to an option or a flag: what stands between `--` and the first `=`
abbrev pub name_in : List ℕ → List ℕ
name_in word = option_map_or (before_first is_equals) (after (codes "--") word) []

-- what is wrong with an option that stands so: it lacks its value, or it is a flag and has one
abbrev pub misspelt : OptionKind → FaultKind
misspelt Needed = NoValue
misspelt Allowed = NoValue
misspelt Flag = ExtraValue

abbrev pub misspelt_or_unknown : Option NamedOption → FaultKind
misspelt_or_unknown None = UnknownOption
misspelt_or_unknown (Some option) = misspelt option.kind

-- what is wrong with a word that is none of the form
abbrev pub strange_kind : WordFormValue → List ℕ → FaultKind
strange_kind form word = misspelt_or_unknown (option_named form (name_in word))

-- a word is none of the form, and not empty
abbrev pub is_strange : WordFormValue → List ℕ → Bool
is_strange form word = not (is_word form word) && not (length word == 0)

-- the first such word
abbrev pub strange_word : WordFormValue → List (List ℕ) → Option Fault
strange_word form words =
    option_map (λ word. fault_in (strange_kind form word) word) (find (is_strange form) words)

-- ---- options

-- the value of an option of this name means nothing, at the date now
abbrev pub is_bad_value : Option ℕ → List ℕ → List ℕ → Bool
is_bad_value now name value =
    if bytes_eq name (codes "date") then is_none (date_at now value)
    else (if bytes_eq name (codes "actions") then not (is_actions_text value)
    else (if bytes_eq name (codes "only") then not (are_stems value)
    else (if bytes_eq name (codes "as") then not (is_form_word value)
    else (if bytes_eq name (codes "user") then is_none (user_of value) else false))))

-- an option has this fault, at the date now: it stands more than once, or it has to stand and
-- doesn't, or its value means nothing
abbrev pub is_faulty : FaultKind → Option ℕ → List (List ℕ) → NamedOption → Bool
is_faulty Twice now words option = nat_lt 1 (use_count option words)
is_faulty Missing now words option = is_needed option.kind && (use_count option words == 0)
is_faulty BadOption now words option =
    option_map_or (is_bad_value now option.name) (said_of words option) false
is_faulty _ now words option = false

-- the first option of the form with this fault
abbrev pub option_fault : FaultKind → Option ℕ → WordFormValue → List (List ℕ) → Option Fault
option_fault kind now form words =
    option_map (λ option. fault_in kind option.name)
    (find (is_faulty kind now words) form.options)

-- ---- words that are right

-- what is given, where there is no fault
abbrev pub given_unless : Option Fault → Given → Option Given
given_unless None given = Some given
given_unless (Some fault) given = None

-- what the words behind the first give, where they are of this form and each value means something,
-- at the date now
unfoldable pub right_given : Option ℕ → WordFormValue → List (List ℕ) → Option Given
right_given now form words =
    if is_of_form form (drop 1 words)
    then given_unless (option_fault BadOption now form (drop 1 words))
    (given_by form (drop 1 words)) else None

-- ---- plain words that don't stand as they have to

-- the first plain word behind those of the form
abbrev pub extra_word : WordFormValue → List (List ℕ) → Option Fault
extra_word form words = option_map (fault_in Extra) (plain_at (length form.plain) words)

-- the command, where fewer plain words stand behind it than its form has
abbrev pub few_words : WordFormValue → List ℕ → List (List ℕ) → Option Fault
few_words form command words =
    if nat_lt (length (plain_words words)) (length form.plain) then Some (fault_in TooFew command)
    else None

-- how words are not of a form: a word that is none of it, or what stands more than once, or a plain
-- word too many, or an option that is missing, or too few plain words
abbrev pub form_fault : WordFormValue → List ℕ → List (List ℕ) → Option Fault
form_fault form command words =
    option_or (strange_word form words)
    (option_or (option_fault Twice None form words)
    (option_or (extra_word form words)
    (option_or (option_fault Missing None form words) (few_words form command words))))

-- the plain word at a place behind a command means nothing: no hexadecimal, no seed, or no count
abbrev pub is_bad_word : CommandWord → ℕ → List ℕ → Bool
is_bad_word Packet place word = not (is_hex word)
is_bad_word Make place word =
    if place == 0 then is_none (number_of word) else is_none (count_of word)
is_bad_word _ place word = false

-- the plain word at a place, where it means nothing
abbrev pub bad_word_at : CommandWord → ℕ → List (List ℕ) → Option Fault
bad_word_at command place words =
    option_and_then
    (λ word. if is_bad_word command place word then Some (fault_in BadWord word) else None)
    (plain_at place words)

-- the first of two plain words that means nothing
abbrev pub bad_word : CommandWord → List (List ℕ) → Option Fault
bad_word command words = option_or (bad_word_at command 0 words) (bad_word_at command 1 words)

-- ---- the first fault

-- the word at fault behind a command: by the form of its words, or in a value
abbrev pub command_fault : Option ℕ → CommandWord → List ℕ → List (List ℕ) → Option Fault
command_fault now known command words =
    option_or (form_fault (form_of known words) command words)
    (option_or (option_fault BadOption now (form_of known words) words) (bad_word known words))

-- the first word where none is to stand
abbrev pub word_too_many : List (List ℕ) → Option Fault
word_too_many words = option_map (fault_in Extra) (slice_get words 0)

-- a word that names no command; an empty one can't be told
abbrev pub unknown_word : List ℕ → Option Fault
unknown_word word =
    if length word == 0 then None
    else (if is_plain word then Some (fault_in UnknownCommand word)
    else Some (fault_in UnknownOption word))

-- the word at fault behind `help`: one that names no command, or one behind it
abbrev pub help_fault : List (List ℕ) → Option Fault
help_fault [] = None
help_fault (word ∷ words) =
    if is_some (command_word word) || bytes_eq word (codes "--help") || bytes_eq word (codes "help")
    then word_too_many words
    else unknown_word word

-- the word at fault behind a first word that names no command
abbrev pub first_fault : List ℕ → List (List ℕ) → Option Fault
first_fault word words =
    if bytes_eq word (codes "help") then help_fault words
    else (if bytes_eq word (codes "--help") || bytes_eq word (codes "-h") then word_too_many words
    else (if bytes_eq word (codes "--version") || bytes_eq word (codes "-V") then word_too_many words
    else unknown_word word))

-- the word at fault where its command is known or not
abbrev pub fault_behind : Option ℕ → Option CommandWord → List ℕ → List (List ℕ) → Option Fault
fault_behind now (Some known) first words = command_fault now known first words
fault_behind now None first words = first_fault first words

-- the word at fault in words that ask for nothing, at the date now, where it can be named
unfoldable pub fault_of : Option ℕ → List (List ℕ) → Option Fault
fault_of now [] = None
fault_of now (first ∷ words) = fault_behind now (command_word first) first words
