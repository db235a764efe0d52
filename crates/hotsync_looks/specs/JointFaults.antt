-- The word at fault, also where each word is right by itself and some don't stand together.
use Rattle.std.specs.Prelude.{ℕ, Bool, false, ◌==◌, List, [], ◌∷◌, Option, None, Some, codes, bytes_eq, is_none, length, if◌then◌else◌}
use Rattle.std.specs.List.{list_any}
use Rattle.std.specs.Option.{option_map_or, option_or}
use Rattle.run_words.specs.Faults.{Fault, fault_in, fault_of}
use Rattle.run_words.specs.Forms.{given_by}
use Rattle.run_words.specs.Helps.{command_word}
use Rattle.run_words.specs.Tables.{form_behind}
use Rattle.run_words.specs.declared.fault.FaultKind.TheVariants.{BadOption, BadWord, Extra, Missing}
use Rattle.run_words.specs.declared.topic.CommandWord.{CommandWord}
use Rattle.run_words.specs.declared.topic.CommandWord.TheVariants.{Export, Import}

-- what the words behind a command say of the option of this name
abbrev pub said_behind : CommandWord → List ℕ → List (List ℕ) → Option (List ℕ)
said_behind command name words = (given_by (form_behind command) words).said name

-- they name this form
abbrev pub names_form : CommandWord → List ℕ → List (List ℕ) → Bool
names_form command form words =
    option_map_or (λ said. bytes_eq said form) (said_behind command (codes "as") words) false

-- a calendar has a date, and no other form has one
abbrev pub export_fault : List (List ℕ) → Option Fault
export_fault words =
    if is_none (said_behind Export (codes "date") words)
    then (if names_form Export (codes "ics") words then Some (fault_in Missing (codes "date"))
    else None)
    else (if names_form Export (codes "ics") words then None
    else Some (fault_in Extra (codes "--date")))

-- a text of another form than that of memos is not read
abbrev pub import_fault : List (List ℕ) → Option Fault
import_fault words =
    if names_form Import (codes "txt") words then None
    else Some (fault_in BadOption (codes "as"))

-- one of the words is empty
abbrev pub has_empty : List (List ℕ) → Bool
has_empty words = list_any (λ word. length word == 0) words

abbrev pub empty_fault : List (List ℕ) → Option Fault
empty_fault words =
    if has_empty words then Some (fault_in BadWord []) else None

-- what is wrong with the words behind a command, none of which is at fault by itself
abbrev pub joint_fault : Option CommandWord → List (List ℕ) → Option Fault
joint_fault None words = None
joint_fault (Some Export) words = option_or (empty_fault words) (export_fault words)
joint_fault (Some Import) words = option_or (empty_fault words) (import_fault words)
joint_fault (Some command) words = empty_fault words

-- the word at fault in words that ask for nothing, at the date now, where it can be named
abbrev pub word_at_fault : Option ℕ → List (List ℕ) → Option Fault
word_at_fault now [] = None
word_at_fault now (first ∷ words) =
    option_or (fault_of now (first ∷ words)) (joint_fault (command_word first) words)
