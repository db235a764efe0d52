-- What a status says of words that ask for nothing.
use Rattle.std.specs.Prelude.{◌≡◌, ◌⊎◌, ⊤, Option, None, Some, string_bytes}
use Rattle.std.specs.declared.alloc.Global.{Global}
use Rattle.run_words.specs.Faults.{Fault}
use Rattle.run_words.specs.declared.topic.CommandWord.{CommandWord}
use Rattle.cmd_status.specs.declared.status.Status.{Status}
use Rattle.cmd_status.specs.declared.status.Status.TheVariants.{Usage, BadWord, NoMemory}

-- the words ask for nothing
abbrev pub IsMisuse : Status → Type 0
IsMisuse Usage = ⊤
IsMisuse (BadWord command kind word) = ⊤
IsMisuse _ = ⊥

-- a status that names this word, and this command
abbrev pub NamesFault : Option CommandWord → Fault → Status → Type 0
NamesFault command fault (BadWord named kind word) =
    (named ≡ command) × (kind ≡ fault.kind) × (string_bytes {Z = Global} word ≡ fault.word)
NamesFault command fault _ = ⊥

-- it names the command and the word at fault, where there is one, unless memory ran out
abbrev pub TellsFault : Option CommandWord → Option Fault → Status → Type 0
TellsFault command None status = (status ≡ Usage) ⊎ (status ≡ NoMemory)
TellsFault command (Some fault) status = NamesFault command fault status ⊎ (status ≡ NoMemory)
