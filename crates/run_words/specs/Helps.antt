-- Which command a first word names, and which words ask for help, and of what.
use Rattle.std.specs.Prelude.{ℕ, Bool, false, ◌&&◌, ◌||◌, List, [], ◌∷◌, drop, Option, Some, None, codes, bytes_eq, is_some, slice_get, option_map, option_and_then, if◌then◌else◌}
use Rattle.std.specs.Option.{option_map_or}
use Rattle.run_words.specs.Forms.{has_flag, value_of}
use Rattle.run_words.specs.declared.topic.CommandWord.{CommandWord}
use Rattle.run_words.specs.declared.topic.CommandWord.TheVariants.{Run, Check, Show, Export, Import, Verify, Picture, Packet, Install, Backup, Restore, Device, Categories, Sync, Make}
use Rattle.run_words.specs.declared.topic.Topic.{Topic}
use Rattle.run_words.specs.declared.topic.Topic.TheVariants.{Program, Version, Of}

-- the command that a word names
abbrev pub command_word : List ℕ → Option CommandWord
command_word word =
    if bytes_eq word (codes "run") then Some Run
    else (if bytes_eq word (codes "check") then Some Check
    else (if bytes_eq word (codes "show") then Some Show
    else (if bytes_eq word (codes "export") then Some Export
    else (if bytes_eq word (codes "import") then Some Import
    else (if bytes_eq word (codes "verify") then Some Verify
    else (if bytes_eq word (codes "picture") then Some Picture
    else (if bytes_eq word (codes "packet") then Some Packet
    else (if bytes_eq word (codes "install") then Some Install
    else (if bytes_eq word (codes "backup") then Some Backup
    else (if bytes_eq word (codes "restore") then Some Restore
    else (if bytes_eq word (codes "device") then Some Device
    else (if bytes_eq word (codes "categories") then Some Categories
    else (if bytes_eq word (codes "sync") then Some Sync
    else (if bytes_eq word (codes "make") then Some Make else None))))))))))))))

-- the command that the first of some words names
abbrev pub command_named : List (List ℕ) → Option CommandWord
command_named words = option_and_then command_word (slice_get words 0)

-- the first word is this
abbrev pub begins : List ℕ → List (List ℕ) → Bool
begins word words = option_map_or (λ first. bytes_eq first word) (slice_get words 0) false

-- the first word is this, and one behind it begins with `--port=`
abbrev pub names_port : List ℕ → List (List ℕ) → Bool
names_port word words =
    begins word words && is_some (value_of (codes "port") (drop 1 words))

-- the help of the command that a word names
abbrev pub help_with : List ℕ → Option Topic
help_with word = option_map Of (command_word word)

-- this help, where no word stands behind the one that asks for it
abbrev pub alone : Topic → List (List ℕ) → Option Topic
alone topic [] = Some topic
alone topic (word ∷ words) = None

-- the help that the words behind `help` ask for: that of the program, or of the command that the
-- one word names
abbrev pub help_behind : List (List ℕ) → Option Topic
help_behind [] = Some Program
help_behind (word ∷ []) =
    if bytes_eq word (codes "--help") || bytes_eq word (codes "help") then Some Program
    else help_with word
help_behind (word ∷ other ∷ words) = None

-- the help of the command that a word names, where `--help` stands among the words behind it
abbrev pub flagged_help : List ℕ → List (List ℕ) → Option Topic
flagged_help command words = if has_flag (codes "help") words then help_with command else None

-- the help that a first word and those behind it ask for
abbrev pub help_by : List ℕ → List (List ℕ) → Option Topic
help_by first words =
    if bytes_eq first (codes "--version") || bytes_eq first (codes "-V") then alone Version words
    else (if bytes_eq first (codes "--help") || bytes_eq first (codes "-h") then alone Program words
    else (if bytes_eq first (codes "help") then help_behind words
    else flagged_help first words))

-- the help that words ask for
unfoldable pub help_of : List (List ℕ) → Option Topic
help_of [] = None
help_of (first ∷ words) = help_by first words
