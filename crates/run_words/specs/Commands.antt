-- What words ask for, by the first of them.
use Rattle.std.specs.Prelude.{ℕ, List, Option, Some, None, codes, is_some, option_map, option_and_then, if◌then◌else◌}
use Rattle.std.specs.Option.{option_or}
use Rattle.run_words.specs.Betweens.{Between, between_in}
use Rattle.run_words.specs.Captures.{Capture, capture_in}
use Rattle.run_words.specs.Exports.{export_in, import_in}
use Rattle.run_words.specs.Faults.{right_given}
use Rattle.run_words.specs.Forms.{Given}
use Rattle.run_words.specs.Helps.{command_named, help_of}
use Rattle.run_words.specs.Numbers.{number_of, count_of}
use Rattle.run_words.specs.Runs.{Run, run_in}
use Rattle.run_words.specs.Tables.{form_behind}
use Rattle.run_words.specs.Words.{is_hex, bytes_of}
use Rattle.run_words.specs.declared.look.ImportForm.{ImportForm}
use Rattle.run_words.specs.declared.look.Look.{Look}
use Rattle.run_words.specs.declared.look.Look.TheVariants.{Check, Show, Records, Export, Import, Verify, Picture}
use Rattle.run_words.specs.declared.topic.CommandWord.{CommandWord}
use Rattle.run_words.specs.declared.topic.CommandWord.TheVariants as commands
use Rattle.run_words.specs.declared.topic.Topic.{Topic}

-- a run, a dry one, a look at a file, the packets in some bytes, a run over made folders, an
-- install of a file, a backup into a folder, a restore of one, a handheld over captured
-- bytes, categories that are brought together, or help
pub data WordTask : Type 0 where
  Sync : Run → WordTask
  DryRun : Run → WordTask
  LookAt : Look → List ℕ → WordTask
  Scan : List ℕ → WordTask
  Make : ℕ → ℕ → WordTask
  Install : Between → WordTask
  Backup : Between → WordTask
  Restore : Between → WordTask
  Emulate : Capture → WordTask
  Categories : Between → WordTask
  Help : Topic → WordTask

-- the run of these words: a dry one where they say so
abbrev pub sync_by : Given → Run → WordTask
sync_by given run = if is_some (given.said (codes "dry-run")) then DryRun run else Sync run

-- the run, or the dry one, that the words give, at the date now
abbrev pub sync_in : Option ℕ → Given → Option WordTask
sync_in now given = option_map (sync_by given) (run_in now given)

-- the look at the file that the words give
abbrev pub look_in : Look → Given → Option WordTask
look_in look given = option_map (LookAt look) (given.plain 0)

-- what is shown of a file, as the words say
abbrev pub show_look : Given → Look
show_look given = if is_some (given.said (codes "records")) then Records else Show

-- the form of the text of which the words want a database, where they name no other file
abbrev pub lone_import_in : Given → Option ImportForm
lone_import_in given =
    if is_some (given.said (codes "like")) then None else import_in given

-- the bytes of a word of hexadecimal
abbrev pub hex_bytes : List ℕ → Option (List ℕ)
hex_bytes hex = if is_hex hex then Some (bytes_of hex) else None

-- the bytes that the words give
abbrev pub packet_in : Given → Option (List ℕ)
packet_in given = option_and_then hex_bytes (given.plain 0)

-- the run over made folders that the words give
abbrev pub make_in : Given → Option WordTask
make_in given =
    option_and_then (λ seed. option_map (Make seed) (option_and_then count_of (given.plain 1)))
    (option_and_then number_of (given.plain 0))

-- What words of its form ask for behind a command, at the date now. A session over a cable has a
-- call of its own.
abbrev pub meaning : Option ℕ → CommandWord → Given → Option WordTask
meaning now commands.Run given = sync_in now given
meaning now commands.Check given = look_in Check given
meaning now commands.Show given = look_in (show_look given) given
meaning now commands.Export given =
    option_and_then (λ export. look_in (Export export) given) (export_in now given)
meaning now commands.Import given =
    option_and_then (λ form. look_in (Import form) given) (lone_import_in given)
meaning now commands.Verify given = look_in Verify given
meaning now commands.Picture given = look_in Picture given
meaning now commands.Packet given = option_map Scan (packet_in given)
meaning now commands.Install given = option_map Install (between_in given)
meaning now commands.Backup given = option_map Backup (between_in given)
meaning now commands.Restore given = option_map Restore (between_in given)
meaning now commands.Device given = option_map Emulate (capture_in given)
meaning now commands.Categories given = option_map Categories (between_in given)
meaning now commands.Sync given = None
meaning now commands.Make given = make_in given

-- what the words behind a command ask for, where they are right
abbrev pub task_behind : Option ℕ → List (List ℕ) → CommandWord → Option WordTask
task_behind now words command =
    option_and_then (meaning now command) (right_given now (form_behind command) words)

-- what these words ask for beside help, at the date now
unfoldable pub deed_of : Option ℕ → List (List ℕ) → Option WordTask
deed_of now words = option_and_then (task_behind now words) (command_named words)

-- what these words ask for, where the date now is this, if it can be told: words that ask for
-- nothing else may ask for help
unfoldable pub task_of : Option ℕ → List (List ℕ) → Option WordTask
task_of now words = option_or (deed_of now words) (option_map Help (help_of words))
