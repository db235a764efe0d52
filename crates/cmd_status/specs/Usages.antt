-- How a command is called, where its words ask for nothing.
use Rattle.std.specs.Prelude.{ℕ, List, [], ◌∷◌, ◌++◌, Option, None, Some, codes}
use Rattle.std.specs.List.{flat_map}
use Rattle.cmd_status.specs.Commands.{command_name, command_row, commands}
use Rattle.run_words.specs.declared.topic.CommandWord.{CommandWord}
use Rattle.run_words.specs.declared.topic.CommandWord.TheVariants.{Run, Check, Show, Export, Import, Verify, Picture, Packet, Install, Backup, Restore, Device, Categories, Sync, Make}

-- how the program is called
abbrev pub usage_line : List ℕ
usage_line = codes "usage: hotsync run HANDHELD DESKTOP --date=D [--script=F] [--trace=F] "
    ++ codes "[--only=L] [--slow] [--actions=L] [--add-user]" ++ (10 ∷ [])

-- how a command is called
abbrev pub synopsis : CommandWord → List ℕ
synopsis Run =
    codes "hotsync run {HANDHELD [--script=F] [--dry-run] | --port=PORT} DESKTOP --date=D "
    ++ codes "[--trace=F] [--only=L] [--slow] [--actions=L] [--user=NAME] [--add-user]"
synopsis Check = codes "hotsync check FILE"
synopsis Show = codes "hotsync show FILE [--records]"
synopsis Export =
    codes "hotsync export FILE --as=FORM [--date=D] [--without-private] [--keep-broken] [--raw]"
synopsis Import = codes "hotsync import FILE --as=txt [--like=FILE]"
synopsis Verify = codes "hotsync verify FILE"
synopsis Picture = codes "hotsync picture FILE"
synopsis Packet = codes "hotsync packet HEX"
synopsis Install = codes "hotsync install HANDHELD FILE [--trace=F]"
synopsis Backup =
    codes "hotsync backup {HANDHELD [--script=F] | --port=PORT} FOLDER [--trace=F]"
synopsis Restore = codes "hotsync restore HANDHELD FOLDER [--script=F] [--trace=F]"
synopsis Device =
    codes "hotsync device HANDHELD {--in=F --out=F | --port=PORT [--trace=F]}"
synopsis Categories = codes "hotsync categories HANDHELD DESKTOP [--script=F] [--trace=F]"
synopsis Sync =
    codes "hotsync sync PORT DESKTOP --date=D [--only=L] [--trace=F] [--slow] [--actions=L] "
    ++ codes "[--user=NAME] [--add-user]"
synopsis Make = codes "hotsync make SEED N"

abbrev pub own_usage : CommandWord → List ℕ
own_usage command = codes "usage: " ++ (synopsis command ++ (10 ∷ []))

-- the line that says how a command is called; that of `run` is the program's, too
unfoldable pub usage_of : Option CommandWord → List ℕ
usage_of None = usage_line
usage_of (Some Run) = usage_line
usage_of (Some command) = own_usage command

-- the line that says where more is said of it
abbrev pub more_of : CommandWord → List ℕ
more_of command = codes "more: hotsync help " ++ (command_name command ++ (10 ∷ []))

unfoldable pub way_on : Option CommandWord → List ℕ
way_on None = codes "more: hotsync help\n"
way_on (Some command) = more_of command

-- how the program is called, where no word can be named: the line of `run`, and behind it the
-- commands
unfoldable pub usage_lines : List ℕ
usage_lines =
    usage_line ++ (codes "commands:\n" ++ (flat_map command_row commands
    ++ codes "more: hotsync help COMMAND\n"))
