-- The commands: their names, and what each does.
use Rattle.std.specs.Prelude.{ℕ, List, [], ◌∷◌, ◌++◌, codes}
use Rattle.run_words.specs.declared.topic.CommandWord.{CommandWord}
use Rattle.run_words.specs.declared.topic.CommandWord.TheVariants.{Run, Check, Show, Export, Import, Verify, Picture, Packet, Install, Backup, Restore, Device, Categories, Sync, Make}

-- the commands, in the order in which help tells them
abbrev pub commands : List CommandWord
commands =
    Run ∷ Check ∷ Show ∷ Export ∷ Import ∷ Verify ∷ Picture ∷ Packet
    ∷ Install ∷ Backup ∷ Restore ∷ Device ∷ Categories ∷ Sync ∷ Make ∷ []

-- the word that names it
abbrev pub command_name : CommandWord → List ℕ
command_name Run = codes "run"
command_name Check = codes "check"
command_name Show = codes "show"
command_name Export = codes "export"
command_name Import = codes "import"
command_name Verify = codes "verify"
command_name Picture = codes "picture"
command_name Packet = codes "packet"
command_name Install = codes "install"
command_name Backup = codes "backup"
command_name Restore = codes "restore"
command_name Device = codes "device"
command_name Categories = codes "categories"
command_name Sync = codes "sync"
command_name Make = codes "make"

-- what it does, in a sentence
abbrev pub summary : CommandWord → List ℕ
summary Run = codes "brings a handheld's folder and a desktop's together"
summary Check = codes "says whether the file of a database is whole"
summary Show = codes "says what a database holds"
summary Export = codes "prints what the records of a database say"
summary Import = codes "makes a database of a text of memos"
summary Verify = codes "says whether a trace keeps each rule of the line"
summary Picture = codes "makes a page of a trace, for a browser"
summary Packet = codes "shows the packets in hexadecimal bytes"
summary Install = codes "puts one file onto a handheld"
summary Backup = codes "copies each database of a handheld into a folder"
summary Restore = codes "puts the databases of a folder onto a handheld"
summary Device = codes "is the handheld's end, over captured bytes or at a port"
summary Categories = codes "brings the categories of both sides together"
summary Sync = codes "synchronises the handheld at a port"
summary Make = codes "synchronises two folders that it makes in memory"

-- its line in the list of commands
unfoldable pub command_row : CommandWord → List ℕ
command_row command =
    codes "  " ++ (command_name command ++ (codes ": " ++ (summary command ++ (10 ∷ []))))
