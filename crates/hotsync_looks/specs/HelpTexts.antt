-- The text of help.
use Rattle.std.specs.Prelude.{ℕ, List, [], ◌∷◌, ◌++◌, codes}
use Rattle.std.specs.List.{flat_map}
use Rattle.run_words.specs.declared.topic.CommandWord.{CommandWord}
use Rattle.run_words.specs.declared.topic.CommandWord.TheVariants.{Run, Check, Show, Export, Import, Verify, Picture, Packet, Install, Backup, Restore, Device, Categories, Sync, Make}
use Rattle.run_words.specs.declared.topic.Topic.{Topic}
use Rattle.run_words.specs.declared.topic.Topic.TheVariants.{Program, Version, Of}
use Rattle.cmd_status.specs.Commands.{commands, summary}
use Rattle.cmd_status.specs.Lines.{line_feed}
use Rattle.cmd_status.specs.Usages.{synopsis}
use Rattle.hotsync_looks.specs.declared.help_text.OptionLine.{OptionLine}
use Rattle.hotsync_looks.specs.declared.help_text.OptionLine.TheVariants.{Date, DateNow, Script, Trace, Input, Output, Port, Slow, Actions, ActionsBoth, Only, User, AddUser, DryRun, AsText, AsCards, AsTable, AsCalendar, WithoutPrivate, KeepBroken, Raw, Records, Like}

-- the options of a command
abbrev pub options : CommandWord → List OptionLine
options Run =
    Port ∷ Date ∷ DateNow ∷ Script ∷ Trace ∷ Only ∷ Slow ∷ Actions ∷ ActionsBoth ∷ User
    ∷ AddUser ∷ DryRun ∷ []
options Check = []
options Show = Records ∷ []
options Export =
    AsText ∷ AsCards ∷ AsTable ∷ AsCalendar ∷ WithoutPrivate ∷ KeepBroken ∷ Raw ∷ []
options Import = AsText ∷ Like ∷ []
options Verify = []
options Picture = []
options Packet = []
options Install = Trace ∷ []
options Backup = Port ∷ Script ∷ Trace ∷ []
options Restore = Script ∷ Trace ∷ []
options Device = Input ∷ Output ∷ Port ∷ Trace ∷ []
options Categories = Script ∷ Trace ∷ []
options Sync = Date ∷ DateNow ∷ Only ∷ Trace ∷ Slow ∷ Actions ∷ ActionsBoth ∷ User ∷ AddUser ∷ []
options Make = []

-- what is said of an option
abbrev pub option_words : OptionLine → List ℕ
option_words Date =
    codes "--date=D           the date of the session, YYYY-MM-DDTHH:MM:SS from 1904 "
    ++ codes "to 2040"
option_words DateNow = codes "--date=now         the date of the system's clock in UTC"
option_words Script = codes "--script=F         what the line does to each frame, from the file F"
option_words Trace =
    codes "--trace=F          writes each frame that went over the line to the file F"
option_words Input = codes "--in=F             the bytes that a handheld hears, from the file F"
option_words Output = codes "--out=F            the file F for the bytes that it says"
option_words Port = codes "--port=PORT        the port with the other end behind it"
option_words Slow = codes "--slow             reads every record of the handheld"
option_words Actions =
    codes "--actions=L        what is done with single databases, as "
    ++ codes "STEM:WORD,STEM:WORD.. with WORD one of sync, both, handheld, desktop, "
    ++ codes "nothing"
option_words ActionsBoth =
    codes "--actions=*:both   keeps what is live on either side, as if they had never met"
option_words Only =
    codes "--only=L           the databases that are touched, as STEM,STEM.., the "
    ++ codes "names of their files without .pdb"
option_words User =
    codes "--user=NAME        the name of the handheld's user, of 1 to 40 characters"
option_words AddUser =
    codes "--add-user         where the handheld's user is unknown to the desktop, a place of its "
    ++ codes "own is made"
option_words DryRun =
    codes "--dry-run          prints what the run would print, and changes nothing in either folder"
option_words AsText = codes "--as=txt           the memos as text in UTF-8"
option_words AsCards = codes "--as=vcf           addresses as vCards"
option_words AsTable = codes "--as=csv           addresses or tasks as a table"
option_words AsCalendar = codes "--as=ics --date=D  tasks or dates as an iCalendar object"
option_words WithoutPrivate = codes "--without-private  without the records that are private"
option_words KeepBroken =
    codes "--keep-broken      a record that is out of its form stands in the text with its bytes"
option_words Raw = codes "--raw              the fields of a table as they are, formulas too"
option_words Records = codes "--records          the bytes of each entry as text, behind its line"
option_words Like = codes "--like=FILE        the categories of the database in FILE"

-- a line behind two spaces
abbrev pub indented : List ℕ → List ℕ
indented line = codes "  " ++ line ++ line_feed

-- the lines of a command, where help tells all of them
unfoldable pub command_lines : CommandWord → List ℕ
command_lines command = indented (synopsis command) ++ (codes "    " ++ indented (summary command))

-- the line of an option
abbrev pub option_line : OptionLine → List ℕ
option_line option = indented (option_words option)

-- how it is called, for example
abbrev pub first_example : CommandWord → List ℕ
first_example Run = codes "hotsync run handheld desktop --date=now"
first_example Check = codes "hotsync check MemoDB.pdb"
first_example Show = codes "hotsync show MemoDB.pdb"
first_example Export = codes "hotsync export MemoDB.pdb --as=txt >memos.txt"
first_example Import = codes "hotsync import memos.txt --as=txt >new.pdb"
first_example Verify = codes "hotsync verify trace.txt"
first_example Picture = codes "hotsync picture trace.txt >trace.html"
first_example Packet = codes "hotsync packet beefed030302000401a702c00002ce11"
first_example Install = codes "hotsync install handheld Chess.prc"
first_example Backup = codes "hotsync backup handheld backup"
first_example Restore = codes "hotsync restore handheld backup"
first_example Device = codes "hotsync device handheld --in=sent --out=answer"
first_example Categories = codes "hotsync categories handheld desktop"
first_example Sync = codes "hotsync-port /dev/ttyUSB0 sync desktop --date=now"
first_example Make = codes "hotsync make 7 1500"

-- and in another way
abbrev pub second_example : CommandWord → List ℕ
second_example Run = codes "hotsync run handheld desktop --date=now --dry-run"
second_example Check = codes "hotsync check handheld/MemoDB.pdb"
second_example Show = codes "hotsync show MemoDB.pdb --records"
second_example Export = codes "hotsync export DatebookDB.pdb --as=ics --date=now >dates.ics"
second_example Import = codes "hotsync import memos.txt --as=txt --like=MemoDB.pdb >new.pdb"
second_example Verify =
    codes "hotsync run handheld desktop --date=now --trace=new.txt && hotsync verify "
    ++ codes "new.txt"
second_example Picture =
    codes "hotsync run handheld desktop --date=now --trace=new.txt && hotsync picture "
    ++ codes "new.txt >new.html"
second_example Packet = codes "hotsync packet $(head -c 4096 sent | od -An -v -tx1 | tr -cd 0-9a-f)"
second_example Install = codes "hotsync install handheld MemoDB.pdb --trace=new.txt"
second_example Backup = codes "hotsync-port /dev/ttyUSB0 backup backup"
second_example Restore = codes "hotsync backup handheld backup && hotsync restore other backup"
second_example Device = codes "hotsync-port /dev/ttyUSB0 device handheld"
second_example Categories =
    codes "hotsync categories handheld desktop && hotsync run handheld desktop "
    ++ codes "--date=now"
second_example Sync = codes "hotsync-port /dev/ttyUSB0 sync desktop --date=now --only=MemoDB,ToDoDB"
second_example Make = codes "hotsync make 1 10"

-- both, behind a line of their own
unfoldable pub examples_text : CommandWord → List ℕ
examples_text command =
    codes "examples:\n" ++ (indented (first_example command) ++ indented (second_example command))

-- how the program is called
unfoldable pub program_help : List ℕ
program_help =
    codes "usage:\n" ++ flat_map command_lines commands
    ++ codes "  hotsync help [COMMAND]\n" ++ codes "  hotsync --version\n"

-- how a command is called, what it does, its options, and examples
unfoldable pub command_help : CommandWord → List ℕ
command_help command =
    codes "usage: " ++ synopsis command ++ line_feed ++ (summary command ++ line_feed)
    ++ (flat_map option_line (options command) ++ examples_text command)

-- the text of a topic
abbrev pub help_text : Topic → List ℕ
help_text Program = program_help
help_text Version = codes "hotsync 0.9.0\n"
help_text (Of command) = command_help command
