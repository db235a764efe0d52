-- What is said beside a word at fault: what it is not, or what stands in its place.
use Rattle.std.specs.Prelude.{ℕ, ◌==◌, ◌||◌, List, [], Option, None, Some, codes, bytes_eq, length, if◌then◌else◌}
use Rattle.run_words.specs.declared.fault.FaultKind.{FaultKind}
use Rattle.run_words.specs.declared.fault.FaultKind.TheVariants as fault
use Rattle.run_words.specs.declared.topic.CommandWord.{CommandWord}
use Rattle.run_words.specs.declared.topic.CommandWord.TheVariants.{Run, Check, Show, Export, Import, Verify, Picture, Packet, Install, Backup, Restore, Device, Categories, Sync, Make}

-- the forms that a command knows
abbrev pub known_forms : Option CommandWord → List ℕ
known_forms (Some Import) = codes ": import takes txt alone"
known_forms command = codes ": one of txt, vcf, csv, ics"

-- behind `bad --NAME`: what the value of this option is not
abbrev pub value_reason : Option CommandWord → List ℕ → List ℕ
value_reason command name =
    if bytes_eq name (codes "date")
    then codes ": not YYYY-MM-DDTHH:MM:SS from 1904 to 2040, nor now"
    else (if bytes_eq name (codes "as") then known_forms command
    else (if bytes_eq name (codes "actions")
    then codes ": not STEM:WORD,STEM:WORD.. with WORD one of sync, both, handheld, desktop, nothing"
    else (if bytes_eq name (codes "only")
    then codes ": not STEM,STEM.., the names of files without .pdb"
    else (if bytes_eq name (codes "user")
    then codes ": not 1 to 40 characters that a handheld has" else []))))

-- behind `missing --date`: who wants it, and how it is written
abbrev pub date_wish : Option CommandWord → List ℕ
date_wish (Some Export) = codes ": --as=ics wants it, so write --date=now"
date_wish command = codes ": write --date=now"

-- behind `missing --NAME`: what stands in its place
abbrev pub missing_reason : Option CommandWord → List ℕ → List ℕ
missing_reason command name =
    if bytes_eq name (codes "date") then date_wish command
    else (if bytes_eq name (codes "as") then known_forms command
    else (if bytes_eq name (codes "in") || bytes_eq name (codes "out")
    then codes ": write --in=F and --out=F, or --port=PORT" else []))

-- behind `bad word WORD`: what the words of this command are
abbrev pub plain_wish : Option CommandWord → List ℕ
plain_wish (Some Packet) = codes ": not pairs of the digits 0 to 9 and a to f"
plain_wish (Some Make) = codes ": not a seed below 2^64, or a count from 1 to 5000"
plain_wish command = []

abbrev pub plain_reason : Option CommandWord → List ℕ → List ℕ
plain_reason command word =
    if length word == 0 then codes "that is empty" else plain_wish command

-- a shell makes two words of a name with a space
abbrev pub quotes_wish : List ℕ
quotes_wish = codes ": a name with a space in it wants quotes"

-- behind `unexpected word WORD`: why none is to stand there
abbrev pub extra_reason : Option CommandWord → List ℕ → List ℕ
extra_reason (Some Packet) word = codes ": the digits stand in one word"
extra_reason (Some Make) word = []
extra_reason (Some Export) word =
    if bytes_eq word (codes "--date") then codes ": it stands beside --as=ics alone"
    else quotes_wish
extra_reason (Some command) word = quotes_wish
extra_reason None word = []

-- behind `too few words behind COMMAND`: the words that stand there
abbrev pub few_reason : Option CommandWord → List ℕ
few_reason None = []
few_reason (Some Run) = codes ": HANDHELD or --port=PORT, and DESKTOP"
few_reason (Some Check) = codes ": FILE"
few_reason (Some Show) = codes ": FILE"
few_reason (Some Export) = codes ": FILE"
few_reason (Some Import) = codes ": FILE"
few_reason (Some Verify) = codes ": FILE"
few_reason (Some Picture) = codes ": FILE"
few_reason (Some Packet) = codes ": HEX"
few_reason (Some Install) = codes ": HANDHELD and FILE"
few_reason (Some Backup) = codes ": HANDHELD or --port=PORT, and FOLDER"
few_reason (Some Restore) = codes ": HANDHELD and FOLDER"
few_reason (Some Device) = codes ": HANDHELD"
few_reason (Some Categories) = codes ": HANDHELD and DESKTOP"
few_reason (Some Sync) = codes ": PORT and DESKTOP"
few_reason (Some Make) = codes ": SEED and N"

-- what stands behind a word with this fault, which is a word or the name of an option
abbrev pub reason : Option CommandWord → FaultKind → List ℕ → List ℕ
reason command fault.NoValue word = codes ": its value stands behind ="
reason command fault.ExtraValue word = codes ": it has no value"
reason command fault.Twice name = codes ": leave one of both away"
reason command fault.TooFew word = few_reason command
reason command fault.Extra word = extra_reason command word
reason command fault.Missing name = missing_reason command name
reason command fault.BadOption name = value_reason command name
reason command fault.BadWord word = plain_reason command word
reason command kind word = []
