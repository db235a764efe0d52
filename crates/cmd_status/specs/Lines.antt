-- The lines that a call prints.
use Rattle.std.specs.Prelude.{ℕ, List, [], ◌∷◌, ◌++◌, codes, string_bytes, Option}
use Rattle.std.specs.Fmt.{decimal}
use Rattle.std.specs.Int.{to_be_bytes, w32}
use Rattle.std.specs.declared.alloc.Global.{Global}
use Rattle.hex.specs.Hex.{encode_lower}
use Rattle.pdb_values.specs.Stems.{stem_of}
use Rattle.pdb_files.specs.BadKinds.{word_of}
use Rattle.pdb_files.specs.declared.bad_kind.BadKind.{BadKind}
use Rattle.run_words.specs.declared.fault.FaultKind.{FaultKind}
use Rattle.run_words.specs.declared.fault.FaultKind.TheVariants as fault
use Rattle.run_words.specs.declared.look.ExportForm.{ExportForm}
use Rattle.run_words.specs.declared.look.ExportForm.TheVariants.{Text, Cards, Table, Calendar}
use Rattle.cmd_status.specs.FlawLines.{flaw_line}
use Rattle.cmd_status.specs.PrintedNames.{printed_name}
use Rattle.cmd_status.specs.declared.status.FileSide.{FileSide}
use Rattle.cmd_status.specs.declared.status.FileSide.TheVariants.{Handheld, Desktop, Source}
use Rattle.cmd_status.specs.declared.status.Surplus.{Surplus}
use Rattle.cmd_status.specs.declared.status.Surplus.TheVariants as surplus
use Rattle.cmd_status.specs.declared.status.Status.{Status}
use Rattle.cmd_status.specs.declared.status.Status.TheVariants.{Done, Usage, BadWord, BadScript, TooLong, BadFile, TooMany, HandheldFolder, DesktopFolder, SourceRead}
use Rattle.cmd_status.specs.declared.status.Status.TheVariants.{TraceWrite, OutWrite, NoMemory, LineDown, Unplugged, Aborted, Undetected, OtherUser}
use Rattle.cmd_status.specs.declared.status.Status.TheVariants.{TooManyUsers, Limit, NewHandheld, WrongSide, InUse, CannotExport, BadRecord, BadText, Overfull, BadTrace, NotProper, BadCategories, CannotInstall, NotBackupFolder, SameDatabase}
use Rattle.cmd_status.specs.declared.status.Status.TheVariants.{StreamEnded, StreamAborted, BadHello, Refused, BadReply}
use Rattle.cmd_status.specs.declared.status.Status.TheVariants.{PortFailed, NoHandheld, LineSilent, LineEndless, PeerAborted, PeerBeganAnew}
use Rattle.cmd_status.specs.Reasons.{reason}
use Rattle.cmd_status.specs.Usages.{usage_lines, usage_of, way_on}
use Rattle.run_words.specs.declared.topic.CommandWord.{CommandWord}
use Rattle.trace_check.specs.declared.rule.Rule.{Rule}
use Rattle.trace_check.specs.declared.rule.Rule.TheVariants as rule
use Rattle.trace_text.specs.declared.frame.End.{End}
use Rattle.trace_text.specs.declared.frame.End.TheVariants as end

-- the byte that ends a line
abbrev pub line_feed : List ℕ
line_feed = 10 ∷ []

-- what is wrong with the word that stands behind it
abbrev pub fault_words : FaultKind → List ℕ
fault_words fault.UnknownCommand = codes "unknown command "
fault_words fault.UnknownOption = codes "unknown option "
fault_words fault.NoValue = codes "missing value "
fault_words fault.ExtraValue = codes "unexpected value "
fault_words fault.Twice = codes "twice --"
fault_words fault.Extra = codes "unexpected word "
fault_words fault.Missing = codes "missing --"
fault_words fault.TooFew = codes "too few words behind "
fault_words fault.BadOption = codes "bad --"
fault_words fault.BadWord = codes "bad word "

-- how a command is called, then the word at fault with the reason beside it, and where more is said
unfoldable pub fault_lines : Option CommandWord → FaultKind → List ℕ → List ℕ
fault_lines command kind word =
    usage_of command
    ++ (fault_words kind
    ++ (printed_name word ++ (reason command kind word ++ (line_feed ++ way_on command))))

abbrev pub no_memory_line : List ℕ
no_memory_line = codes "no memory" ++ line_feed

abbrev pub ended_line : List ℕ
ended_line = codes "ended" ++ line_feed

-- the word of the side that a bad file lies on
abbrev pub side_word : FileSide → List ℕ
side_word Handheld = codes "handheld"
side_word Desktop = codes "desktop"
side_word Source = codes "source"

-- `bad file SIDE NAME KIND PLACE`, with the name as it is printed
unfoldable pub bad_file_line : FileSide → List ℕ → BadKind → ℕ → List ℕ
bad_file_line side name kind place =
    codes "bad file " ++ side_word side ++ codes " " ++ printed_name name ++ codes " "
    ++ word_of kind ++ (codes " " ++ (decimal place ++ line_feed))

-- the word of an end of the line
abbrev pub end_word : End → List ℕ
end_word end.Handheld = codes "handheld"
end_word end.Desktop = codes "desktop"

-- the word that stands for the folder of an end where a run is called
abbrev pub folder_word : End → List ℕ
folder_word end.Handheld = codes "HANDHELD"
folder_word end.Desktop = codes "DESKTOP"

-- a user in eight digits of lower-case hexadecimal
abbrev pub user_text : ℕ → List ℕ
user_text user = encode_lower (to_be_bytes w32 user)

-- a line of words and a number
unfoldable pub number_line : List ℕ → ℕ → List ℕ
number_line words number = words ++ (decimal number ++ line_feed)

-- a line of words and another word
unfoldable pub word_line : List ℕ → List ℕ → List ℕ
word_line words word = words ++ word ++ line_feed

-- `other user HANDHELD DESKTOP`
unfoldable pub users_line : ℕ → ℕ → List ℕ
users_line handheld desktop =
    codes "other user " ++ user_text handheld ++ codes " " ++ user_text desktop ++ line_feed

-- the word of a form
abbrev pub form_word : ExportForm → List ℕ
form_word Text = codes "txt"
form_word Cards = codes "vcf"
form_word Table = codes "csv"
form_word (Calendar made) = codes "ics"

-- `cannot export STEM as FORM`
unfoldable pub export_line : List ℕ → ExportForm → List ℕ
export_line name form =
    codes "cannot export " ++ stem_of name ++ codes " as " ++ form_word form ++ line_feed

-- `bad record K PLACE`
unfoldable pub record_line : ℕ → ℕ → List ℕ
record_line index place =
    codes "bad record " ++ (decimal index ++ (codes " " ++ (decimal place ++ line_feed)))

-- `same database FILE and FILE`
unfoldable pub same_line : List ℕ → List ℕ → List ℕ
same_line first second =
    codes "same database "
    ++ (printed_name first ++ (codes " and " ++ (printed_name second ++ line_feed)))

-- a function, in hexadecimal
abbrev pub function_text : ℕ → List ℕ
function_text function = encode_lower (function ∷ [])

-- `handheld refused HH error N`
unfoldable pub refused_line : ℕ → ℕ → List ℕ
refused_line function code =
    codes "handheld refused "
    ++ (function_text function ++ (codes " error " ++ (decimal code ++ line_feed)))

-- `bad reply HH`
unfoldable pub bad_reply_line : ℕ → List ℕ
bad_reply_line function = codes "bad reply " ++ (function_text function ++ line_feed)

-- what a text has too many of
abbrev pub surplus_word : Surplus → List ℕ
surplus_word surplus.Categories = codes "categories"
surplus_word surplus.Records = codes "records"

-- the letter of a rule
abbrev pub rule_word : Rule → List ℕ
rule_word rule.A = codes "a"
rule_word rule.B = codes "b"
rule_word rule.C = codes "c"
rule_word rule.D = codes "d"
rule_word rule.E = codes "e"
rule_word rule.F = codes "f"
rule_word rule.G = codes "g"

-- the line of each refusal; a sink that failed gets none
abbrev pub refusal_line : Status → List ℕ
refusal_line Done = ended_line
refusal_line Usage = usage_lines
refusal_line (BadWord command kind word) =
    fault_lines command kind (string_bytes {Z = Global} word)
refusal_line (BadScript line) = number_line (codes "bad script line ") line
refusal_line TooLong = codes "source too long" ++ line_feed
refusal_line (BadFile side name kind place) =
    bad_file_line side (string_bytes {Z = Global} name) kind place
refusal_line (CannotExport name form) = export_line name form
refusal_line (BadRecord index place) = record_line index place
refusal_line (BadText line flaw) = flaw_line line flaw
refusal_line (Overfull what) = word_line (codes "too many ") (surplus_word what)
refusal_line (BadTrace line) = number_line (codes "bad trace line ") line
refusal_line (NotProper rule) = word_line (codes "not proper ") (rule_word rule)
refusal_line (TooMany end) = word_line (codes "too many databases ") (end_word end)
refusal_line (WrongSide end) = word_line (codes "wrong side ") (folder_word end)
refusal_line HandheldFolder = codes "handheld folder failed" ++ line_feed
refusal_line DesktopFolder = codes "desktop folder failed" ++ line_feed
refusal_line (InUse end) = word_line (end_word end) (codes " folder in use")
refusal_line SourceRead = codes "source read failed" ++ line_feed
refusal_line TraceWrite = codes "trace write failed" ++ line_feed
refusal_line OutWrite = []
refusal_line NoMemory = no_memory_line
refusal_line (LineDown end) = word_line (codes "line down ") (end_word end)
refusal_line (Unplugged number) = number_line (codes "unplugged ") number
refusal_line (Aborted number) = number_line (codes "aborted ") number
refusal_line (Undetected number) = number_line (codes "undetected ") number
refusal_line (OtherUser handheld desktop) = users_line handheld desktop
refusal_line TooManyUsers = codes "too many users" ++ line_feed
refusal_line (Limit name) = word_line (codes "limit ") (stem_of name)
refusal_line (NewHandheld name) = word_line (codes "new handheld ") (stem_of name)
refusal_line (BadCategories name) = word_line (codes "bad categories ") (stem_of name)
refusal_line (CannotInstall name) = word_line (codes "cannot install ") (stem_of name)
refusal_line NotBackupFolder = codes "not a backup folder" ++ line_feed
refusal_line (SameDatabase first second) =
    same_line (string_bytes {Z = Global} first) (string_bytes {Z = Global} second)
refusal_line StreamEnded = codes "stream ended" ++ line_feed
refusal_line StreamAborted = codes "stream aborted" ++ line_feed
refusal_line BadHello = codes "bad hello" ++ line_feed
refusal_line PortFailed = codes "port failed" ++ line_feed
refusal_line NoHandheld = codes "no handheld" ++ line_feed
refusal_line LineSilent = codes "line silent" ++ line_feed
refusal_line LineEndless = codes "line endless" ++ line_feed
refusal_line PeerAborted = codes "handheld aborted" ++ line_feed
refusal_line PeerBeganAnew = codes "handheld began anew" ++ line_feed
refusal_line (Refused function code) = refused_line function code.0
refusal_line (BadReply function) = bad_reply_line function
