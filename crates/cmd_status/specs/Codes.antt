-- The exit status of the program.
use Rattle.std.specs.Prelude.{ℕ}
use Rattle.cmd_status.specs.declared.status.Status.{Status}
use Rattle.cmd_status.specs.declared.status.Status.TheVariants.{Done, Usage, BadWord, BadScript, TooLong, BadFile, TooMany, HandheldFolder, DesktopFolder, SourceRead}
use Rattle.cmd_status.specs.declared.status.Status.TheVariants.{TraceWrite, OutWrite, NoMemory, LineDown, Unplugged, Aborted, Undetected, OtherUser}
use Rattle.cmd_status.specs.declared.status.Status.TheVariants.{TooManyUsers, Limit, NewHandheld, WrongSide, InUse, CannotExport, BadRecord, BadText, Overfull, BadTrace, NotProper, BadCategories, CannotInstall, NotBackupFolder, SameDatabase}
use Rattle.cmd_status.specs.declared.status.Status.TheVariants.{StreamEnded, StreamAborted, BadHello, Refused, BadReply}
use Rattle.cmd_status.specs.declared.status.Status.TheVariants.{PortFailed, NoHandheld, LineSilent, LineEndless, PeerAborted, PeerBeganAnew}

-- the exit status for each status of a call
abbrev pub code_of : Status → ℕ
code_of Done = 0
code_of Usage = 2
code_of (BadWord _ _ _) = 2
code_of (BadScript _) = 3
code_of TooLong = 3
code_of (BadFile _ _ _ _) = 3
code_of (CannotExport _ _) = 3
code_of (BadRecord _ _) = 3
code_of (BadText _ _) = 3
code_of (Overfull _) = 3
code_of (BadTrace _) = 3
code_of (NotProper _) = 1
code_of (BadCategories _) = 3
code_of (TooMany _) = 3
code_of HandheldFolder = 4
code_of DesktopFolder = 4
code_of (InUse _) = 4
code_of SourceRead = 4
code_of TraceWrite = 4
code_of OutWrite = 4
code_of NoMemory = 5
code_of (LineDown _) = 6
code_of (Unplugged _) = 6
code_of (Aborted _) = 6
code_of (Undetected _) = 6
code_of (OtherUser _ _) = 7
code_of TooManyUsers = 7
code_of (Limit _) = 7
code_of (NewHandheld _) = 7
code_of (WrongSide _) = 7
code_of (CannotInstall _) = 7
code_of NotBackupFolder = 7
code_of (SameDatabase _ _) = 7
code_of StreamEnded = 6
code_of StreamAborted = 6
code_of BadHello = 6
code_of PortFailed = 4
code_of NoHandheld = 6
code_of LineSilent = 6
code_of LineEndless = 6
code_of PeerAborted = 6
code_of PeerBeganAnew = 6
code_of (Refused _ _) = 6
code_of (BadReply _) = 6
