-- What a status says of the session that it stands for.
use Rattle.std.specs.Prelude.{◌≡◌, ◌⊎◌, ⊤, ℕ, List, [], Option, None, Some}
use Rattle.desktop_session.specs.declared.fault.SessionFault.{SessionFault}
use Rattle.desktop_session.specs.declared.fault.SessionFault.TheVariants as session
use Rattle.line_world.specs.declared.down.Down.{Down}
use Rattle.line_world.specs.declared.down.Down.TheVariants as down
use Rattle.session_parts.specs.declared.stop.Stop.{Stop}
use Rattle.session_parts.specs.declared.stop.Stop.TheVariants as stop
use Rattle.call_parts.specs.declared.report.SessionEnd.{SessionEnd}
use Rattle.call_parts.specs.declared.report.SessionEnd.TheVariants.{NotStarted, Ended, Stopped}
use Rattle.cmd_status.specs.declared.status.Status.{Status}
use Rattle.cmd_status.specs.declared.status.Status.TheVariants.{Done, Usage, BadWord, BadScript, TooLong, BadFile, TooMany, HandheldFolder, DesktopFolder, SourceRead}
use Rattle.cmd_status.specs.declared.status.Status.TheVariants.{TraceWrite, OutWrite, NoMemory, LineDown, Unplugged, Aborted, Undetected, OtherUser}
use Rattle.cmd_status.specs.declared.status.Status.TheVariants.{TooManyUsers, Limit, NewHandheld, WrongSide, InUse, CannotExport, BadRecord, BadText, Overfull, BadTrace, NotProper, BadCategories, CannotInstall, NotBackupFolder, SameDatabase}
use Rattle.cmd_status.specs.declared.status.Status.TheVariants.{StreamEnded, StreamAborted, BadHello, Refused, BadReply}
use Rattle.cmd_status.specs.declared.status.Status.TheVariants.{PortFailed, NoHandheld, LineSilent, LineEndless, PeerAborted, PeerBeganAnew}

-- ---- the status of a session

-- of one whose line is down
abbrev pub down_status : Option Down → Status
down_status (Some (down.LineDown end numbers)) = LineDown end
down_status (Some (down.Unplugged number)) = Unplugged number
down_status (Some (down.Aborted number)) = Aborted number
down_status (Some (down.Undetected number)) = Undetected number
down_status (Some down.Keeper) = HandheldFolder
down_status None = NoMemory

-- of one that stopped for what a call of it answered
abbrev pub fault_status : Option Down → SessionFault → Status
fault_status cause session.Down = down_status cause
fault_status cause (session.OtherUser handheld desktop) = OtherUser handheld desktop
fault_status cause session.TooManyUsers = TooManyUsers
fault_status cause (session.Refused function code) = Refused function code
fault_status cause (session.BadReply function broken) = BadReply function
fault_status cause session.NoMemory = NoMemory

-- of one that stopped
abbrev pub stop_status : Option Down → Stop → Status
stop_status cause (stop.Session fault) = fault_status cause fault
stop_status cause (stop.Limit name) = Limit name
stop_status cause (stop.NewHandheld name) = NewHandheld name
stop_status cause stop.DeskFault = DesktopFolder

-- the frames that a cause names
abbrev pub numbers_in : Option Down → List ℕ
numbers_in (Some (down.LineDown end numbers)) = numbers
numbers_in other = []

-- those that a report names beside a status
abbrev pub numbers_by : Status → Option Down → List ℕ
numbers_by (LineDown end) cause = numbers_in cause
numbers_by other cause = []

-- ---- what a status says

-- how far the session came; where memory ran out it may have ended
abbrev pub EndsAs : Status → SessionEnd → Type 0
EndsAs Done end = end ≡ Ended
EndsAs TraceWrite end = end ≡ Ended
EndsAs OutWrite end = end ≡ Ended
EndsAs NoMemory end = ⊤
EndsAs Usage end = ⊥
EndsAs (BadWord _ _ _) end = ⊥
EndsAs (BadScript _) end = ⊥
EndsAs TooLong end = ⊥
EndsAs (BadFile _ _ _ _) end = ⊥
EndsAs (TooMany _) end = ⊥
EndsAs (WrongSide _) end = ⊥
EndsAs (InUse _) end = ⊥
EndsAs SourceRead end = ⊥
EndsAs (CannotExport _ _) end = ⊥
EndsAs (BadRecord _ _) end = ⊥
EndsAs (BadText _ _) end = ⊥
EndsAs (Overfull _) end = ⊥
EndsAs (BadTrace _) end = ⊥
EndsAs (NotProper _) end = ⊥
EndsAs (BadCategories _) end = ⊥
EndsAs (CannotInstall _) end = ⊥
EndsAs NotBackupFolder end = ⊥
EndsAs (SameDatabase _ _) end = ⊥
EndsAs StreamEnded end = ⊥
EndsAs StreamAborted end = ⊥
EndsAs BadHello end = ⊥
EndsAs PortFailed end = ⊥
EndsAs NoHandheld end = ⊥
EndsAs LineSilent end = ⊥
EndsAs LineEndless end = ⊥
EndsAs PeerAborted end = ⊥
EndsAs PeerBeganAnew end = ⊥
EndsAs (Refused _ _) end = ⊥
EndsAs (BadReply _) end = ⊥
EndsAs other end = end ≡ Stopped

-- why the line is down, with the frames that the report names
abbrev pub cause_in : Status → List ℕ → Option Down
cause_in (LineDown end) faulted = Some (down.LineDown end faulted)
cause_in (Unplugged number) faulted = Some (down.Unplugged number)
cause_in (Aborted number) faulted = Some (down.Aborted number)
cause_in (Undetected number) faulted = Some (down.Undetected number)
cause_in HandheldFolder faulted = Some down.Keeper
cause_in other faulted = None

abbrev pub IsLineDown : Status → Type 0
IsLineDown (LineDown end) = ⊤
IsLineDown other = ⊥

-- the line is down, or the handheld's folder failed
abbrev pub IsFallen : Status → Type 0
IsFallen (LineDown end) = ⊤
IsFallen (Unplugged number) = ⊤
IsFallen (Aborted number) = ⊤
IsFallen (Undetected number) = ⊤
IsFallen HandheldFolder = ⊤
IsFallen other = ⊥

-- the line went down, the handheld's folder failed, or memory ran out
abbrev pub IsCutShort : Status → Type 0
IsCutShort (LineDown end) = ⊤
IsCutShort (Unplugged number) = ⊤
IsCutShort (Aborted number) = ⊤
IsCutShort (Undetected number) = ⊤
IsCutShort HandheldFolder = ⊤
IsCutShort NoMemory = ⊤
IsCutShort other = ⊥

-- neither the trace nor standard output is blamed yet
abbrev pub IsUnsaid : Status → Type 0
IsUnsaid TraceWrite = ⊥
IsUnsaid OutWrite = ⊥
IsUnsaid other = ⊤

-- the status once the trace was to be written: it stands, unless memory ran out or a session that
-- ended could not be told
abbrev pub IsTracedStatus : Status → Status → Type 0
IsTracedStatus status traced =
    (traced ≡ status) ⊎ (traced ≡ NoMemory) ⊎ ((status ≡ Done) × (traced ≡ TraceWrite))

-- by how far a session came: nothing was sent, or it began
abbrev pub ByEnd : SessionEnd → Type 0 → Type 0 → Type 0
ByEnd NotStarted Not Began = Not
ByEnd Ended Not Began = Began
ByEnd Stopped Not Began = Began

abbrev pub HasBegun : SessionEnd → Type 0
HasBegun end = ByEnd end ⊥ ⊤

-- the status of a run whose trace failed: a stop stands
abbrev pub untold : Status → Status
untold Done = TraceWrite
untold other = other
