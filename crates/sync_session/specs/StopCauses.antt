-- Why a session stops over any link, also over one that tells no handheld.
use Rattle.std.specs.Prelude.{◌≡◌, ◌≤◌, ℕ, Option, Some, None}
use Rattle.pdb_values.specs.Slots.{most_slots}
use Rattle.dlp_commands.specs.declared.link.LinkFault.{LinkFault}
use Rattle.dlp_commands.specs.declared.link.LinkFault.TheVariants.{Down}
use Rattle.desktop_session.specs.declared.fault.SessionFault.TheVariants as session
use Rattle.session_parts.specs.declared.stop.Stop.{Stop}
use Rattle.session_parts.specs.declared.stop.Stop.TheVariants as stop

-- By the link's fault, and the number of the desktop's slots: the link is down, or it has no fault
-- and a reply is an error or none, or the user is another one, or all slots are taken. A limit, what
-- the session would cost, and a folder that failed are no matter of the link; want of memory is
-- free.
abbrev pub IsStopBy : Option LinkFault → ℕ → Stop → Type 0
IsStopBy fault slots (stop.Session session.Down) = fault ≡ Some Down
IsStopBy fault slots (stop.Session (session.Refused function code)) = fault ≡ None
IsStopBy fault slots (stop.Session (session.BadReply function broken)) = fault ≡ None
IsStopBy fault slots (stop.Session (session.OtherUser handheld desktop)) = fault ≡ None
IsStopBy fault slots (stop.Session session.TooManyUsers) = (fault ≡ None) × (most_slots ≤ slots)
IsStopBy fault slots (stop.Session session.NoMemory) = Unit {0}
IsStopBy fault slots (stop.Limit name) = Unit {0}
IsStopBy fault slots (stop.NewHandheld name) = Unit {0}
IsStopBy fault slots stop.DeskFault = Unit {0}
