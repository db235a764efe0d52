-- Why a session stops where a commit is refused.
use Rattle.desk_store.specs.declared.fault.CommitFault.{CommitFault}
use Rattle.desk_store.specs.declared.fault.CommitFault.TheVariants as commit
use Rattle.desktop_session.specs.declared.fault.SessionFault.TheVariants as session
use Rattle.session_parts.specs.declared.stop.Stop.{Stop}
use Rattle.session_parts.specs.declared.stop.Stop.TheVariants as stop

-- a refused commit
abbrev pub stop_of : CommitFault → Stop
stop_of commit.DeskFault = stop.DeskFault
stop_of commit.NoMemory = stop.Session session.NoMemory
