-- What a session asks in parts that every session has, by the replies so far.
use Rattle.std.specs.Prelude.{ℕ, List, [], ◌∷◌, ◌++◌, Result, Ok, Err}
use Rattle.pdb_values.specs.declared.head.DbHead.{DbHead}
use Rattle.pdb_values.specs.declared.user.Marks.{Marks}
use Rattle.pdb_values.specs.declared.user.UserInfo.{UserInfo}
use Rattle.desktop_session.specs.declared.ending.Halted.{Halted}
use Rattle.desktop_session.specs.declared.fault.SessionFault.{SessionFault}
use Rattle.desktop_session.specs.declared.seat.UserWish.{UserWish}
use Rattle.desktop_session.specs.Asking.{closes}
use Rattle.desktop_session.specs.Greeted.{greets, lists_all}
use Rattle.desktop_session.specs.Inquiries.{Ends, Inquiry, ◌>>=◌}
use Rattle.session_parts.specs.declared.meeting.Met.{Met}

-- both sides meet: the user, and the heads of the databases
abbrev pub meets : List Marks → UserWish → Inquiry (UserInfo × List DbHead)
meets marks wish = do
  user ← greets marks wish
  heads ← lists_all
  Ends (Ok (user, heads))

-- what a session that met learned, or why it stopped
abbrev pub met_of : {L : Type 0} → Result (Met L) (Halted L)
    → Result (UserInfo × List DbHead) SessionFault
met_of (Ok met) = Ok (met.linked.user, met.heads.items)
met_of (Err halted) = Err halted.cause

-- under the handle that an opening tells, until it is closed
abbrev pub under : {A : Type 0} → Inquiry ℕ → (ℕ → Inquiry A) → Inquiry A
under opening inner = do
  handle ← opening
  answer ← inner handle
  closed ← closes handle
  Ends (Ok answer)

-- for each of several, one after the other; the answers, behind these
unfoldable pub each : {J A : Type 0} → (J → Inquiry A) → List A → List J → Inquiry (List A)
each ask answers [] = Ends (Ok answers)
each ask answers (job ∷ jobs) = do
  answer ← ask job
  each ask (answers ++ answer ∷ []) jobs
