-- What the status of a session says of it, and which status a session has that both sides refuse.
use Rattle.std.proofs.lemmas.Grind.{common_steps}
use Rattle.std.proofs.Common.{arith, ◌≡◌, ◌∙◌, ◌⊎◌, ap, refl, sym, subst, inl, inr, ℕ, List}
use Rattle.std.specs.Prelude.{Option, Some, None, IfErr, IfSome, IsOk, Result, Ok, Err, map, replicate}
use Rattle.std.specs.Global.{Vec}
use Rattle.hs_folders.specs.FileMaps.{FileMap}
use Rattle.hs_folders.specs.Moments.{Moments}
use Rattle.dlp_commands.specs.declared.link.LinkFault.{LinkFault}
use Rattle.desktop_session.specs.Acts.{Act, text}
use Rattle.desktop_session.specs.Greetings.{user_with}
use Rattle.desktop_session.specs.declared.fault.SessionFault.{SessionFault}
use Rattle.desktop_session.specs.declared.fault.SessionFault.TheVariants as session_fault
use Rattle.desk_store.specs.Shelves.{marks_of}
use Rattle.pdb_values.specs.declared.slot.Slot.{Slot}
use Rattle.pdb_values.specs.declared.slot.Slot.TheVariants.{Full}
use Rattle.pdb_values.specs.declared.user.Marks.{Marks}
use Rattle.pdb_values.specs.declared.user.UserInfo.{UserInfo}
use Rattle.desktop_session.specs.Stops.{Does}
use Rattle.line_world.specs.declared.down.Down.{Down}
use Rattle.line_world.specs.Worlds.{WorldValue, world_talk}
use Rattle.sync_session.proofs.IdsLaws.{text-before_commit}
use Rattle.session_plan.specs.Limits.{first_over}
use Rattle.session_plan.specs.Losses.{first_loss}
use Rattle.sync_session.specs.Outcomes.{IsOtherUser, IsStopOf, StopsAtLimit, StopsAtLoss, StopsFor, seat_of, slot_in}
use Rattle.sync_session.specs.Sessions.{adds_of}
use Rattle.session_plan.specs.Tasks.{Meeting}
use Rattle.session_parts.specs.declared.report.DbReport.{DbReport}
use Rattle.session_parts.specs.declared.stop.Stop.{Stop}
use Rattle.session_parts.specs.declared.stop.Stop.TheVariants as stop
use Rattle.call_parts.specs.Causes.{IsCutShort, down_status, fault_status, stop_status}
use Rattle.cmd_session.specs.Ends.{IsToldRefusal, StatusShows, status_refused}
use Rattle.call_parts.specs.LineRuns.{SaidAll}
use Rattle.call_parts.specs.Closings.{left_status}
use Rattle.call_parts.specs.Told.{FolderTold}
use Rattle.call_parts.specs.declared.report.Report.{Report}
use Rattle.cmd_status.specs.declared.status.Status.{Status}
use Rattle.cmd_status.specs.declared.status.Status.TheVariants.{Limit, NewHandheld, NoMemory}
use Rattle.call_parts.proofs.EndLaws.{logged_all}
use Rattle.cmd_session.proofs.LeftLaws.{EndsOver}
use Rattle.call_parts.proofs.SaidLaws.{Tells, down_cut}
use Rattle.call_parts.proofs.SpokeLaws.{IsUnrefusedEnd, IsUnrefusedStop}

-- ---- the cause of a stop

down_shows : (meeting : Meeting) (report : Report) (cause : Option Down) → StatusShows meeting report (down_status cause)
down_shows meeting report cause = grind (arith, common_steps)

-- these acts were answered, and nothing else went out
pub said_all : {F : Type 0} {acts : List Act} {old new : WorldValue F} {palm_after : FolderTold} {report : Report} → Tells old new palm_after report
    → Does (λ (world : WorldValue F). Some (world_talk world)) acts old new → SaidAll (map text acts) report
said_all tells does = grind (arith, logged_all tells.silent tells.is_log does)

module _ (meeting : Meeting) {palm_after : FolderTold} {report : Report} (cause : Option Down) where
  stop_shows : {F : Type 0} (fault : WorldValue F → Option LinkFault) {old new : WorldValue F} (why : Stop) → Tells old new palm_after report
      → IsStopOf (λ (world : WorldValue F). Some (world_talk world)) fault meeting old new why → StatusShows meeting report (stop_status cause why)
  stop_shows fault (stop.Session session_fault.Down) tells is = down_shows meeting report cause
  stop_shows fault (stop.Session (session_fault.Refused function code)) tells is = tt
  stop_shows fault (stop.Session (session_fault.BadReply function broken)) tells is = tt
  stop_shows fault (stop.Session (session_fault.OtherUser handheld desktop)) tells is = (is.0, said_all tells is.1)
  stop_shows fault (stop.Session session_fault.TooManyUsers) tells is = (is.0, said_all tells is.1)
  stop_shows fault (stop.Session session_fault.NoMemory) tells is = tt
  stop_shows fault (stop.Limit name) tells is = (is.first, said_all tells is.does)
  stop_shows fault (stop.NewHandheld name) tells is = (is.within, is.first, said_all tells is.does)
  stop_shows fault stop.DeskFault tells is =
      grind (
        arith,
        text-before_commit meeting is.given (replicate (adds_of meeting) 0),
        said_all tells is.does,
      )

  pub status_shows : {F : Type 0} (contents : F → Option FileMap) (moments : F → Moments) (paths : F → Option (List (List ℕ))) (faults : F → ℕ)
      (fault : WorldValue F → Option LinkFault) (downs : WorldValue F → ℕ) {old new : WorldValue F} (desk desk_after : FolderTold)
      (answer : Result (Vec DbReport) Stop) {status : Status}
      → Tells old new palm_after report → (status ≡ left_status cause answer) ⊎ (status ≡ NoMemory)
      → EndsOver contents moments paths faults fault downs meeting old new desk desk_after answer → StatusShows meeting report status
  status_shows contents moments paths faults fault downs desk desk_after answer tells (inr memory) ends =
      subst (λ (s : Status). StatusShows meeting report s) (sym memory) tt
  status_shows contents moments paths faults fault downs desk desk_after (Ok made) tells (inl is) ends =
      subst (λ (s : Status). StatusShows meeting report s) (sym is) tt
  status_shows contents moments paths faults fault downs desk desk_after (Err why) tells (inl is) ends =
      grind (arith, stop_shows fault why tells ends.cause)

-- ---- a session that both sides refuse

-- the status of a user without a slot, whatever the line's cause is
pub unseated_status : (marks : List Marks) (user : UserInfo) (found : Slot) (cause : Option Down) {why : SessionFault} → user_with marks user found ≡ Err why
    → fault_status cause why ≡ fault_status None why
unseated_status marks user found cause is = grind (arith, common_steps)

other_unseated : (meeting : Meeting) (handheld desktop : ℕ) → IsOtherUser meeting handheld desktop → IsOk (seat_of meeting) → ⊥
other_unseated meeting handheld desktop other seated = grind (arith, common_steps)

full_unseated : (meeting : Meeting) → slot_in meeting ≡ Full → IsOk (seat_of meeting) → ⊥
full_unseated meeting full seated = grind (arith, common_steps)

module _ (meeting : Meeting) (cause : Option Down) {status : Status} where
  unseated_told : (answer : Result (Vec DbReport) Stop) {why : SessionFault} → (status ≡ left_status cause answer) ⊎ (status ≡ NoMemory)
      → seat_of meeting ≡ Err why → StopsFor (stop.Session why) answer → (status ≡ fault_status None why) ⊎ IsCutShort status
  unseated_told answer (inr memory) unseated stops = inr (subst IsCutShort (sym memory) tt)
  unseated_told (Ok made) (inl is) unseated stops = absurd stops
  unseated_told (Err stopped) (inl is) unseated stops =
      grind (arith, unseated_status (marks_of meeting.slots) meeting.device.user (slot_in meeting) cause unseated, down_cut cause)

  -- where the user has a slot, a call of the session stops it for the line, the handheld's folder or memory alone
  session_cut : {F : Type 0} (fault : WorldValue F → Option LinkFault) (old new : WorldValue F) (why : SessionFault)
      → IsUnrefusedStop (stop.Session why) → status ≡ fault_status cause why → IsOk (seat_of meeting)
      → IsStopOf (λ (world : WorldValue F). Some (world_talk world)) fault meeting old new (stop.Session why) → IsCutShort status
  session_cut fault old new session_fault.Down never is seated why = subst IsCutShort (sym is) (down_cut cause)
  session_cut fault old new (session_fault.Refused function code) never is seated why = absurd never
  session_cut fault old new (session_fault.BadReply function broken) never is seated why = absurd never
  session_cut fault old new (session_fault.OtherUser handheld desktop) never is seated why = absurd (other_unseated meeting handheld desktop why.0 seated)
  session_cut fault old new session_fault.TooManyUsers never is seated why = absurd (full_unseated meeting why.0 seated)
  session_cut fault old new session_fault.NoMemory never is seated why = subst IsCutShort (sym is) tt

  limit_told : {F : Type 0} (fault : WorldValue F → Option LinkFault) (old new : WorldValue F) (answer : Result (Vec DbReport) Stop) (name : List ℕ)
      → IsUnrefusedEnd answer → (status ≡ left_status cause answer) ⊎ (status ≡ NoMemory) → IsOk (seat_of meeting)
      → IfErr answer (IsStopOf (λ (world : WorldValue F). Some (world_talk world)) fault meeting old new) → StopsAtLimit name answer
      → (status ≡ Limit name) ⊎ IsCutShort status
  limit_told fault old new answer name never (inr memory) seated why stops = inr (subst IsCutShort (sym memory) tt)
  limit_told fault old new (Ok made) name never (inl is) seated why stops = absurd stops
  limit_told fault old new (Err (stop.Session cut)) name never (inl is) seated why stops = inr (session_cut fault old new cut never is seated why)
  limit_told fault old new (Err (stop.Limit other)) name never (inl is) seated why stops = inl (is ∙ ap Limit stops)
  limit_told fault old new (Err (stop.NewHandheld other)) name never (inl is) seated why stops = absurd stops
  limit_told fault old new (Err stop.DeskFault) name never (inl is) seated why stops = absurd stops

  loss_told : {F : Type 0} (fault : WorldValue F → Option LinkFault) (old new : WorldValue F) (answer : Result (Vec DbReport) Stop) (name : List ℕ)
      → IsUnrefusedEnd answer → (status ≡ left_status cause answer) ⊎ (status ≡ NoMemory) → IsOk (seat_of meeting)
      → IfErr answer (IsStopOf (λ (world : WorldValue F). Some (world_talk world)) fault meeting old new) → StopsAtLoss name answer
      → (status ≡ NewHandheld name) ⊎ IsCutShort status
  loss_told fault old new answer name never (inr memory) seated why stops = inr (subst IsCutShort (sym memory) tt)
  loss_told fault old new (Ok made) name never (inl is) seated why stops = absurd stops
  loss_told fault old new (Err (stop.Session cut)) name never (inl is) seated why stops = inr (session_cut fault old new cut never is seated why)
  loss_told fault old new (Err (stop.Limit other)) name never (inl is) seated why stops = absurd stops
  loss_told fault old new (Err (stop.NewHandheld other)) name never (inl is) seated why stops = inl (is ∙ ap NewHandheld stops)
  loss_told fault old new (Err stop.DeskFault) name never (inl is) seated why stops = absurd stops

  pub refusal_told : {F : Type 0} (contents : F → Option FileMap) (moments : F → Moments) (paths : F → Option (List (List ℕ))) (faults : F → ℕ)
      (fault : WorldValue F → Option LinkFault) (downs : WorldValue F → ℕ) (old new : WorldValue F) (desk desk_after : FolderTold)
      (answer : Result (Vec DbReport) Stop) → IsUnrefusedEnd answer → (status ≡ left_status cause answer) ⊎ (status ≡ NoMemory)
      → EndsOver contents moments paths faults fault downs meeting old new desk desk_after answer → IsToldRefusal meeting status
  refusal_told contents moments paths faults fault downs old new desk desk_after answer never is ends =
      step (seat_of meeting) (first_over meeting) (first_loss meeting)
      (λ why unseated. unseated_told answer is unseated (ends.unseated why unseated).1)
      (λ seated name first. limit_told fault old new answer name never is seated ends.cause (ends.limit name first))
      (λ seated name none first. loss_told fault old new answer name never is seated ends.cause (ends.loss name none first)) refl refl refl
    where
      step : (seat : Result UserInfo SessionFault) (over loss : Option (List ℕ))
          → ((why : SessionFault) → seat_of meeting ≡ Err why → (status ≡ fault_status None why) ⊎ IsCutShort status)
          → (IsOk (seat_of meeting) → (name : List ℕ) → first_over meeting ≡ Some name → (status ≡ Limit name) ⊎ IsCutShort status)
          → (IsOk (seat_of meeting) → (name : List ℕ) → first_over meeting ≡ None → first_loss meeting ≡ Some name
          → (status ≡ NewHandheld name) ⊎ IsCutShort status)
          → seat_of meeting ≡ seat → first_over meeting ≡ over → first_loss meeting ≡ loss
          → IfSome (status_refused seat over loss) (λ refused. (status ≡ refused) ⊎ IsCutShort status)
      step (Err why) over loss unseated limit costs here there then = unseated why here
      step (Ok user) None None unseated limit costs here there then = tt
      step (Ok user) None (Some name) unseated limit costs here there then = costs (subst IsOk (sym here) refl) name there then
      step (Ok user) (Some name) loss unseated limit costs here there then = limit (subst IsOk (sym here) refl) name there
