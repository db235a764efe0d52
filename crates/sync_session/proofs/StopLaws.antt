-- Why a session stops over any link, by how it went.
use Rattle.std.proofs.Common.{◌≡◌, ◌≤◌, refl, sym, subst, inl, inr, ℕ, Bool, true, false, List, length, arith, Option, None, Some, Result, Ok, Err}
use Rattle.std.specs.Prelude.{◌⊎◌, IfErr, if◌then◌else◌}
use Rattle.std.specs.Global.{Vec}
use Rattle.std.proofs.lemmas.Grind.{common_steps}
use Rattle.std.proofs.lemmas.List.{length-map}
use Rattle.std.proofs.lemmas.Bool.Decides.{nat_tests}
use Rattle.hs_folders.specs.FileMaps.{FileMap}
use Rattle.hs_folders.specs.Moments.{Moments}
use Rattle.pdb_values.specs.Slots.{most_slots, newcomer, slot_at}
use Rattle.pdb_values.specs.declared.slot.Slot.{Slot}
use Rattle.pdb_values.specs.declared.slot.Slot.TheVariants as slot
use Rattle.pdb_values.specs.declared.user.Marks.{Marks}
use Rattle.pdb_values.specs.declared.user.UserInfo.{UserInfo}
use Rattle.dlp_replies.specs.declared.fault.ReplyFault.{ReplyFault}
use Rattle.dlp_replies.specs.ReplyReading.{reply_at}
use Rattle.dlp_replies.specs.ReplyValues.{ReplyValue}
use Rattle.dlp_commands.specs.declared.link.LinkFault.{LinkFault}
use Rattle.dlp_commands.specs.declared.link.LinkFault.TheVariants as link
use Rattle.dlp_commands.specs.Talks.{Talk}
use Rattle.desk_store.specs.Shelves.{marks_of}
use Rattle.desk_store.specs.Desks.{all_rows}
use Rattle.desk_store.specs.Views.{DeskValue, marks_in, parted_in, shelves_in}
use Rattle.desk_store.proofs.SlotListLaws.{marks-length}
use Rattle.desk_store.specs.declared.fault.CommitFault.{CommitFault}
use Rattle.desk_store.specs.declared.fault.CommitFault.TheVariants as commit
use Rattle.desktop_session.specs.declared.ending.Ended.{Ended}
use Rattle.desktop_session.specs.declared.ending.Halted.{Halted}
use Rattle.desktop_session.specs.declared.fault.SessionFault.{SessionFault}
use Rattle.desktop_session.specs.declared.fault.SessionFault.TheVariants as session
use Rattle.desktop_session.specs.Answers.{answer_by, no_more, said_in, user_of}
use Rattle.desktop_session.specs.Greetings.{AnswersGreeting, begun_by, greeted, user_by, user_with}
use Rattle.desktop_session.specs.Lists.{HasCause}
use Rattle.desktop_session.specs.Seats.{is_nobody, is_other_user, numbers_of, place_known, seat_for}
use Rattle.desktop_session.specs.Sessions.{SessionValue}
use Rattle.desktop_session.specs.declared.seat.UserWish.{UserWish}
use Rattle.desktop_session.proofs.LastLaws.{cause_answered}
use Rattle.session_parts.specs.Causes.{IsLater}
use Rattle.session_parts.specs.Meets.{IsUnlisted, MeetsOrNot}
use Rattle.session_parts.specs.Stopping.{stop_of}
use Rattle.session_parts.specs.declared.meeting.Met.{Met}
use Rattle.session_parts.specs.declared.outcome.Outcome.{Outcome}
use Rattle.session_parts.specs.declared.report.DbReport.{DbReport}
use Rattle.session_parts.specs.declared.stop.Stop.{Stop}
use Rattle.session_parts.specs.declared.stop.Stop.TheVariants as stop
use Rattle.session_plan.specs.PlannedLimits.{limit_planned}
use Rattle.session_plan.specs.PlannedLosses.{loss_planned}
use Rattle.session_plan.specs.PlannedReports.{reports_planned}
use Rattle.session_plan.specs.declared.planned.Planned.{Planned}
use Rattle.session_plan.specs.declared.wishes.Wishes.{Wishes}
use Rattle.sync_session.specs.Courses.{AfterCommit, AfterMeeting, AfterNews, AfterPreparing, AfterReading, Closes, GoesOn, Prepares, Runs, Writes, closed, done_for, picked_for}
use Rattle.sync_session.specs.StopCauses.{IsStopBy}
use Rattle.sync_session.specs.Stopping.{Judges}
use Rattle.sync_session.specs.declared.preparing.Prepared.{Prepared}

-- ---- a call's answer

later_by_fault : (talk : Option Talk) (fault : Option LinkFault) (slots : ℕ) (cause : SessionFault) → IsLater talk fault cause
    → IsStopBy fault slots (stop.Session cause)
later_by_fault talk fault slots session.Down later = later
later_by_fault talk fault slots (session.Refused function code) later = later.0
later_by_fault talk fault slots (session.BadReply function broken) later = later.0
later_by_fault talk fault slots session.NoMemory later = tt
later_by_fault talk fault slots other later = absurd later

cause_by_fault : (fault : Option LinkFault) (slots : ℕ) (read : Result ReplyValue ReplyFault) (cause : SessionFault) → HasCause fault read cause
    → IsStopBy fault slots (stop.Session cause)
cause_by_fault fault slots read session.Down is = is
cause_by_fault fault slots read (session.Refused function code) is = is.0
cause_by_fault fault slots read (session.BadReply function broken) is = is.0
cause_by_fault fault slots read session.NoMemory is = tt
cause_by_fault fault slots read other is = absurd is

said_by_fault : {A : Type 0} (slots function : ℕ) (take : ReplyValue → A) (read : Result ReplyValue ReplyFault) (cause : SessionFault)
    → said_in function take read ≡ Err cause → IsStopBy None slots (stop.Session cause)
said_by_fault slots function take read cause is = cause_by_fault None slots read cause (cause_answered None function take read cause (sym is))

-- ---- the greeting

full_newcomer : (users : List ℕ) (add : Bool) → newcomer users add ≡ slot.Full → most_slots ≤ length users
full_newcomer users add is = grind (arith, nat_tests, common_steps)

full_at : (found : Option ℕ) (users : List ℕ) (add : Bool) → slot_at found users add ≡ slot.Full → most_slots ≤ length users
full_at (Some place) users add is = absurd cc
full_at None users add is = full_newcomer users add is

full_tested : (found : Option ℕ) (users : List ℕ) (other nobody add : Bool)
    → (if other then slot.Refused else if nobody then slot.Old 0 else slot_at found users add) ≡ slot.Full → most_slots ≤ length users
full_tested found users true nobody add is = absurd cc
full_tested found users false true add is = absurd cc
full_tested found users false false add is = full_at found users add is

full_seat : (marks : List Marks) (wish : UserWish) (user : UserInfo) → seat_for marks wish user ≡ slot.Full → most_slots ≤ length marks
full_seat marks wish user is =
    subst (λ n. most_slots ≤ n) (length-map marks (λ (slot : Marks). slot.user))
    (full_tested (place_known marks wish.name user) (numbers_of marks) (is_other_user marks wish.name user) (is_nobody wish.name user) wish.add is)

the_cause : {A : Type 0} (P : SessionFault → Type 0) (cause other : SessionFault) → ◌≡◌ {A = Result A SessionFault} (Err cause) (Err other) → P other → P cause
the_cause P cause other is holds = let same : cause ≡ other = cc in subst P (sym same) holds

seated : (marks : List Marks) (user : UserInfo) (found : Slot) (second : Result (Unit {0}) SessionFault) (cause : SessionFault)
    → (found ≡ slot.Full → most_slots ≤ length marks) → ((other : SessionFault) → second ≡ Err other → IsStopBy None (length marks) (stop.Session other))
    → Err cause ≡ begun_by (user_with marks user found) second → IsStopBy None (length marks) (stop.Session cause)
seated marks user (slot.Old place) (Ok done) cause full two is = absurd cc
seated marks user (slot.Old place) (Err other) cause full two is =
    the_cause (λ c. IsStopBy None (length marks) (stop.Session c)) cause other is (two other refl)
seated marks user slot.New (Ok done) cause full two is = absurd cc
seated marks user slot.New (Err other) cause full two is =
    the_cause (λ c. IsStopBy None (length marks) (stop.Session c)) cause other is (two other refl)
seated marks user slot.Refused second cause full two is =
    the_cause (λ c. IsStopBy None (length marks) (stop.Session c)) cause _ is refl
seated marks user slot.Full second cause full two is =
    the_cause (λ c. IsStopBy None (length marks) (stop.Session c)) cause session.TooManyUsers is (refl, full refl)

begun : (marks : List Marks) (wish : UserWish) (first : Result UserInfo SessionFault) (second : Result (Unit {0}) SessionFault) (cause : SessionFault)
    → ((other : SessionFault) → first ≡ Err other → IsStopBy None (length marks) (stop.Session other))
    → ((other : SessionFault) → second ≡ Err other → IsStopBy None (length marks) (stop.Session other))
    → Err cause ≡ begun_by (user_by marks wish first) second → IsStopBy None (length marks) (stop.Session cause)
begun marks wish (Err other) second cause one two is =
    the_cause (λ c. IsStopBy None (length marks) (stop.Session c)) cause other is (one other refl)
begun marks wish (Ok user) second cause one two is =
    seated marks user (seat_for marks wish user) second cause (full_seat marks wish user) two is

greeting_by_fault : (fault : Option LinkFault) (marks : List Marks) (wish : UserWish) (first second : List ℕ) (cause : SessionFault)
    → ◌≡◌ {A = Result UserInfo SessionFault} (Err cause) (answer_by fault (greeted marks wish first second))
    → IsStopBy fault (length marks) (stop.Session cause)
greeting_by_fault None marks wish first second cause is =
    begun marks wish (said_in 0x10 user_of (reply_at 0x10 first)) (said_in 0x2E no_more (reply_at 0x2E second)) cause
    (λ other said. said_by_fault (length marks) 0x10 user_of (reply_at 0x10 first) other said)
    (λ other said. said_by_fault (length marks) 0x2E no_more (reply_at 0x2E second) other said) is
greeting_by_fault (Some link.Down) marks wish first second cause is =
    the_cause (λ c. IsStopBy (Some link.Down) (length marks) (stop.Session c)) cause session.Down is refl
greeting_by_fault (Some link.NoMemory) marks wish first second cause is =
    the_cause (λ c. IsStopBy (Some link.NoMemory) (length marks) (stop.Session c)) cause session.NoMemory is tt

-- ---- what is left

refused_by_fault : (fault : Option LinkFault) (slots : ℕ) (refusal : CommitFault) → IsStopBy fault slots (stop_of refusal)
refused_by_fault fault slots commit.DeskFault = tt
refused_by_fault fault slots commit.NoMemory = tt

judged_by_fault : (fault : Option LinkFault) (slots : ℕ) (over loss : Option (List ℕ)) (reports : List DbReport) (cause : Stop)
    → Judges over loss reports (Err cause) → IsStopBy fault slots cause
judged_by_fault fault slots over loss reports (stop.Limit name) is = tt
judged_by_fault fault slots over loss reports (stop.NewHandheld name) is = tt
judged_by_fault fault slots over loss reports (stop.Session session.NoMemory) is = tt
judged_by_fault fault slots over loss reports other is = absurd is

module _ {L F : Type 0} (talk : L → Option Talk) (since : L → L → Type 0) (fault : L → Option LinkFault) (downs : L → ℕ)
    (contents : F → Option FileMap) (moments : F → Moments) (paths : F → Option (List (List ℕ))) (faults : F → ℕ) (slots : ℕ) where
  -- an outcome stops by its link's fault
  abbrev StopsSo : Outcome L F → Type 0
  StopsSo left = IfErr left.end (IsStopBy (fault left.link) slots)

  after_close : (done : Marks) (prepared : Prepared) (old : SessionValue L) (folder : F) (left : Outcome L F)
      → Closes talk since fault downs done prepared old folder left → StopsSo left
  after_close done prepared old folder left closes = rw closes.is (by closes.answer closes.ends.cause)
    where
      by : (answer : Result (Ended L) (Halted L)) → IfErr answer (λ halted. IsLater (talk halted.link) (fault halted.link) halted.cause)
          → StopsSo (closed folder prepared.reports answer)
      by (Ok ended) cause = tt
      by (Err halted) cause = later_by_fault (talk halted.link) (fault halted.link) slots halted.cause cause

  after_commit : (done : Marks) (prepared : Prepared) (old : SessionValue L) (answer : Result (DeskValue F) (CommitFault × F)) (left : Outcome L F)
      → AfterCommit talk since fault downs done prepared old answer left → StopsSo left
  after_commit done prepared old (Ok desk) left goes = after_close done prepared old desk.folder left goes
  after_commit done prepared old (Err refusal) left goes = rw goes (refused_by_fault (fault old.link) slots refusal.0)

  after_writing : (done : Marks) (prepared : Prepared) (old : SessionValue L) (desk : DeskValue F) (left : Outcome L F)
      → Writes talk since fault downs contents moments paths faults done prepared old desk left → StopsSo left
  after_writing done prepared old desk left writes = by writes.answer writes.sends.cause writes.goes
    where
      by : (answer : Result (Vec (Vec ℕ)) SessionFault) → IfErr answer (IsLater (talk writes.now.link) (fault writes.now.link))
          → AfterNews talk since fault downs contents moments paths faults done prepared writes.now desk answer left → StopsSo left
      by (Ok ids) cause goes = after_commit done prepared writes.now goes.answer left goes.goes
      by (Err cause) later goes = rw goes (later_by_fault (talk writes.now.link) (fault writes.now.link) slots cause later)

  after_going : (marks : List Marks) (wishes : Wishes) (met : Met L) (desk : DeskValue F) (left : Outcome L F)
      → GoesOn talk since fault downs contents moments paths faults marks wishes met desk left → StopsSo left
  after_going marks wishes met desk left goes = by goes.answer goes.prepares goes.goes
    where
      picked : DeskValue F
      picked = picked_for marks wishes.user met.linked.user desk

      why : (cause : Stop) (reading : Result (Vec Planned) SessionFault) → IfErr reading (IsLater (talk goes.now.link) (fault goes.now.link))
          → AfterReading met.heads.items picked goes.now.user reading (Err cause) → IsStopBy (fault goes.now.link) slots cause
      why cause (Ok planned) later is =
          judged_by_fault (fault goes.now.link) slots
          (limit_planned (shelves_in picked) (length met.heads.items) (all_rows picked.slots) planned.items)
          (loss_planned goes.now.user (marks_in picked) (parted_in picked) (shelves_in picked) planned.items)
          (reports_planned (shelves_in picked) planned.items) cause is.0
      why cause (Err other) later is =
          let same : cause ≡ stop.Session other = cc in
          subst (λ c. IsStopBy (fault goes.now.link) slots c) (sym same) (later_by_fault (talk goes.now.link) (fault goes.now.link) slots other later)

      by : (answer : Result Prepared Stop) → Prepares talk since fault downs met.heads.items wishes picked met.linked goes.now answer
          → AfterPreparing talk since fault downs contents moments paths faults (done_for wishes met.linked.user picked) goes.now picked answer left → StopsSo left
      by (Ok prepared) prepares after = after_writing (done_for wishes met.linked.user picked) prepared goes.now picked left after
      by (Err cause) prepares after = rw after (why cause prepares.reading prepares.reads.reads.cause prepares.goes)

  after_meeting : (marks : List Marks) (wishes : Wishes) (old : L) (desk : DeskValue F) (answer : Result (Met L) (Halted L)) (left : Outcome L F)
      → length marks ≡ slots → MeetsOrNot talk since fault downs marks wishes.user old answer
      → AfterMeeting talk since fault downs contents moments paths faults marks wishes desk answer left → StopsSo left
  after_meeting marks wishes old desk (Ok met) left count meets goes = after_going marks wishes met desk left goes
  after_meeting marks wishes old desk (Err halted) left count (inl meets) goes = rw goes (by meets.cause)
    where
      by : AnswersGreeting marks wishes.user (talk old) (fault halted.link) (Err halted.cause)
          ⊎ IsUnlisted marks wishes.user (talk old) (fault halted.link) halted.cause → IsStopBy (fault halted.link) slots (stop.Session halted.cause)
      by (inl said) = subst (λ n. IsStopBy (fault halted.link) n (stop.Session halted.cause)) count
          (greeting_by_fault (fault halted.link) marks wishes.user said.first said.second halted.cause said.is)
      by (inr unlisted) = cause_by_fault (fault halted.link) slots (reply_at 0x16 unlisted.reply) halted.cause unlisted.is
  after_meeting marks wishes old desk (Err halted) left count (inr none) goes =
      rw goes (subst (λ c. IsStopBy (fault halted.link) slots (stop.Session c)) (sym none.1) tt)

pub runs_stop : {L F : Type 0} {talk : L → Option Talk} {since : L → L → Type 0} {fault : L → Option LinkFault} {downs : L → ℕ}
    {contents : F → Option FileMap} {moments : F → Moments} {paths : F → Option (List (List ℕ))} {faults : F → ℕ} {wishes : Wishes} {old : L}
    {desk : DeskValue F} {left : Outcome L F} → Runs talk since fault downs contents moments paths faults wishes old desk left
    → IfErr left.end (IsStopBy (fault left.link) (length desk.slots))
runs_stop {talk = talk} {since} {fault} {downs} {contents} {moments} {paths} {faults} {wishes} {old} {desk} {left} runs =
    after_meeting talk since fault downs contents moments paths faults (length desk.slots) (marks_of desk.slots) wishes old desk runs.answer left
    (marks-length desk.slots) runs.meets runs.goes
