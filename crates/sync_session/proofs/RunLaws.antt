-- How a session over a link that tells its device ends: from its beginning up to what it writes, and the whole.
use Rattle.std.proofs.Common.{◌≡◌, ◌∙◌, refl, ap, sym, inl, inr, ℕ, List, [], ◌∷◌, ◌++◌, length, map}
use Rattle.std.specs.Prelude.{◌⊎◌, Option, None, Some, IfErr, IsOk, Ok, Err, Result, slice_index}
use Rattle.std.specs.Global.{Vec}
use Rattle.hs_folders.specs.FileMaps.{FileMap}
use Rattle.hs_folders.specs.Moments.{Moments}
use Rattle.sync_session.proofs.MeetingWords.{DbHead, AreInOrder, marks_of, DeskValue, marks_in, parted_in, shelves_in, DatabaseValue, Planned, ArePlannedFor, IsAtRest}
use Rattle.sync_session.proofs.MeetingWords.{before_writes, greeting, listing_all, Meeting, meeting_of, slot_of, agrees}
use Rattle.pdb_values.specs.declared.user.Marks.{Marks}
use Rattle.pdb_values.specs.declared.user.UserInfo.{UserInfo}
use Rattle.session_parts.proofs.LinkWords.{LinkFault, Talk, Halted, SessionFault, text, no_more, said_in, user_of, reading_user, IsTellable, SessionValue, Does}
use Rattle.session_parts.proofs.LinkWords.{Stops}
use Rattle.dlp_commands.specs.declared.link.LinkFault.TheVariants as link
use Rattle.desk_store.specs.Desks.{all_rows, place_of}
use Rattle.desktop_session.specs.declared.fault.SessionFault.TheVariants as session
use Rattle.desktop_session.specs.Greetings.{AsksUser, AnswersGreeting, HasSlot, begun_by, user_by, user_with}
use Rattle.desktop_session.proofs.StopLaws.{fell_none, stops_none}
use Rattle.dlp_replies.specs.declared.fault.ReplyFault.{ReplyFault}
use Rattle.dlp_replies.specs.ReplyReading.{reply_at}
use Rattle.dlp_replies.specs.ReplyValues.{ReplyValue}
use Rattle.dlp_commands.specs.DatabaseFunctions.{listed}
use Rattle.desktop_session.specs.Seats.{numbers_of, seat_for}
use Rattle.pdb_values.specs.declared.slot.Slot.{Slot}
use Rattle.pdb_values.specs.declared.slot.Slot.TheVariants as slot
use Rattle.mirrors.specs.Agreements.{agreed}
use Rattle.std.proofs.lemmas.List.{length-map}
use Rattle.session_parts.specs.declared.meeting.Met.{Met}
use Rattle.session_parts.specs.declared.outcome.Outcome.{Outcome}
use Rattle.sync_session.specs.declared.preparing.Prepared.{Prepared}
use Rattle.session_parts.specs.declared.report.DbReport.{DbReport}
use Rattle.session_parts.specs.declared.stop.Stop.{Stop}
use Rattle.session_parts.specs.declared.stop.Stop.TheVariants as stop
use Rattle.session_plan.specs.declared.wishes.Wishes.{Wishes}
use Rattle.session_parts.specs.Causes.{IsLater}
use Rattle.sync_session.specs.Courses.{AfterMeeting, AfterPreparing, AfterReading, GoesOn, ReadsAll, Runs, done_for, jobs_met, picked_for, stopped}
use Rattle.session_plan.specs.Users.{done_of}
use Rattle.session_parts.specs.Meets.{MeetsOrNot, IsUnlisted}
use Rattle.session_plan.specs.Limits.{first_over}
use Rattle.session_plan.specs.Losses.{first_loss}
use Rattle.sync_session.specs.Outcomes.{IsStopOf, StopsFor, seat_of, slot_in}
use Rattle.sync_session.specs.Stopping.{Judges}
use Rattle.sync_session.proofs.SessionJoins.{Reached, ReadsReach, meets_stop, met_reaches, reads_reach, reads_stop}
use Rattle.session_parts.proofs.StretchLaws.{Tells}
use Rattle.desktop_session.specs.Lasts.{IsByLastReply}
use Rattle.session_parts.proofs.CauseLaws.{later_by, later_said}
use Rattle.sync_session.proofs.MeetJoins.{jobs_meet, meets_join, user_read, user_told}
use Rattle.session_parts.proofs.MeetLaws.{greeted_slot}
use Rattle.sync_session.proofs.LossLaws.{loss_is_first_loss}
use Rattle.sync_session.proofs.MostLaws.{limit_is_first_over}
use Rattle.sync_session.proofs.PlannedLaws.{plans_join, reports_are}
use Rattle.sync_session.proofs.ReadJoins.{jobs_for}
use Rattle.session_plan.specs.PlannedLimits.{limit_planned}
use Rattle.session_plan.specs.PlannedLosses.{loss_planned}
use Rattle.session_plan.specs.PlannedReports.{reports_planned}
use Rattle.session_plan.specs.Partings.{agrees_with}
use Rattle.sync_session.proofs.OutcomeLaws.{EndsSo, SaysRefusal, cause_says, ends_unwritten, later_stop, news_ends, seated_says}

-- ---- what is found of the limits, and of what the session would cost

module _ (meeting : Meeting) (over loss : Option (List ℕ)) (reported : List DbReport) where
  judged_stop : {L : Type 0} (talk : L → Option Talk) (fault : L → Option LinkFault) (old new : L) (cause : Stop)
      → over ≡ first_over meeting → loss ≡ first_loss meeting → Does talk (before_writes meeting) old new
      → Judges over loss reported (Err cause) → IsStopOf talk fault meeting old new cause
  judged_stop talk fault old new (stop.Limit name) is costs does judged = record { first = sym is ∙ judged; does = does }
  judged_stop talk fault old new (stop.NewHandheld name) is costs does judged =
      record { within = sym is ∙ judged.0; first = sym costs ∙ judged.1; does = does }
  judged_stop talk fault old new (stop.Session session.NoMemory) is costs does judged = tt
  judged_stop talk fault old new other is costs does judged = absurd judged

  judged_says : (cause : Stop) → over ≡ first_over meeting → loss ≡ first_loss meeting → Judges over loss reported (Err cause)
      → SaysRefusal meeting (Err cause)
  judged_says (stop.Limit name) is costs judged = record {
    limit = λ found first. let same : name ≡ found = cc in same;
    loss = λ found none first. absurd (let never : ⊥ = cc in never);
  }
  judged_says (stop.NewHandheld name) is costs judged =
      let within : over ≡ None = judged.0 in
      let first_is : loss ≡ Some name = judged.1 in
      record {
        limit = λ found first. absurd (let never : ⊥ = cc in never);
        loss = λ found none first. let same : name ≡ found = cc in same;
      }
  judged_says stop.DeskFault is costs judged = absurd judged
  judged_says (stop.Session cause) is costs judged = cause_says meeting cause

-- ---- the slot of the handheld's user

-- the marks of the desktop's slots
abbrev marks_met : Meeting → List Marks
marks_met meeting = marks_of meeting.slots

-- the handheld's user has a slot
seat_told : (meeting : Meeting) (told : Option Talk) → IsTellable meeting.device → Tells meeting.device told
    → HasSlot (marks_met meeting) meeting.wishes.user told → IsOk (seat_of meeting)
seat_told meeting told proper tells slot = rw (tells.is, tells.same, user_told meeting.device proper) at slot

begun_why : (talk : Option Talk) (user : UserInfo) (second : Result (Unit {0}) SessionFault) (read : Result ReplyValue ReplyFault) (cause : SessionFault)
    → second ≡ said_in 0x2E no_more read → Err cause ≡ begun_by (Ok user) second → IsByLastReply talk cause
    → IsLater talk None cause
begun_why talk user (Ok done) read cause same is last = absurd cc
begun_why talk user (Err other) read cause same is last =
    let here : ◌≡◌ {A = Result (Unit {0}) SessionFault} (Err cause) (said_in 0x2E no_more read) = cc in later_said 0x2E talk None no_more read cause here last

module _ (meeting : Meeting) {told : Option Talk} (proper : IsTellable meeting.device) (tells : Tells meeting.device told) where
  -- a greeting that was answered is of a user with a slot
  seat_greeted : {user : UserInfo} → AnswersGreeting (marks_met meeting) meeting.wishes.user told None (Ok user) → IsOk (seat_of meeting)
  seat_greeted {user} said =
      seat_told meeting told proper tells (greeted_slot (marks_met meeting) meeting.wishes.user told user said)

  module _ (cause : SessionFault) {why : SessionFault} (unseated : seat_of meeting ≡ Err why) where
    -- a user without a slot is the cause, unless the link has a fault
    greeted_for : (fault_now : Option LinkFault) → AnswersGreeting (marks_met meeting) meeting.wishes.user told fault_now (Err cause)
        → StopsFor (stop.Session why) (Err (stop.Session cause))
    greeted_for (Some link.Down) said = inr (inl (ap stop.Session (let same : cause ≡ session.Down = let is = said.is in cc in same)))
    greeted_for (Some link.NoMemory) said = inr (inr (ap stop.Session (let same : cause ≡ session.NoMemory = let is = said.is in cc in same)))
    greeted_for None said =
        let second : Result (Unit {0}) SessionFault = said_in 0x2E no_more (reply_at 0x2E said.second) in
        let found : ◌≡◌ {A = Result UserInfo SessionFault} (Err cause) (begun_by (Err why) second)
        = said.is ∙ ap (λ r. begun_by (user_by (marks_met meeting) meeting.wishes.user r) second)
        (user_read (marks_met meeting) meeting.wishes.user meeting.device told (Err cause) proper tells said)
        ∙ ap (λ r. begun_by r second) unseated in
        inl (ap stop.Session (let same : cause ≡ why = cc in same))

    unmet_for : (fault_now : Option LinkFault) → AnswersGreeting (marks_met meeting) meeting.wishes.user told fault_now (Err cause)
        ⊎ IsUnlisted (marks_met meeting) meeting.wishes.user told fault_now cause
        → StopsFor (stop.Session why) (Err (stop.Session cause))
    unmet_for fault_now (inl said) = greeted_for fault_now said
    unmet_for fault_now (inr unlisted) = seated_says _ meeting why (seat_greeted unlisted.greeted) unseated

-- ---- a session of this link and this folder

module _ {L F : Type 0} (talk : L → Option Talk) (since : L → L → Type 0) (fault : L → Option LinkFault) (downs : L → ℕ)
    (contents : F → Option FileMap) (moments : F → Moments) (paths : F → Option (List (List ℕ))) (faults : F → ℕ) (itself : (a : L) → since a a)
    (since_more : (a b c : L) → since a b → since b c → since a c) (meeting : Meeting) (old : L) where
  abbrev Ends : F → Outcome L F → Type 0
  Ends folder left = EndsSo talk since fault downs contents moments meeting old folder left

  -- ---- what precedes each write

  -- what both sides know of each other once they met
  record HaveMet (heads : List DbHead) (wishes : Wishes) (now : SessionValue L) (desk : DeskValue F) : Type 0 where
    rests : IsAtRest meeting.device
    starts : Tells meeting.device (talk old)
    asked : wishes ≡ meeting.wishes
    user : now.user ≡ meeting.device.user
    slots : desk.slots ≡ meeting.slots
    picked : desk.picked ≡ meeting.picked
    heads_are : heads ≡ map (λ (database : DatabaseValue). listed database.head) meeting.device.databases
    ordered : AreInOrder meeting.slots
    seated : IsOk (seat_of meeting)
    met : Reached talk since fault downs (greeting ++ listing_all meeting) old now.link

  -- the marks that end the session are those of the meeting
  done_met : (desk : DeskValue F) {user : UserInfo} → desk.slots ≡ meeting.slots
      → place_of (length desk.slots) (seat_for (marks_of desk.slots) meeting.wishes.user meeting.device.user) ≡ meeting.picked
      → user ≡ meeting.device.user
      → done_for meeting.wishes user (picked_for (marks_of desk.slots) meeting.wishes.user user desk) ≡ done_of meeting
  done_met desk slots place same = rw (same, place, slots)

  module _ {heads : List DbHead} {wishes : Wishes} {now : SessionValue L} {desk : DeskValue F} (so : HaveMet heads wishes now desk) {done : Marks}
      (ends_so : done ≡ done_of meeting) where
    own_shelves : shelves_in desk ≡ (slot_of meeting).shelves
    own_shelves = rw (so.slots, so.picked)

    own_agree : agrees_with (agreed now.user (marks_in desk)) (parted_in desk) ≡ agrees meeting
    unfolding agrees
    own_agree = rw (so.user, so.slots, so.picked)

    own_jobs : jobs_met heads wishes desk now.user ≡ jobs_for meeting
    own_jobs = jobs_meet meeting heads (shelves_in desk) (agrees_with (agreed now.user (marks_in desk)) (parted_in desk)) wishes so.heads_are own_shelves own_agree so.asked

    -- what is found of the limits is what the meeting finds
    own_over : (planned : List Planned) → ArePlannedFor meeting planned
        → limit_planned (shelves_in desk) (length heads) (all_rows desk.slots) planned ≡ first_over meeting
    own_over planned are =
        rw (own_shelves, so.heads_are, length-map meeting.device.databases (λ (database : DatabaseValue). listed database.head), so.slots)
        (limit_is_first_over meeting so.rests.proper planned are)

    -- and so is what is found of its cost
    own_loss : (user : UserInfo) (planned : List Planned) → user ≡ meeting.device.user → ArePlannedFor meeting planned
        → loss_planned user (marks_in desk) (parted_in desk) (shelves_in desk) planned ≡ first_loss meeting
    own_loss user planned same are = rw (same, so.slots, so.picked) (loss_is_first_loss meeting planned are)

    -- all was read, and then judged
    judged_ends : {then : SessionValue L} {planned : Vec Planned} (answer : Result Prepared Stop) {left : Outcome L F}
        → ReadsAll talk since fault downs heads wishes desk now then (Ok planned) → AfterReading heads desk then.user (Ok planned) answer
        → AfterPreparing talk since fault downs contents moments paths faults done then desk answer left → Ends desk.folder left
    judged_ends {then} {planned} answer {left} reads judged goes =
        let reach = reads_reach since_more meeting so.rests so.starts own_shelves own_jobs so.met reads.reads in
        let are : ArePlannedFor meeting planned.items
        = plans_join meeting (shelves_in desk) (agrees_with (agreed now.user (marks_in desk)) (parted_in desk)) (jobs_met heads wishes desk now.user)
        (map (λ (one : Planned). one.view) planned.items) planned.items own_shelves own_agree own_jobs reach.seen reads.plans in
        step answer are (own_over planned.items are) (own_loss then.user planned.items (reads.reads.user ∙ so.user) are) reach judged goes
      where
        step : (answer : Result Prepared Stop) → ArePlannedFor meeting planned.items
            → limit_planned (shelves_in desk) (length heads) (all_rows desk.slots) planned.items ≡ first_over meeting
            → loss_planned then.user (marks_in desk) (parted_in desk) (shelves_in desk) planned.items ≡ first_loss meeting
            → ReadsReach talk since fault downs meeting (map (λ (one : Planned). one.view) planned.items) old then.link
            → AfterReading heads desk then.user (Ok planned) answer
            → AfterPreparing talk since fault downs contents moments paths faults done then desk answer left → Ends desk.folder left
        step (Ok prepared) are over loss reach judged goes =
            let same : prepared.planned ≡ planned = judged.1 in
            let none : first_over meeting ≡ None = sym over ∙ judged.0.0 in
            news_ends talk since fault downs contents moments meeting old paths faults itself since_more {done = done} {prepared = prepared}
            {now = then} {desk = desk} goes.answer (record {
              rests = so.rests;
              done_is = ends_so;
              user = reads.reads.user ∙ so.user;
              slots = so.slots;
              picked = so.picked;
              are = rw same are;
              told = judged.0.2 ∙ ap (λ s. reports_planned s planned.items) own_shelves ∙ reports_are meeting so.rests.proper planned.items are none;
              on = record { within = none; keeps = sym loss ∙ judged.0.1 };
              seated = so.seated;
              ordered = so.ordered;
              read = reach.reached;
              tells = reach.tells;
            }) goes.sends goes.goes
        step (Err cause) are over loss reach judged goes =
            ends_unwritten talk since fault downs contents moments meeting old goes reach.reached.stops
            (judged_stop meeting _ _ (reports_planned (shelves_in desk) planned.items) talk fault old then.link cause over loss reach.reached.does judged.0)
            (λ why is. seated_says _ meeting why so.seated is)
            (judged_says meeting _ _ (reports_planned (shelves_in desk) planned.items) cause over loss judged.0)

    prepared_ends : {then : SessionValue L} (answer : Result Prepared Stop) {left : Outcome L F} (reading : Result (Vec Planned) SessionFault)
        → ReadsAll talk since fault downs heads wishes desk now then reading → AfterReading heads desk then.user reading answer
        → AfterPreparing talk since fault downs contents moments paths faults done then desk answer left → Ends desk.folder left
    prepared_ends answer (Ok planned) reads judged goes = judged_ends answer reads judged goes
    prepared_ends {then} answer (Err cause) reads is goes =
        ends_unwritten talk since fault downs contents moments meeting old (rw is at goes)
        (reads_stop since_more meeting so.rests so.starts own_shelves own_jobs so.met reads.reads)
        (later_stop talk fault meeting old then.link cause reads.reads.cause) (λ why is. seated_says _ meeting why so.seated is) (cause_says meeting cause)

  -- ---- both sides meet

  module _ (rests : IsAtRest meeting.device) (tells : Tells meeting.device (talk old)) where
    -- where the user has no slot, it was all that was asked for
    asks_alone : {new : L} {why : SessionFault} → seat_of meeting ≡ Err why
        → AsksUser talk since fault downs old new ⊎ HasSlot (marks_met meeting) meeting.wishes.user (talk old)
        → AsksUser talk since fault downs old new
    asks_alone unseated (inl asks) = asks
    asks_alone {why} unseated (inr slot) = seated_says _ meeting why (seat_told meeting (talk old) rests.proper tells slot) unseated

    -- a greeting stopped for its link, for a reply, or for a user without a slot, of which alone it had asked
    module _ {new : L} (cause : SessionFault) (alone : (why : SessionFault) → seat_of meeting ≡ Err why → fault new ≡ None
        → Does talk (reading_user ∷ []) old new) (last : IsByLastReply (talk new) cause) where
      slot_stop : (found : Slot) (second : Result (Unit {0}) SessionFault) (read : Result ReplyValue ReplyFault) → slot_in meeting ≡ found
          → second ≡ said_in 0x2E no_more read
          → Err cause ≡ begun_by (user_with (marks_met meeting) meeting.device.user found) second → fault new ≡ None
          → IsStopOf talk fault meeting old new (stop.Session cause)
      slot_stop (slot.Old place) second read found same is none =
          later_stop talk fault meeting old new cause (rw none (begun_why (talk new) meeting.device.user second read cause same is last))
      slot_stop slot.New second read found same is none =
          later_stop talk fault meeting old new cause (rw none (begun_why (talk new) meeting.device.user second read cause same is last))
      slot_stop slot.Refused second read found same is none =
          let why : SessionFault = session.OtherUser meeting.device.user.user (slice_index (numbers_of (marks_met meeting)) 0) in
          let cause_is : cause ≡ why = cc in
          rw cause_is
          (record { slot = found; handheld_is = refl; desktop_is = refl }, alone why (ap (user_with (marks_met meeting) meeting.device.user) found) none)
      slot_stop slot.Full second read found same is none =
          let cause_is : cause ≡ session.TooManyUsers = cc in
          rw cause_is (found, alone session.TooManyUsers (ap (user_with (marks_met meeting) meeting.device.user) found) none)

      greeted_stop : (fault_now : Option LinkFault) → fault new ≡ fault_now
          → AnswersGreeting (marks_met meeting) meeting.wishes.user (talk old) fault_now (Err cause)
          → IsStopOf talk fault meeting old new (stop.Session cause)
      greeted_stop (Some now) is said =
          later_stop talk fault meeting old new cause
          (rw is (later_said {A = UserInfo} 0x10 (talk new) (Some now) user_of (reply_at 0x10 said.first) cause said.is last))
      greeted_stop None none said =
          let second : Result (Unit {0}) SessionFault = said_in 0x2E no_more (reply_at 0x2E said.second) in
          slot_stop (slot_in meeting) second (reply_at 0x2E said.second) refl refl
          (said.is ∙ ap (λ r. begun_by (user_by (marks_met meeting) meeting.wishes.user r) second)
          (user_read (marks_met meeting) meeting.wishes.user meeting.device (talk old) (Err cause) rests.proper tells said)) none

    met_stop : {new : L} (cause : SessionFault)
        → AsksUser talk since fault downs old new ⊎ HasSlot (marks_met meeting) meeting.wishes.user (talk old)
        → AnswersGreeting (marks_met meeting) meeting.wishes.user (talk old) (fault new) (Err cause)
        ⊎ IsUnlisted (marks_met meeting) meeting.wishes.user (talk old) (fault new) cause
        → IsByLastReply (talk new) cause → IsStopOf talk fault meeting old new (stop.Session cause)
    met_stop {new} cause asks (inl said) last = greeted_stop cause (λ why is none. (asks_alone is asks).does none) last (fault new) refl said
    met_stop {new} cause asks (inr unlisted) last =
        later_stop talk fault meeting old new cause (later_by (talk new) (fault new) (reply_at 0x16 unlisted.reply) cause unlisted.is last)

    unmet_ends : (desk : DeskValue F) (halted : Halted L) {left : Outcome L F}
        → MeetsOrNot talk since fault downs (marks_met meeting) meeting.wishes.user old (Err halted)
        → IsByLastReply (talk halted.link) halted.cause
        → left ≡ stopped halted.link desk.folder (stop.Session halted.cause) → Ends desk.folder left
    unmet_ends desk halted (inl meets) last is =
        ends_unwritten talk since fault downs contents moments meeting old is (meets_stop meeting rests tells meets)
        (met_stop halted.cause meets.unseated meets.cause last)
        (λ why unseated. (
          (asks_alone unseated meets.unseated).stops,
          unmet_for meeting rests.proper tells halted.cause unseated (fault halted.link) meets.cause,
        )) (cause_says meeting halted.cause)
    unmet_ends desk halted (inr none) last is =
        ends_unwritten talk since fault downs contents moments meeting old is (nothing (map text (before_writes meeting)))
        (later_stop talk fault meeting old halted.link halted.cause (rw none.1 tt))
        (λ why unseated. (nothing (text reading_user ∷ []), inr (inr (ap stop.Session none.1)))) (cause_says meeting halted.cause)
      where
        nothing : (requests : List (List ℕ)) → Stops talk since fault downs requests old halted.link
        nothing requests = rw none.0 (stops_none talk since fault downs requests old old refl (itself old) (fell_none fault downs old))

    met_ends : (desk : DeskValue F) {met : Met L} {left : Outcome L F} → AreInOrder meeting.slots → desk.slots ≡ meeting.slots
        → place_of (length desk.slots) (seat_for (marks_of desk.slots) meeting.wishes.user meeting.device.user) ≡ meeting.picked
        → MeetsOrNot talk since fault downs (marks_met meeting) meeting.wishes.user old (Ok met)
        → GoesOn talk since fault downs contents moments paths faults (marks_of desk.slots) meeting.wishes met desk left
        → Ends desk.folder left
    met_ends desk {met} ordered slots place (inl meets) goes =
        let joined = meets_join meeting rests tells meets in
        let so : HaveMet met.heads.items meeting.wishes met.linked (picked_for (marks_of desk.slots) meeting.wishes.user
        met.linked.user desk)
        = record {
          rests = rests;
          starts = tells;
          asked = refl;
          user = joined.user;
          slots = slots;
          picked = rw joined.user place;
          heads_are = joined.heads;
          ordered = ordered;
          seated = seat_greeted meeting rests.proper tells meets.user;
          met = met_reaches meeting rests tells meets;
        } in
        prepared_ends so (done_met desk slots place joined.user) goes.answer goes.prepares.reading goes.prepares.reads goes.prepares.goes goes.goes
    met_ends desk ordered slots place (inr none) goes = absurd none

-- ---- the whole

pub runs_end : {L F : Type 0} {talk : L → Option Talk} {since : L → L → Type 0} {fault : L → Option LinkFault} {downs : L → ℕ}
    {contents : F → Option FileMap} {moments : F → Moments} {paths : F → Option (List (List ℕ))} {faults : F → ℕ} (itself : (a : L) → since a a)
    (since_more : (a b c : L) → since a b → since b c → since a c) {wishes : Wishes} {old : L} {desk : DeskValue F} {left : Outcome L F} {told : Talk}
    → AreInOrder desk.slots → talk old ≡ Some told → IsAtRest told.device → Runs talk since fault downs contents moments paths faults wishes old desk left
    → EndsSo talk since fault downs contents moments (meeting_of told.device desk.slots wishes) old desk.folder left
runs_end {L} {F} {talk} {since} {fault} {downs} {contents} {moments} {paths} {faults} itself since_more {wishes} {old} {desk} {left} {told} ordered is
    rests runs = step runs.answer runs.meets runs.last runs.goes
  where
    step : (answer : Result (Met L) (Halted L)) → MeetsOrNot talk since fault downs (marks_of desk.slots) wishes.user old answer
        → IfErr answer (λ halted. IsByLastReply (talk halted.link) halted.cause)
        → AfterMeeting talk since fault downs contents moments paths faults (marks_of desk.slots) wishes desk answer left
        → EndsSo talk since fault downs contents moments (meeting_of told.device desk.slots wishes) old desk.folder left
    step (Ok met) meets last goes =
        met_ends talk since fault downs contents moments paths faults itself since_more (meeting_of told.device desk.slots wishes) old rests
        (record { talk = told; is = is; same = refl }) desk ordered refl refl meets goes
    step (Err halted) meets last goes =
        unmet_ends talk since fault downs contents moments paths faults itself since_more (meeting_of told.device desk.slots wishes) old rests
        (record { talk = told; is = is; same = refl }) desk halted meets last goes
