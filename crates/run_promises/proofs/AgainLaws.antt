-- What a run left is what the next one meets: so the last one takes up all that came before.
use Rattle.std.proofs.Common.{◌≡◌, ◌⊎◌, ◌∙◌, ◌≤◌, ◌<◌, ap, refl, sym, subst, arith, inl, inr, ℕ, List, [], ◌∷◌, length, map}
use Rattle.std.specs.Prelude.{Option, Some, None, IfSome, IsErr, IsSome, is_err, filter, replicate}
use Rattle.std.specs.Option.{option_map}
use Rattle.std.proofs.lemmas.List.{length-append, map-append}
use Rattle.hs_folders.specs.FileMaps.{FileMap}
use Rattle.pdb_values.specs.declared.user.UserInfo.{UserInfo}
use Rattle.dlp_commands.specs.Changes.{changes}
use Rattle.dlp_commands.proofs.StepLaws.{changes-text}
use Rattle.handheld_files.specs.Openings.{HoldsAll, Stands}
use Rattle.desk_journal.specs.Overlays.{FinishesAs, finished}
use Rattle.desk_store.specs.Desks.{IsDesk}
use Rattle.desk_store.specs.Shelves.{marks_of, slot_at}
use Rattle.desk_store.proofs.OpenLaws.{picked_number}
use Rattle.desktop_session.specs.Acts.{text}
use Rattle.line_script.specs.Rules.{RuleValue}
use Rattle.sync_session.specs.Fronts.{MeetingFront}
use Rattle.session_plan.specs.Limits.{first_over}
use Rattle.session_plan.specs.Merges.{merged_device, merged_slot, merged_slots}
use Rattle.sync_session.specs.News.{all_news}
use Rattle.sync_session.proofs.OutcomeLaws.{desk_stands}
use Rattle.sync_session.specs.Sessions.{adds_of, after_commit, before_commit, before_writes, requests, writes_before_commit, begin_mark}
use Rattle.session_plan.specs.Skips.{active}
use Rattle.session_plan.specs.Tasks.{Meeting, place_for, slot_of}
use Rattle.session_plan.specs.Users.{done_of}
use Rattle.desktop_session.specs.Greetings.{user_with}
use Rattle.desktop_session.specs.Seats.{seat_for}
use Rattle.session_parts.specs.Meets.{IsSeated}
use Rattle.pdb_values.specs.declared.slot.Slot.{Slot}
use Rattle.pdb_values.specs.declared.slot.Slot.TheVariants as slot
use Rattle.sync_session.specs.Outcomes.{seat_of}
use Rattle.front_laws.specs.Meetings.{AsksTheSame, IsActive, action_at, found_of, ids_at}
use Rattle.front_laws.specs.Repeats.{GotAllIds}
use Rattle.front_laws.specs.Again.{AllRunAgain, HasSlot, Later, RunsAgain, last_run}
use Rattle.front_laws.specs.Stops.{StandsAmongNews, StandsBehindCommit}
use Rattle.front_laws.proofs.FrontLaws.{front-among, front-behind}
use Rattle.front_laws.proofs.ManyLaws.{all-merged, all-run_again}
use Rattle.front_laws.proofs.NewIdsLaws.{new-given}
use Rattle.front_laws.proofs.SkippedLaws.{left-again}
use Rattle.front_laws.proofs.StopLaws.{active-among, active-behind}
use Rattle.run_promises.specs.Again.{AreTold, TakesUp}
use Rattle.cmd_session.specs.Ends.{EndedSession, SessionLeft, StoppedBefore, StoppedBehind}
use Rattle.call_parts.specs.LineRuns.{LineRan, log_in, write_count}
use Rattle.call_parts.specs.Told.{CallTold}
use Rattle.call_parts.specs.declared.report.Report.{Report}
use Rattle.call_parts.proofs.EndLaws.{count-append}
use Rattle.call_parts.proofs.FrontLaws.{front_of}
use Rattle.front_laws.proofs.RequestLaws.{no-limit, parts-are, writes-before}
use Rattle.run_promises.proofs.OneLaws.{IsOne, same_handheld, same_slots, told_slots}
use Rattle.run_promises.proofs.OverLaws.{MeetsTheSame, over-same}
use Rattle.cmd_files.proofs.QuietRuns.{IsKept, quiet-run}
use Rattle.run_promises.proofs.SkippedLaws.{asked-none, no-changes}
use Rattle.front_laws.proofs.SlotLaws.{merged-picked, merged-place, picked-near, same-place}

-- ---- a session

-- what is known of the session of a run: both sides before it, what went over the line, and what is left of them
pub record Ran : Type 0 where
  pub rules : List RuleValue
  pub meeting : Meeting
  pub before : CallTold
  pub after : CallTold
  pub report : Report
  pub picked : meeting.picked ≡ place_for meeting.device meeting.slots meeting.wishes.user
  pub handheld : IfSome before.palm.contents (λ held. HoldsAll held meeting.device.databases meeting.device.user)
  pub desktop : IsDesk (option_map finished before.desk.contents) meeting.slots
  pub line : LineRan rules meeting.device before.palm after.palm report
  pub left : SessionLeft meeting after.palm before.desk after.desk report

abbrev pub given_in : Ran → List ℕ
given_in ran = ran.report.given.items

pub some_writes : (m : Meeting) → 1 ≤ writes_before_commit m
unfolding writes_before_commit before_commit text
some_writes m =
    grind (
      arith,
      map text (all_news m (active m) (replicate (adds_of m) 0)),
      map-append text (before_writes m) (begin_mark m ∷ all_news m (active m) (replicate (adds_of m) 0)),
      count-append (map text (before_writes m)) (text (begin_mark m) ∷ (map text (all_news m (active m) (replicate (adds_of m) 0)))),
      changes-text (begin_mark m).asks,
    )

-- where a session ended it passed no limit, and wrote all
none-over : (ran : Ran) → EndedSession ran.meeting ran.after.palm ran.after.desk ran.report → first_over ran.meeting ≡ None
none-over ran ended =
    let none = replicate (adds_of ran.meeting) 0 in
    let parts = ap length (ended.issued ∙ sym (parts-are ran.meeting none))
    ∙ length-append (map text (before_commit ran.meeting none)) (map text (after_commit ran.meeting)) in
    no-limit ran.meeting none (log_in ran.report).issued (first_over ran.meeting) (omega (arith, parts)) ran.left.over

all-written : (ran : Ran) → EndedSession ran.meeting ran.after.palm ran.after.desk ran.report → writes_before_commit ran.meeting ≤ ran.report.writes
unfolding write_count
all-written ran ended =
    grind (
      arith,
      length (filter changes (requests ran.meeting)),
      parts-are ran.meeting (replicate (adds_of ran.meeting) 0),
      count-append (map text (before_commit ran.meeting (replicate (adds_of ran.meeting) 0))) (map text (after_commit ran.meeting)),
      writes-before ran.meeting (replicate (adds_of ran.meeting) 0),
    )

-- ---- a limit

-- nothing was written
pub record WroteNone (ran : Ran) : Type 0 where
  pub kept : IsKept ran.meeting.device ran.line.last
  pub none : ran.report.writes ≡ 0

-- no request that was performed changes anything
wrote_by : (ran : Ran) → filter changes (log_in ran.report).performed ≡ [] → WroteNone ran
unfolding write_count
wrote_by ran none =
    let log = log_in ran.report in
    record {
      kept = quiet-run log.performed log.replies ran.meeting.device ran.line.last none ran.line.ran.ran;
      none = ran.line.writes ∙ ap length none;
    }

-- which is so where a limit would be passed
pub wrote_none : (ran : Ran) → IsSome (first_over ran.meeting) → WroteNone ran
wrote_none ran over = wrote_by ran (no-changes ran.line ran.meeting (ran.left.over over))

-- and where the handheld has no slot
pub wrote-unseated : (ran : Ran) → IsErr (seat_of ran.meeting) → WroteNone ran
wrote-unseated ran unseated = wrote_by ran (asked-none ran.line (ran.left.unseated unseated))

-- it has one, or not
abbrev pub HasSeat : Meeting → Type 0
HasSeat m = IsSeated (seat_for (marks_of m.slots) m.wishes.user m.device.user)

pub seated_or : (m : Meeting) → HasSeat m ⊎ IsErr (seat_of m)
seated_or m = by (seat_for (marks_of m.slots) m.wishes.user m.device.user) refl
  where
    by : (found : Slot) → seat_for (marks_of m.slots) m.wishes.user m.device.user ≡ found → IsSeated found ⊎ IsErr (seat_of m)
    by (slot.Old place) is = inl tt
    by slot.New is = inl tt
    by slot.Refused is = inr (ap (λ f. is_err (user_with (marks_of m.slots) m.device.user f)) is)
    by slot.Full is = inr (ap (λ f. is_err (user_with (marks_of m.slots) m.device.user f)) is)

-- ---- what the next one meets

-- one that ended stands behind the commit too
pub ended-behind : (ran : Ran) → EndedSession ran.meeting ran.after.palm ran.after.desk ran.report
    → StoppedBehind ran.meeting ran.after.desk ran.report
ended-behind ran ended =
    record { stands = desk_stands ran.after.desk.contents (merged_slots ran.meeting (given_in ran)) ended.desktop; writes = all-written ran ended }

-- a session went before, and the next one is that of the folders that it left, where the same is asked
pub record Precedes (ran next : Ran) : Type 0 where
  pub told : AreTold ran.before
  pub next_told : AreTold next.before
  pub asks : AsksTheSame ran.meeting next.meeting
  pub names : next.meeting.wishes.user.name ≡ ran.meeting.wishes.user.name
  pub palm : next.before.palm.contents ≡ ran.after.palm.contents
  pub desk : FinishesAs ran.after.desk.contents next.before.desk.contents
  pub stopped : StoppedBefore ran.meeting ran.before.desk ran.after.desk ran.report ⊎ StoppedBehind ran.meeting ran.after.desk ran.report

-- the handheld is the one that the stopped session left
met-device : {ran next : Ran} → Precedes ran next
    → IsOne next.meeting.device.databases ran.line.last.databases next.meeting.device.user ran.line.last.user
met-device {ran} {next} is =
    same_handheld next.before.palm.contents ran.line.last next.meeting.device is.next_told.palm
    (subst (λ (told : Option FileMap). Stands told ran.line.last.databases ran.line.last.user) (sym is.palm) ran.line.stands) next.handheld

met-front : {ran next : Ran} → Precedes ran next → MeetingFront ran.meeting ran.report.writes (given_in ran) next.meeting.device
met-front {ran} is = grind (arith, met-device is, front_of ran.meeting.device (requests ran.meeting) ran.line ran.left.issued)

-- before the commit the slots are as they were, and behind it they are merged
slots-before : {ran next : Ran} → Precedes ran next → StoppedBefore ran.meeting ran.before.desk ran.after.desk ran.report
    → next.meeting.slots ≡ ran.meeting.slots
slots-before {ran} {next} is b =
    same_slots ran.before.desk.contents next.before.desk.contents is.told.desk is.next_told.desk (is.desk ∙ b.stands) ran.desktop next.desktop

slots-behind : (ran next : Ran) → Precedes ran next → StoppedBehind ran.meeting ran.after.desk ran.report
    → next.meeting.slots ≡ merged_slots ran.meeting (given_in ran)
slots-behind ran next is b =
    told_slots next.before.desk.contents is.next_told.desk
    (subst (λ (told : Option FileMap). IsDesk told (merged_slots ran.meeting (given_in ran))) (sym is.desk) b.stands) next.desktop

-- a session that came to the commit passed no limit
pub first-within : (ran : Ran) → StoppedBehind ran.meeting ran.after.desk ran.report → first_over ran.meeting ≡ None
first-within ran b = by (first_over ran.meeting) refl
  where
    by : (o : Option (List ℕ)) → first_over ran.meeting ≡ o → first_over ran.meeting ≡ None
    by None none = none
    by (Some name) over =
        let wrote = wrote_none ran (subst IsSome (sym over) refl) in
        let some = some_writes ran.meeting in
        absurd (omega (arith, some, b.writes, wrote.none))

-- where the next session passes no limit, the stopped one passed none: else the next would meet the same
first-none : (ran next : Ran) → Precedes ran next → first_over next.meeting ≡ None → first_over ran.meeting ≡ None
first-none ran next is none_next = by (first_over ran.meeting) refl
  where
    met : (name : List ℕ) → first_over ran.meeting ≡ Some name
        → StoppedBefore ran.meeting ran.before.desk ran.after.desk ran.report ⊎ StoppedBehind ran.meeting ran.after.desk ran.report → ⊥
    met name over (inl b) =
        let wrote = wrote_none ran (subst IsSome (sym over) refl) in
        let one = met-device is in
        let slots = slots-before is b in
        let user : next.meeting.device.user ≡ ran.meeting.device.user = one.user_is ∙ wrote.kept.user in
        let same : MeetsTheSame ran.meeting next.meeting = record {
          databases = one.databases ∙ wrote.kept.databases;
          user = user;
          slots = slots;
          picked = same-place ran.meeting next.meeting ran.picked next.picked is.names slots
              (ap (λ (u : UserInfo). u.user) user, ap (λ (u : UserInfo). u.name) user);
          actions = is.asks.actions;
          slow = is.asks.slow;
        } in
        let no : ◌≡◌ {A = Option (List ℕ)} (Some name) None = sym over ∙ sym (over-same same) ∙ none_next in
        cc
    met name over (inr b) =
        let no : ◌≡◌ {A = Option (List ℕ)} (Some name) None = sym over ∙ first-within ran b in
        cc

    by : (o : Option (List ℕ)) → first_over ran.meeting ≡ o → first_over ran.meeting ≡ None
    by None none = none
    by (Some name) over = absurd (met name over is.stopped)

-- ---- it runs again

pub number-of : {told : Option FileMap} (m : Meeting) → IsDesk told m.slots → 0 < (slot_of m).marks.pc
number-of {told} m is = subst (λ n. 0 < n) (sym (picked_number told m.slots m.picked is)) is.formed.number

pub user-begun : {m : Meeting} (next : Meeting) {given : List ℕ} → StandsAmongNews m given next.device
    → (next.device.user.user ≡ m.device.user.user) × (next.device.user.name ≡ m.device.user.name)
user-begun next stands = elim stands.begun [
  | inl begun ↦ (ap (λ (u : UserInfo). u.user) begun, ap (λ (u : UserInfo). u.name) begun)
  | inr same ↦ (ap (λ (u : UserInfo). u.user) same.0, ap (λ (u : UserInfo). u.name) same.0)
]

pub user-done : {m : Meeting} (next : Meeting) {given : List ℕ} → StandsBehindCommit m given next.device
    → ((next.device.user.user ≡ m.device.user.user) × (next.device.user.name ≡ m.device.user.name))
    ⊎ ((next.device.user.user ≡ (done_of m).user) × (next.device.user.name ≡ (done_of m).name))
unfolding merged_device
user-done next stands = elim stands.ended [
  | inl begun ↦ inl (ap (λ (u : UserInfo). u.user) begun, ap (λ (u : UserInfo). u.name) begun)
  | inr merged ↦ inr (ap (λ (u : UserInfo). u.user) merged.0, ap (λ (u : UserInfo). u.name) merged.0)
]

-- a session that came to the commit had a slot for the handheld: else it asked for the user alone
pub seated-behind : (ran : Ran) → StoppedBehind ran.meeting ran.after.desk ran.report → HasSeat ran.meeting
seated-behind ran b = elim (seated_or ran.meeting) [
  | inl seated ↦ seated
  | inr unseated ↦ absurd (let some = some_writes ran.meeting in let wrote = wrote-unseated ran unseated in omega (arith, some, b.writes, wrote.none))
]

-- where the one stopped, as the next one finds it
pub record IsFound (m next : Meeting) (writes : ℕ) (given : List ℕ) : Type 0 where
  pub picked : next.picked ≡ m.picked
  pub slot : HasSlot m next writes given
  pub kept : (name : List ℕ) → IsActive m name → IsActive next name

module _ {ran next : Ran} (is : Precedes ran next) (none : first_over ran.meeting ≡ None) where
  found-before : StoppedBefore ran.meeting ran.before.desk ran.after.desk ran.report → IsFound ran.meeting next.meeting ran.report.writes (given_in ran)
  found-before b =
      let m = ran.meeting in
      let stands = front-among m ran.report.writes (given_in ran) next.meeting.device ran.left.sound none (met-front is) b.writes in
      let slots = slots-before is b in
      let picked = same-place m next.meeting ran.picked next.picked is.names slots (user-begun next.meeting stands) in
      let slot : slot_of next.meeting ≡ slot_of m = (λ k. slot_at (slots k) (picked k)) in
      record { picked = picked; slot = inl (slot, b.writes); kept = λ name active. active-among m next.meeting (given_in ran) stands name active is.asks slot }

  found-behind : StoppedBehind ran.meeting ran.after.desk ran.report → IsFound ran.meeting next.meeting ran.report.writes (given_in ran)
  found-behind b =
      let m = ran.meeting in
      let stands = front-behind m ran.report.writes (given_in ran) next.meeting.device ran.left.sound none (met-front is) b.writes in
      let slots = slots-behind ran next is b in
      let picked = merged-place m next.meeting (given_in ran) ran.desktop.formed (seated-behind ran b) ran.picked next.picked (inl is.names) slots
      (user-done next.meeting stands) in
      let slot : slot_of next.meeting ≡ merged_slot m (given_in ran) =
      (λ k. slot_at (slots k) (picked k)) ∙ merged-picked m (given_in ran) (picked-near m m.wishes.user ran.picked) in
      record { picked = picked; slot = inr (slot, b.writes); kept = λ name active. active-behind m next.meeting (given_in ran) stands name active is.asks slot }

  pub is-found : IsFound ran.meeting next.meeting ran.report.writes (given_in ran)
  is-found = grind (arith, found-before, found-behind)

  pub runs-of : RunsAgain ran.meeting next.meeting ran.report.writes (given_in ran)
  runs-of = grind (arith, met-front is, is-found, number-of ran.meeting ran.desktop)

-- the ids that the new records of a database got in a session that ended
pub got-of : (ran : Ran) → EndedSession ran.meeting ran.after.palm ran.after.desk ran.report → (name : List ℕ) → IsActive ran.meeting name
    → GotAllIds (action_at ran.meeting name) (found_of ran.meeting name) (ids_at ran.meeting (given_in ran) name)
got-of ran ended name active =
    (front-behind ran.meeting ran.report.writes (given_in ran) ran.line.last ran.left.sound (none-over ran ended)
    (front_of ran.meeting.device (requests ran.meeting) ran.line ran.left.issued) (all-written ran ended)).free name active

-- ---- one behind another

-- whatever became of the others, the last one ended
abbrev pub AllPrecede : Ran → List Ran → Type 0
AllPrecede ran [] = EndedSession ran.meeting ran.after.palm ran.after.desk ran.report
AllPrecede ran (next ∷ later) = Precedes ran next × AllPrecede next later

abbrev pub last_ran : Ran → List Ran → Ran
last_ran ran [] = ran
last_ran ran (next ∷ later) = last_ran next later

abbrev pub laters : Ran → List Ran → List Later
laters ran [] = []
laters ran (next ∷ later) = record { next = next.meeting; writes = ran.report.writes; given = given_in ran } ∷ laters next later

last-is : (ran : Ran) (later : List Ran) → last_run ran.meeting (laters ran later) ≡ (last_ran ran later).meeting
last-is ran [] = refl
last-is ran (next ∷ later) = last-is next later

ended-last : (ran : Ran) (later : List Ran) → AllPrecede ran later
    → EndedSession (last_ran ran later).meeting (last_ran ran later).after.palm (last_ran ran later).after.desk (last_ran ran later).report
ended-last ran [] all = all
ended-last ran (next ∷ later) all = ended-last next later all.1

none-all : (ran : Ran) (later : List Ran) → AllPrecede ran later → first_over ran.meeting ≡ None
none-all ran [] all = none-over ran all
none-all ran (next ∷ later) all = first-none ran next all.0 (none-all next later all.1)

runs-all : (ran : Ran) (later : List Ran) → AllPrecede ran later → AllRunAgain ran.meeting (laters ran later)
runs-all ran [] all = tt
runs-all ran (next ∷ later) all =
    let none = none-all ran (next ∷ later) all in
    (ran.left.sound, none, runs-of all.0 none, runs-all next later all.1)

-- what goes on to the last one
record GoesOn (ran : Ran) (last : Meeting) : Type 0 where
  picked : last.picked ≡ ran.meeting.picked
  kept : (name : List ℕ) → IsActive ran.meeting name → IsActive last name
  action : (name : List ℕ) → action_at last name ≡ action_at ran.meeting name

goes-on : (ran : Ran) (later : List Ran) → AllPrecede ran later → GoesOn ran (last_ran ran later).meeting
goes-on ran [] all = record { picked = refl; kept = λ name active. active; action = λ name. refl }
goes-on ran (next ∷ later) all = grind (arith, goes-on next later all.1, is-found all.0 (none-all ran (next ∷ later) all))

pub taken-up : (ran : Ran) (later : List Ran) → AllPrecede ran later
    → TakesUp ran.meeting (laters ran later) (given_in (last_ran ran later)) (last_ran ran later).after
taken-up ran later all =
    let last = last_ran ran later in
    let given = given_in last in
    let ended = ended-last ran later all in
    let on = goes-on ran later all in
    let now : last.meeting ≡ last_run ran.meeting (laters ran later) = sym (last-is ran later) in
    let new = new-given ran.meeting ran.left.sound (none-all ran later all) in
    let got : (name : List ℕ) → IsActive ran.meeting name → GotAllIds (action_at ran.meeting name)
    (found_of (last_run ran.meeting (laters ran later)) name) (ids_at (last_run ran.meeting (laters ran later)) given name) =
    λ name active. subst (λ (m : Meeting). GotAllIds (action_at ran.meeting name) (found_of m name) (ids_at m given name)) now
    (subst (λ a. GotAllIds a (found_of last.meeting name) (ids_at last.meeting given name)) (on.action name)
    (got-of last ended name (on.kept name active))) in
    record {
      handheld = subst (λ (m : Meeting). Stands last.after.palm.contents (merged_device m given).databases (merged_device m given).user) now ended.handheld;
      desktop = subst (λ (m : Meeting). IsDesk last.after.desk.contents (merged_slots m given)) now ended.desktop;
      slot = subst (λ (m : Meeting). slot_at (merged_slots m given) ran.meeting.picked ≡ merged_slot m given) now
          (subst (λ k. slot_at (merged_slots last.meeting given) k ≡ merged_slot last.meeting given) on.picked
          (merged-picked last.meeting given (picked-near last.meeting last.meeting.wishes.user last.picked)));
      kept = λ name active. subst (λ (m : Meeting). IsActive m name) now (on.kept name active);
      each = λ name new active fresh can.
          (all-run_again ran.meeting (laters ran later) given new name ran.left.sound (runs-all ran later all) active fresh
          (got name active) can.got can.unknown).1;
      merged = λ name active fresh.
          all-merged ran.meeting (laters ran later) given name ran.left.sound (runs-all ran later all) active fresh (got name active);
      can = (new.0, λ name active. record { got = (new.1 name active).0; unknown = (new.1 name active).1 });
      skipped = λ name idle. left-again ran.meeting (laters ran later) given name (runs-all ran later all) idle;
    }
