-- Categories that were brought together stay as they are, and those of a session that stopped are made up for.
use Rattle.std.proofs.Math.Seq.{map-set_same}
use Rattle.std.proofs.Common.{◌≡◌, ◌∙◌, ◌⊎◌, ap, arith, inl, inr, refl, subst, sym, ℕ, List, [], ◌∷◌, length, take}
use Rattle.std.specs.Prelude.{IsErr, IsOk, Option, None, Some, Result, Ok, Err}
use Rattle.std.specs.Option.{option_map}
use Rattle.hs_folders.specs.FileMaps.{FileMap}
use Rattle.pdb_values.specs.declared.user.Marks.{Marks}
use Rattle.desktop_session.specs.Seats.{no_wish, seat_for}
use Rattle.pdb_values.specs.declared.slot.Slot.{Slot}
use Rattle.pdb_values.specs.declared.slot.Slot.TheVariants as slot
use Rattle.desk_store.specs.declared.change.DbChange.{DbChange}
use Rattle.pdb_values.specs.declared.user.UserInfo.{UserInfo}
use Rattle.palm_device.specs.Devices.{Device}
use Rattle.handheld_files.specs.Openings.{Stands}
use Rattle.desk_journal.specs.Overlays.{FinishesAs, finished}
use Rattle.desk_store.specs.Desks.{IsDesk}
use Rattle.desk_store.specs.Shelves.{SlotValue, new_slot, number_of}
use Rattle.desk_journal.proofs.FinishLaws.{plain_finished}
use Rattle.desktop_session.specs.Acts.{text}
use Rattle.desktop_session.specs.Greetings.{user_with}
use Rattle.desktop_session.specs.Requests.{reading_user}
use Rattle.desktop_session.specs.Says.{IsPrefix}
use Rattle.desktop_session.specs.declared.fault.SessionFault.{SessionFault}
use Rattle.category_mirror.specs.FilingEnds.{IsFileable, StandsFiled, marks_in, seat_of}
use Rattle.category_mirror.specs.Sides.{Filing, StandsBehind, StandsMarked, StandsUnmarked, block_writes, device_among, filed_device, filed_slots, filing_changes, filing_of, names}
use Rattle.category_mirror.specs.FilingActs.{marked_user}
use Rattle.category_mirror.proofs.TwiceLaws.{marked-seat}
use Rattle.category_mirror.proofs.DoneLaws.{among_all, filed_closed}
use Rattle.category_mirror.proofs.TwiceLaws.{marked_device, marked_slots, second_changes, second_device, second_slots, stopped_device, stopped_slots}
use Rattle.run_words.specs.Betweens.{Between}
use Rattle.cmd_status.specs.declared.status.Status.{Status}
use Rattle.run_promises.specs.Calls.{Call}
use Rattle.call_parts.specs.Causes.{HasBegun}
use Rattle.run_promises.specs.FilingCalls.{IsSecondCall, StandsTogether}
use Rattle.cmd_session.specs.Filings.{CategoriesRan, EndedFiling, StoppedFiling}
use Rattle.call_parts.specs.LineRuns.{log_in}
use Rattle.call_parts.specs.Told.{CallTold}
use Rattle.call_parts.specs.declared.report.Report.{Report}
use Rattle.call_parts.specs.declared.report.SessionEnd.{SessionEnd}
use Rattle.run_promises.proofs.FilingPromises.{filing_ran}
use Rattle.cmd_session.proofs.FilingSaid.{one-more, two-first}
use Rattle.run_promises.proofs.FilingUnseated.{unseated_changes}
use Rattle.run_promises.proofs.FilingWritten.{user_all, written_all}
use Rattle.front_laws.proofs.RequestLaws.{prefix-length}
use Rattle.run_promises.proofs.OneLaws.{IsOne, same_handheld, same_slots, told_slots}
use Rattle.call_parts.specs.declared.report.SessionEnd.TheVariants.{Ended, NotStarted, Stopped}

same_device : (one other : Device) → one.databases ≡ other.databases → one.user ≡ other.user → one.handles ≡ other.handles → one ≡ other
same_device one other databases user handles = grind arith

-- a desktop's folder without a journal is as it is once one is finished
still : (told : Option FileMap) {slots : List SlotValue} → IsDesk told slots → IsDesk (option_map finished told) slots
still None desk = desk
still (Some held) {slots} desk = subst (λ (f : FileMap). IsDesk (Some f) slots) (sym (plain_finished held desk.stands.no_journal)) desk

-- a session leaves the marks of the slots as they are
filed_marks : (filing : Filing) → marks_in (record { device = filed_device filing; slots = filed_slots filing; picked = filing.picked }) ≡ marks_in filing
unfolding filed_slots
filed_marks filing = map-set_same (λ (s : SlotValue). s.marks) filing.slots filing.picked _ (new_slot (number_of filing.slots)) refl

-- a mark leaves a user a slot, or none
ok_with : (marks : List Marks) (changes : List DbChange) (user : UserInfo) (found : Slot)
    → IsOk (user_with marks (marked_user changes user) found) → IsOk (user_with marks user found)
ok_with marks changes user (slot.Old place) is = refl
ok_with marks changes user slot.New is = refl
ok_with marks changes user slot.Refused is = absurd (let never : ⊥ = cc in never)
ok_with marks changes user slot.Full is = absurd (let never : ⊥ = cc in never)

err_with : (marks : List Marks) (changes : List DbChange) (user : UserInfo) (found : Slot)
    → IsErr (user_with marks user found) → IsErr (user_with marks (marked_user changes user) found)
err_with marks changes user (slot.Old place) is = absurd (let never : ⊥ = cc in never)
err_with marks changes user slot.New is = absurd (let never : ⊥ = cc in never)
err_with marks changes user slot.Refused is = refl
err_with marks changes user slot.Full is = refl

-- ---- a session that ended

module _ (words : Between) (before after : CallTold) (status : Status) (report : Report) (ran : CategoriesRan words before after status report)
    (over : report.end ≡ Ended) where
  abbrev own : Filing
  own = filing_of ran.device ran.slots

  not_alone : IsPrefix (log_in report).issued (text reading_user ∷ []) → ⊥
  not_alone prefix =
      let few = prefix-length prefix in
      let same = ap (λ (l : List (List ℕ)). length l) (ran.had.left.ended over).said.issued in
      let more = one-more own in
      let some = two-first own in
      omega (arith, few, same, more, some)

  -- it had a slot for the handheld's user
  seated : IsOk (seat_of own)
  seated = by (seat_of own) refl
    where
      by : (seat : Result UserInfo SessionFault) → seat_of own ≡ seat → IsOk (seat_of own)
      by (Ok user) here = subst IsOk (sym here) refl
      by (Err why) here = absurd (not_alone (ran.had.left.unseated (subst IsErr (sym here) refl)))

-- ---- a session behind another

module _ (first second : Call) (is : IsSecondCall first second)
    (one : CategoriesRan is.words first.before first.after first.status first.report)
    (two : CategoriesRan is.other second.before second.after second.status second.report) where
  abbrev filing : Filing
  filing = filing_of one.device one.slots

  abbrev again : Filing
  again = filing_of two.device two.slots

  alike : (device : Device) (slots : List SlotValue) → two.device ≡ device → two.slots ≡ slots → again ≡ filing_of device slots
  alike device slots devices both = ap (λ (d : Device). filing_of d two.slots) devices ∙ ap (λ (s : List SlotValue). filing_of device s) both

  stand_so : {other : Filing} → again ≡ other → filed_device other ≡ filed_device filing → filed_slots other ≡ filed_slots filing
      → second.report.end ≡ Ended → StandsTogether filing second.after
  stand_so same devices slots over =
      let last = two.had.left.ended over in
      record {
        handheld = subst (λ (d : Device). Stands second.after.palm.contents d.databases d.user) (ap filed_device same ∙ devices) last.handheld;
        desktop = subst (λ (s : List SlotValue). IsDesk second.after.desk.contents s) (ap filed_slots same ∙ slots) last.desktop;
      }

  -- the handheld that the first one left
  left_palm : (last : Device) → Stands first.after.palm.contents last.databases last.user
      → IsOne two.device.databases last.databases two.device.user last.user
  left_palm last stands =
      same_handheld second.before.palm.contents last two.device is.told_next.palm
      (subst (λ (t : Option FileMap). Stands t last.databases last.user) (sym is.palm) stands) two.handheld

  -- ---- behind one that left both sides filed

  module _ (palm : IsOne two.device.databases (filed_device filing).databases two.device.user (filed_device filing).user)
      (desk : StandsFiled filing first.after.desk.contents) where
    slots_same : two.slots ≡ filed_slots filing
    slots_same = told_slots second.before.desk.contents is.told_next.desk (subst (StandsFiled filing) (sym is.desk) desk) two.desktop

    again_is : again ≡ filing_of (filed_device filing) (filed_slots filing)
    again_is = alike (filed_device filing) (filed_slots filing)
        (same_device two.device (filed_device filing) palm.databases palm.user_is
        (two.closed ∙ sym (filed_closed filing one.had.left.sound.rests))) slots_same

    fileable : IsOk (seat_of filing) → IsFileable one.device one.slots
    fileable seat = record {
      rests = one.had.left.sound.rests;
      formed = one.desktop.formed;
      ordered = one.desktop.ordered;
      bounded = one.had.left.sound.bounded;
      seated = seat;
    }

    abbrev known : UserInfo
    known = marked_user (filing_changes filing) one.device.user

    -- both have the same users, and the same slot for the handheld's
    again_seat : seat_of again ≡ user_with (marks_in filing) known (seat_for (marks_in filing) no_wish one.device.user)
    unfolding filed_device
    again_seat =
        ap seat_of again_is
        ∙ ap (λ (marks : List Marks). user_with marks known (seat_for marks no_wish known)) (filed_marks filing)
        ∙ ap (λ found. user_with (marks_in filing) known found) (marked-seat (filing_changes filing) one.device.user (marks_in filing))

    ok_seat : IsOk (seat_of again) → IsOk (seat_of filing)
    ok_seat is =
        ok_with (marks_in filing) (filing_changes filing) one.device.user (seat_for (marks_in filing) no_wish one.device.user) (subst IsOk again_seat is)

    err_seat : IsErr (seat_of filing) → IsErr (seat_of again)
    err_seat is =
        subst IsErr (sym again_seat)
        (err_with (marks_in filing) (filing_changes filing) one.device.user (seat_for (marks_in filing) no_wish one.device.user) is)

    -- no row changes any more
    no_changes : filing_changes again ≡ []
    no_changes = by (seat_of filing) refl
      where
        by : (seat : Result UserInfo SessionFault) → seat_of filing ≡ seat → filing_changes again ≡ []
        by (Ok user) here = ap filing_changes again_is ∙ second_changes one.device one.slots (fileable (subst IsOk (sym here) refl))
        by (Err why) here = unseated_changes two.device two.slots (err_seat (subst IsErr (sym here) refl))

    untouched_so : second.after.desk.contents ≡ option_map finished second.before.desk.contents
    untouched_so = two.had.left.untouched no_changes

    together_so : second.report.end ≡ Ended → StandsTogether filing second.after
    together_so over =
        let may = fileable (ok_seat (seated is.other second.before second.after second.status second.report two over)) in
        stand_so again_is (second_device one.device one.slots may) (second_slots one.device one.slots may) over

  -- ---- behind one that ended

  module _ (ended : first.report.end ≡ Ended) where
    left : EndedFiling filing first.after.palm first.after.desk first.report
    left = one.had.left.ended ended

    filed_palm : IsOne two.device.databases (filed_device filing).databases two.device.user (filed_device filing).user
    filed_palm = left_palm (filed_device filing) left.handheld

    filed_desk : StandsFiled filing first.after.desk.contents
    filed_desk = still first.after.desk.contents left.desktop

    pub untouched_again : second.after.desk.contents ≡ option_map finished second.before.desk.contents
    untouched_again = untouched_so filed_palm filed_desk

    together_again : second.report.end ≡ Ended → StandsTogether filing second.after
    together_again = together_so filed_palm filed_desk

  -- ---- behind one that stopped

  abbrev reached : Device
  reached = one.had.left.handheld.reached

  abbrev behind : StandsBehind filing first.report.writes reached
  behind = one.had.left.handheld.behind

  abbrev done : List (List ℕ)
  done = take behind.count (names filing)

  palm_some : IsOne two.device.databases reached.databases two.device.user reached.user
  palm_some = left_palm reached one.had.left.handheld.stands

  abbrev Unmarked : Type 0
  Unmarked = StandsUnmarked filing behind.count first.report.writes reached

  abbrev Marked : Type 0
  Marked = StandsMarked filing behind.count first.report.writes reached

  device_some : Unmarked → two.device ≡ device_among filing done
  unfolding device_among
  device_some front = same_device two.device (device_among filing done) (palm_some.databases ∙ behind.databases)
      (palm_some.user_is ∙ front.user) (two.closed ∙ sym one.closed)

  -- in front of the mark, and behind it
  front_palm : first.report.writes ≡ block_writes filing → Unmarked
      → IsOne two.device.databases (filed_device filing).databases two.device.user (filed_device filing).user
  front_palm written front =
      let all = sym written ∙ front.written in
      record {
        databases = palm_some.databases ∙ behind.databases ∙ written_all filing one.had.left.sound.rests behind.count all;
        user_is = palm_some.user_is ∙ front.user ∙ user_all filing one.had.left.sound.rests behind.count all;
      }

  marked_palm : Marked → IsOne two.device.databases (filed_device filing).databases two.device.user (filed_device filing).user
  unfolding filed_device
  marked_palm marked = record {
    databases = palm_some.databases ∙ behind.databases ∙ ap (λ (ns : List (List ℕ)). (device_among filing ns).databases) marked.whole
        ∙ among_all filing one.had.left.sound.rests;
    user_is = palm_some.user_is ∙ marked.user;
  }

  all_palm : first.report.writes ≡ block_writes filing
      → IsOne two.device.databases (filed_device filing).databases two.device.user (filed_device filing).user
  all_palm written = by behind.stage
    where
      by : Unmarked ⊎ Marked → IsOne two.device.databases (filed_device filing).databases two.device.user (filed_device filing).user
      by (inl front) = front_palm written front
      by (inr marked) = marked_palm marked

  pub untouched_filed : StandsFiled filing first.after.desk.contents → first.report.writes ≡ block_writes filing
      → second.after.desk.contents ≡ option_map finished second.before.desk.contents
  untouched_filed desk written = untouched_so (all_palm written) desk

  made_up_for : StoppedFiling filing first.before.desk first.after.desk first.report → second.report.end ≡ Ended → StandsTogether filing second.after
  made_up_for (inl stays) =
      let slots_stay : two.slots ≡ one.slots =
      same_slots first.before.desk.contents second.before.desk.contents is.told.desk is.told_next.desk
      (subst (λ (t : Option FileMap). FinishesAs first.before.desk.contents t) (sym is.desk) stays) one.desktop two.desktop in
      by slots_stay behind.stage
    where
      by : two.slots ≡ one.slots → Unmarked ⊎ Marked → second.report.end ≡ Ended → StandsTogether filing second.after
      by slots_stay (inl front) =
          stand_so (alike (device_among filing done) one.slots (device_some front) slots_stay) (stopped_device one.device one.slots done)
          (stopped_slots one.device one.slots done)
      by slots_stay (inr marked) =
          let palm = marked_palm marked in
          let device = same_device two.device (filed_device filing) palm.databases palm.user_is
          (two.closed ∙ sym (filed_closed filing one.had.left.sound.rests)) in
          stand_so (alike (filed_device filing) one.slots device slots_stay) (marked_device one.device one.slots one.had.left.sound.rests)
          (marked_slots one.device one.slots one.had.left.sound.rests)
  made_up_for (inr filed) = together_so (all_palm filed.1) filed.0

  pub behind_any : HasBegun first.report.end → second.report.end ≡ Ended → StandsTogether filing second.after
  behind_any begun over = by first.report.end refl begun
    where
      by : (end : SessionEnd) → first.report.end ≡ end → HasBegun end → StandsTogether filing second.after
      by NotStarted is begun = absurd begun
      by Ended is begun = together_again is over
      by Stopped is begun = made_up_for (one.had.left.stopped is) over

-- ---- by both calls
module _ (first second : Call) (is : IsSecondCall first second) where
  abbrev One : Type 0
  One = CategoriesRan is.words first.before first.after first.status first.report

  one_ran : HasBegun first.report.end → One
  one_ran = filing_ran first is.words is.answered is.task

  two_ran : HasBegun second.report.end → CategoriesRan is.other second.before second.after second.status second.report
  two_ran = filing_ran second is.other is.answered_next is.task_next

  pub desktop_untouched : first.report.end ≡ Ended → HasBegun second.report.end
      → second.after.desk.contents ≡ option_map finished second.before.desk.contents
  desktop_untouched ended begun = untouched_again first second is (one_ran (subst HasBegun (sym ended) tt)) (two_ran begun) ended

  pub desktop_behind : (ran : One) → StandsFiled (filing_of ran.device ran.slots) first.after.desk.contents
      → first.report.writes ≡ block_writes (filing_of ran.device ran.slots) → HasBegun second.report.end
      → second.after.desk.contents ≡ option_map finished second.before.desk.contents
  desktop_behind ran desk written begun = untouched_filed first second is ran (two_ran begun) desk written

  pub come_together : HasBegun first.report.end → second.report.end ≡ Ended
      → (ran : One) × StandsTogether (filing_of ran.device ran.slots) second.after
  come_together begun over =
      let one = one_ran begun in
      (one, behind_any first second is one (two_ran (subst HasBegun (sym over) tt)) begun over)
