-- What is known of a session between made folders, by what its calls answered.
use Rattle.std.proofs.lemmas.Grind.{common_steps}
use Rattle.std.proofs.Common.{◌≡◌, ◌∙◌, ◌⊎◌, ◌≤◌, inl, inr, ℕ, refl, sym, ap, subst, arith, List, [], length}
use Rattle.std.specs.Prelude.{Option, None, Some, false}
use Rattle.std.specs.Option.{option_map}
use Rattle.hs_folders.specs.Causes.{Rose}
use Rattle.hs_folders.specs.FileMaps.{FileMap}
use Rattle.palm_device.specs.Devices.{Device}
use Rattle.palm_device.specs.Handles.{no_handles}
use Rattle.handheld_files.specs.Openings.{HoldsAll}
use Rattle.desk_journal.specs.Overlays.{finished}
use Rattle.desk_store.specs.Desks.{IsDesk}
use Rattle.desk_store.specs.Shelves.{SlotValue}
use Rattle.trace_text.specs.Proper.{AreNumbered}
use Rattle.line_script.specs.Rules.{RuleValue}
use Rattle.line_script.specs.Scripts.{fate_by}
use Rattle.pdb_values.specs.declared.slot.Slot.TheVariants as slot
use Rattle.line_world.specs.Causes.{BearsOut}
use Rattle.run_words.specs.Runs.{Run}
use Rattle.sync_session.specs.Outcomes.{IsOtherUser, slot_in}
use Rattle.session_plan.specs.Reports.{reports}
use Rattle.session_plan.specs.Tasks.{Meeting, meeting_of}
use Rattle.session_plan.specs.declared.wishes.Wishes.{Wishes}
use Rattle.made_folders.specs.Items.{generator_of, made}
use Rattle.made_folders.specs.Sides.{desktop_files, handheld_files}
use Rattle.made_folders.specs.declared.item.Item.{Item}
use Rattle.made_folders.proofs.ItemLaws.{length-items_from}
use Rattle.made_folders.specs.MadeMerges.{IsMadeMerge}
use Rattle.made_folders.proofs.NumberLaws.{drawn_are_made}
use Rattle.call_parts.specs.Causes.{EndsAs, IsLineDown, IsUnsaid, cause_in}
use Rattle.cmd_session.specs.Ends.{StatusShows}
use Rattle.call_parts.specs.LineRuns.{frames_in}
use Rattle.cmd_session.specs.Makes.{HasMade, MadeNothing, MadeRan, files_told, made_run, made_script, made_told}
use Rattle.cmd_status.specs.Printed.{IsPrintedStatus}
use Rattle.call_parts.specs.Sessions.{KeptSilent}
use Rattle.cmd_session.specs.Talks.{IsRunTalk, BegunSession, TalkedFor}
use Rattle.call_parts.specs.Told.{FolderTold, SidesTold}
use Rattle.call_parts.specs.declared.report.Report.{Report}
use Rattle.cmd_status.specs.declared.status.Status.{Status}
use Rattle.cmd_status.specs.declared.status.Status.TheVariants.{Done, Usage, BadWord, BadScript, TooLong, BadFile, TooMany, HandheldFolder, DesktopFolder, SourceRead}
use Rattle.cmd_status.specs.declared.status.Status.TheVariants.{TraceWrite, OutWrite, NoMemory, LineDown, Unplugged, Aborted, Undetected, OtherUser}
use Rattle.cmd_status.specs.declared.status.Status.TheVariants.{TooManyUsers, Limit, NewHandheld, WrongSide, InUse, CannotExport, BadRecord, BadText, Overfull, BadTrace, NotProper, BadCategories, CannotInstall, NotBackupFolder, SameDatabase}
use Rattle.cmd_status.specs.declared.status.Status.TheVariants.{StreamEnded, StreamAborted, BadHello, Refused, BadReply}
use Rattle.cmd_status.specs.declared.status.Status.TheVariants.{PortFailed, NoHandheld, LineSilent, LineEndless, PeerAborted, PeerBeganAnew}
use Rattle.cmd_session.proofs.MadeItems.{drawn_short}
use Rattle.cmd_session.proofs.MadeLimits.{none_lost, none_over}
use Rattle.cmd_session.proofs.MadeReports.{AsksNothing, made_device, made_meeting, made_meets, made_seat, made_slot, reports_are}
use Rattle.cmd_session.proofs.MadeSides.{AreItems, made_desktop, made_finished, made_handheld, made_user_is}
use Rattle.cmd_session.proofs.MakeLines.{made_fair, never_stops}
use Rattle.call_parts.proofs.RetoldLaws.{by_end_both, by_end_then, retold_printed}
use Rattle.cmd_session.proofs.RetoldTalks.{talked_retold}

-- ---- the made folders

-- what a seed and a count make
pub made_items : (seed count : ℕ) → count ≤ 5000 → AreItems (made seed count)
made_items seed count few =
    grind (
      arith,
      drawn_are_made 1 count (generator_of seed),
      drawn_short 1 count (generator_of seed) (omega (arith, few)),
      length-items_from 1 count (generator_of seed),
    )

-- opening leaves the made desktop as it is
pub made_opened : (items : List Item) {before after : Option FileMap} → before ≡ Some (desktop_files items) → after ≡ option_map finished before
    → after ≡ Some (desktop_files items)
made_opened items is opened = opened ∙ ap (option_map finished) is ∙ sym (made_finished items)

-- ---- the session

-- a folder that tells its files alone
pub told_alone : {told : Option FileMap} {files : FileMap} → told ≡ Some files
    → ◌≡◌ {A = FolderTold} (record { contents = told; moments = None; paths = None; faults = 0 }) (files_told files)
told_alone is = λ k. record { contents = is k; moments = None; paths = None; faults = 0 }

-- a session is that of the made folders
pub made_given : (items : List Item) {run : Run} {rules : List RuleValue} {device : Device} {slots : List SlotValue}
    {before after : SidesTold} {status : Status} {report : Report}
    → run ≡ made_run → rules ≡ made_script → before.palm ≡ files_told (handheld_files items) → before.desk ≡ files_told (desktop_files items)
    → IsRunTalk run rules device slots before after status report → IsRunTalk made_run made_script device slots (made_told items) after status report
made_given items {run} {rules} {device} {slots} {before} {after} {status} {report} run_is rules_are palm_is desk_is talk =
    let sides : before ≡ made_told items = λ k. record { palm = palm_is k; desk = desk_is k } in
    subst (λ (r : Run). IsRunTalk r made_script device slots (made_told items) after status report) run_is
    (subst (λ (r : List RuleValue). IsRunTalk run r device slots (made_told items) after status report) rules_are
    (subst (λ (s : SidesTold). IsRunTalk run rules device slots s after status report) sides talk))

meets : (items : List Item) (device : Device) (slots : List SlotValue) (wishes : Wishes) → AreItems items
    → HoldsAll (handheld_files items) device.databases device.user → device.handles ≡ no_handles → IsDesk (Some (desktop_files items)) slots
    → meeting_of device slots wishes ≡ made_meeting items wishes
meets items device slots wishes are holds closed desk =
    let one = made_desktop are desk in
    made_meets device wishes (made_handheld are holds) (made_user_is items holds) closed one.1 one.2

asks_nothing : (wishes : Wishes) → wishes.slow ≡ false → wishes.actions.items ≡ [] → AsksNothing wishes
asks_nothing wishes slow actions = record { slow = slow; actions = actions }

pub made_talk : {items : List Item} {device : Device} {slots : List SlotValue} (after : SidesTold) {status : Status} {report : Report}
    → AreItems items → IsMadeMerge items → HoldsAll (handheld_files items) device.databases device.user → device.handles ≡ no_handles
    → IsDesk (Some (desktop_files items)) slots → IsRunTalk made_run made_script device slots (made_told items) after status report
    → HasMade items status report
made_talk {items} {device} {slots} after {status} {report} are merged holds closed desk talk =
    by_end_then report.end {A = KeptSilent (made_told items) after status report}
    {B = TalkedFor made_run made_script device slots (made_told items) after status report} {C = MadeNothing status report}
    {D = MadeRan items status report} (λ kept. record { memory = kept.memory; report_is = kept.report_is }) (λ had. record {
      device = device;
      handheld = holds;
      closed = closed;
      slots = slots;
      desktop = desk;
      after = after;
      talked = had;
      databases = λ ended. (had.talked.left.ended ended).databases
          ∙ ap reports (meets items device slots had.wishes are holds closed desk)
          ∙ reports_are items had.wishes (asks_nothing had.wishes had.asked.slow had.asked.actions) merged;
    }) talk.shown

-- ---- its status

no_rise : Rose 0 0 → ⊥
no_rise rose = omega (arith, rose)

-- the handheld has the one slot
own_slot : (items : List Item) (wishes : Wishes) → slot_in (made_meeting items wishes) ≡ slot.Old 0
unfolding made_meeting made_device made_slot
own_slot items wishes = made_seat (record { pc = 1; user = 0; last = 0; name = [] }) wishes.user refl

not_other : (items : List Item) (wishes : Wishes) {handheld desktop : ℕ} → IsOtherUser (made_meeting items wishes) handheld desktop → ⊥
not_other items wishes is = let refused : slot.Refused ≡ slot.Old 0 = sym is.slot ∙ own_slot items wishes in cc

not_full : (items : List Item) (wishes : Wishes) → slot_in (made_meeting items wishes) ≡ slot.Full → ⊥
not_full items wishes is = let full : slot.Full ≡ slot.Old 0 = sym is ∙ own_slot items wishes in cc

-- it was done, or memory ran out
module _ {items : List Item} (after : SidesTold) (report : Report) (are : AreItems items) (merged : IsMadeMerge items)
    (calm : after.palm.faults ≡ 0) (steady : after.desk.faults ≡ 0) where
  by_status : {wishes : Wishes} (status : Status) → AsksNothing wishes → EndsAs status report.end → IsUnsaid status → (IsLineDown status → ⊥)
      → BearsOut (cause_in status report.faulted.items) (frames_in report) → AreNumbered 1 (fate_by made_script) (frames_in report)
      → StatusShows (made_meeting items wishes) report status → (status ≡ HandheldFolder → Rose 0 after.palm.faults)
      → (status ≡ DesktopFolder → Rose 0 after.desk.faults) → (status ≡ Done) ⊎ (status ≡ NoMemory)
  by_status Done asks ends unsaid up caused numbered shows palm desk = inl refl
  by_status NoMemory asks ends unsaid up caused numbered shows palm desk = inr refl
  by_status Usage asks ends unsaid up caused numbered shows palm desk = absurd ends
  by_status (BadWord command kind word) asks ends unsaid up caused numbered shows palm desk = absurd ends
  by_status (BadScript line) asks ends unsaid up caused numbered shows palm desk = absurd ends
  by_status TooLong asks ends unsaid up caused numbered shows palm desk = absurd ends
  by_status (BadFile side name kind place) asks ends unsaid up caused numbered shows palm desk = absurd ends
  by_status (TooMany end) asks ends unsaid up caused numbered shows palm desk = absurd ends
  by_status (WrongSide end) asks ends unsaid up caused numbered shows palm desk = absurd ends
  by_status (InUse end) asks ends unsaid up caused numbered shows palm desk = absurd ends
  by_status SourceRead asks ends unsaid up caused numbered shows palm desk = absurd ends
  by_status (CannotExport name form) asks ends unsaid up caused numbered shows palm desk = absurd ends
  by_status (BadRecord index place) asks ends unsaid up caused numbered shows palm desk = absurd ends
  by_status (BadText line flaw) asks ends unsaid up caused numbered shows palm desk = absurd ends
  by_status (Overfull what) asks ends unsaid up caused numbered shows palm desk = absurd ends
  by_status (BadTrace line) asks ends unsaid up caused numbered shows palm desk = absurd ends
  by_status (NotProper rule) asks ends unsaid up caused numbered shows palm desk = absurd ends
  by_status (BadCategories name) asks ends unsaid up caused numbered shows palm desk = absurd ends
  by_status (CannotInstall name) asks ends unsaid up caused numbered shows palm desk = absurd ends
  by_status NotBackupFolder asks ends unsaid up caused numbered shows palm desk = absurd ends
  by_status (SameDatabase first second) asks ends unsaid up caused numbered shows palm desk = absurd ends
  by_status StreamEnded asks ends unsaid up caused numbered shows palm desk = absurd ends
  by_status StreamAborted asks ends unsaid up caused numbered shows palm desk = absurd ends
  by_status BadHello asks ends unsaid up caused numbered shows palm desk = absurd ends
  by_status PortFailed asks ends unsaid up caused numbered shows palm desk = absurd ends
  by_status NoHandheld asks ends unsaid up caused numbered shows palm desk = absurd ends
  by_status LineSilent asks ends unsaid up caused numbered shows palm desk = absurd ends
  by_status LineEndless asks ends unsaid up caused numbered shows palm desk = absurd ends
  by_status PeerAborted asks ends unsaid up caused numbered shows palm desk = absurd ends
  by_status PeerBeganAnew asks ends unsaid up caused numbered shows palm desk = absurd ends
  by_status (Refused function code) asks ends unsaid up caused numbered shows palm desk = absurd ends
  by_status (BadReply function) asks ends unsaid up caused numbered shows palm desk = absurd ends
  by_status HandheldFolder asks ends unsaid up caused numbered shows palm desk = absurd (no_rise (subst (Rose 0) calm (palm refl)))
  by_status DesktopFolder asks ends unsaid up caused numbered shows palm desk = absurd (no_rise (subst (Rose 0) steady (desk refl)))
  by_status TraceWrite asks ends unsaid up caused numbered shows palm desk = absurd unsaid
  by_status OutWrite asks ends unsaid up caused numbered shows palm desk = absurd unsaid
  by_status (LineDown end) asks ends unsaid up caused numbered shows palm desk = absurd (up tt)
  by_status (Unplugged number) asks ends unsaid up caused numbered shows palm desk = absurd (never_stops numbered caused.1)
  by_status (Aborted number) asks ends unsaid up caused numbered shows palm desk = absurd (never_stops numbered caused.1)
  by_status (Undetected number) asks ends unsaid up caused numbered shows palm desk = absurd (never_stops numbered caused.1)
  by_status {wishes} (OtherUser handheld desktop) asks ends unsaid up caused numbered shows palm desk = absurd (not_other items wishes shows.0)
  by_status {wishes} TooManyUsers asks ends unsaid up caused numbered shows palm desk = absurd (not_full items wishes shows.0)
  by_status (Limit name) asks ends unsaid up caused numbered shows palm desk =
      let none = none_over are asks merged in let some = shows.0 in absurd cc
  by_status (NewHandheld name) asks ends unsaid up caused numbered shows palm desk =
      let none = none_lost are asks in let some = shows.1 in absurd cc

  pub made_ends : {device : Device} {slots : List SlotValue} {status : Status} → HoldsAll (handheld_files items) device.databases device.user
      → device.handles ≡ no_handles → IsDesk (Some (desktop_files items)) slots
      → IsRunTalk made_run made_script device slots (made_told items) after status report → IsUnsaid status → (status ≡ Done) ⊎ (status ≡ NoMemory)
  made_ends {device} {slots} {status} holds closed desk talk unsaid =
      by_end_both report.end {A = KeptSilent (made_told items) after status report}
      {B = TalkedFor made_run made_script device slots (made_told items) after status report} {C = (status ≡ Done) ⊎ (status ≡ NoMemory)}
      (λ kept. inr kept.memory) (λ had.
      let talked = had.talked in
      let meeting = meets items device slots had.wishes are holds closed desk in
      let asks = asks_nothing had.wishes had.asked.slow had.asked.actions in
      let why = talked.spoke.why in
      by_status status asks why.ends unsaid (why.fair (made_fair (length (frames_in report)))) why.caused talked.spoke.line.proper.numbered
      (subst (λ (m : Meeting). StatusShows m report status) meeting talked.shows.status_is) talk.blames.handheld talk.blames.desktop) talk.shown

-- ---- what is printed

module _ (items : List Item) (status : Status) (report : Report) where
  ran_as : {other : Status} (ran : MadeRan items status report)
      → BegunSession made_script (meeting_of ran.device ran.slots ran.talked.wishes) (made_told items) ran.after other report → MadeRan items other report
  ran_as ran talked = record {
    device = ran.device;
    handheld = ran.handheld;
    closed = ran.closed;
    slots = ran.slots;
    desktop = ran.desktop;
    after = ran.after;
    talked = record { wishes = ran.talked.wishes; asked = ran.talked.asked; talked = talked; changed = ran.talked.changed };
    databases = ran.databases;
  }

  nothing_printed : (printed : Status) → IsPrintedStatus status printed → MadeNothing status report → MadeNothing printed report
  nothing_printed printed e nothing = grind (arith, common_steps)

  -- what is known of it stays, whatever is printed of it
  pub made_printed : (printed : Status) → IsPrintedStatus status printed → HasMade items status report → HasMade items printed report
  made_printed printed is has =
      by_end_then report.end {A = MadeNothing status report} {B = MadeRan items status report} {C = MadeNothing printed report}
      {D = MadeRan items printed report} (nothing_printed printed is)
      (λ ran. ran_as ran (talked_retold printed (retold_printed printed is) ran.talked.talked)) has

pub ends_printed : {status : Status} (printed : Status) → IsPrintedStatus status printed → (status ≡ Done) ⊎ (status ≡ NoMemory)
    → (printed ≡ Done) ⊎ (printed ≡ NoMemory) ⊎ (printed ≡ OutWrite)
ends_printed printed e ends = grind (arith, common_steps)
