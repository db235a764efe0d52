-- What is known of a handheld over captured bytes.
use Rattle.std.proofs.lemmas.Grind.{common_steps}
use Rattle.std.proofs.Common.{◌≡◌, ◌∙◌, ◌⊎◌, ◌≤◌, ◌^◌, ◌-◌, ℕ, List, inl, inr, refl, sym, subst, ap, arith}
use Rattle.std.specs.Prelude.{IfSome, Option}
use Rattle.hs_folders.specs.Causes.{Rose}
use Rattle.hs_folders.specs.FileMaps.{FileMap}
use Rattle.hs_folders.specs.Moments.{EachMomentSince, Moments}
use Rattle.dlp_commands.specs.DeviceRuns.{DeviceRun, exchanged}
use Rattle.palm_device.specs.Devices.{Device}
use Rattle.palm_device.specs.Handles.{no_handles}
use Rattle.handheld_files.specs.Openings.{HoldsAll, Stands}
use Rattle.handheld_server.specs.Servers.{ServerValue}
use Rattle.line_world.specs.Folders.{FilesRan, OthersStay, StoodAfterSome}
use Rattle.line_world.specs.Logs.{texts}
use Rattle.padp_end.specs.Outgoings.{OutgoingFragment}
use Rattle.slp_frames.specs.PacketText.{PacketValue}
use Rattle.trace_text.specs.declared.frame.End.TheVariants as line_end
use Rattle.device_stream.proofs.HandLaws.{woken-run}
use Rattle.device_stream.specs.Hands.{Hand, woken}
use Rattle.device_stream.specs.Runs.{Course, IsDeviceRun, KeptFor}
use Rattle.device_stream.specs.Talks.{Talks}
use Rattle.device_stream.specs.declared.device_end.DeviceEnd.{DeviceEnd}
use Rattle.device_stream.specs.declared.device_end.DeviceEnd.TheVariants as talk
use Rattle.run_words.specs.Captures.{Capture}
use Rattle.cmd_status.specs.Opening.{Opens, OpensAtMost}
use Rattle.cmd_status.specs.Printed.{IsPrinted, IsPrintedStatus}
use Rattle.cmd_status.specs.Told.{SinkTold}
use Rattle.cmd_status.specs.declared.status.Status.{Status}
use Rattle.cmd_status.specs.declared.status.Status.TheVariants.{Done, HandheldFolder, DesktopFolder, InUse, SourceRead, TraceWrite, OutWrite, NoMemory}
use Rattle.cmd_files.specs.Emulations.{CaptureRan, HadTalk, IsCalmEmulation, IsHeardOut, IsSourceFailure, MayEmulate}
use Rattle.cmd_files.specs.Emulations.{SaidNothing, SaysAll, TellsHand, talk_status}
use Rattle.call_parts.specs.Stays.{WentWith}
use Rattle.call_parts.specs.Refusals.{HandheldRefuses, HasHandheld, IsTraceRefusal}
use Rattle.call_parts.specs.Reports.{IsNotStarted}
use Rattle.call_parts.specs.SessionCalls.{BlamesByCount}
use Rattle.call_parts.specs.Stays.{StaysAsItWas}
use Rattle.call_parts.specs.Told.{CallTold, FolderTold, folder_told}
use Rattle.call_parts.specs.declared.report.Report.{Report}
use Rattle.call_parts.proofs.RefusalLaws.{handheld_alone, trace_alone}
use Rattle.call_parts.proofs.JudgedCalls.{IsSourceAlone}
use Rattle.call_parts.proofs.WellLaws.{none_blamed}
use Rattle.call_parts.proofs.UndisturbedLaws.{BlamesNone, failed_handheld, judged_handheld}
use Rattle.folder_copies.proofs.CopyLaws.{rose_before}
use Rattle.call_parts.proofs.RetoldCalls.{still_blames}

-- ---- a talk

-- the folder went with a hand
pub went_with : {F : Type 0} (contents : F → Option FileMap) (moments : F → Moments) (paths : F → Option (List (List ℕ))) (faults : F → ℕ)
    (server : ServerValue F) (folder : F) {hand : Hand} (packets : List PacketValue) (said : List OutgoingFragment)
    → Stands (contents server.folder) server.device.databases server.device.user → Talks (woken server.device) packets said hand
    → KeptFor contents moments paths faults server folder hand
    → WentWith server.device hand (folder_told contents moments paths faults server.folder) (folder_told contents moments paths faults folder)
went_with contents moments paths faults server folder {hand} packets said stands talks kept = record {
  ran = woken-run server.device packets said hand talks;
  stands = kept.1.stands stands;
  moments = kept.1.moments_since stands;
  files = kept.1.files;
  others = kept.1.others;
}

-- a talk by what ran over this server
pub had_talk : {F : Type 0} (contents : F → Option FileMap) (moments : F → Moments) (paths : F → Option (List (List ℕ))) (faults : F → ℕ)
    (server given : ServerValue F) (folder : F) (before after : CallTold) (end : DeviceEnd) (status : Status) {course : Course} (report : Report)
    → given ≡ server → before.palm ≡ folder_told contents moments paths faults server.folder → after.palm ≡ folder_told contents moments paths faults folder
    → Stands (contents server.folder) server.device.databases server.device.user → status ≡ talk_status end
    → IsDeviceRun given.device before.source.left after.source.left before.trace.taken after.trace.taken end course
    → KeptFor contents moments paths faults given folder course.hand → TellsHand course.hand report
    → HadTalk server.device before after status report
had_talk contents moments paths faults server given folder before after end status {course} report same old new stands is ran kept tells =
    let run = subst (λ (s : ServerValue _).
    IsDeviceRun s.device before.source.left after.source.left before.trace.taken after.trace.taken end course) same ran in
    let went = went_with contents moments paths faults server folder course.packets course.said stands run.talks
    (subst (λ (s : ServerValue _). KeptFor contents moments paths faults s folder course.hand) same kept) in
    record {
      end = end;
      status_is = inl is;
      course = course;
      run = run;
      tells = tells;
      went = subst (λ (told : FolderTold). WentWith server.device course.hand told after.palm) (sym old)
          (subst (λ (told : FolderTold). WentWith server.device course.hand (folder_told contents moments paths faults server.folder) told) (sym new)
          went);
    }

-- which object a status blames
pub source_end : (end : DeviceEnd) → talk_status end ≡ SourceRead → end ≡ talk.SourceRead
source_end end e = grind (arith, common_steps)

pub sink_end : (end : DeviceEnd) → talk_status end ≡ TraceWrite → end ≡ talk.SinkWrite
sink_end end e = grind (arith, common_steps)

pub keeper_end : (end : DeviceEnd) → talk_status end ≡ HandheldFolder → end ≡ talk.Keeper
keeper_end end e = grind (arith, common_steps)

-- a talk blames no other one
record IsTalkAlone (status : Status) : Type 0 where
  pub desktop : status ≡ DesktopFolder → ⊥
  pub handheld_in_use : status ≡ InUse line_end.Handheld → ⊥
  pub desktop_in_use : status ≡ InUse line_end.Desktop → ⊥

talk_alone : (end : DeviceEnd) → IsTalkAlone (talk_status end)
talk_alone end = grind (arith, common_steps)

told_alone : (end : DeviceEnd) (status : Status) → IsPrintedStatus (talk_status end) status → IsTalkAlone status
told_alone end status (inl same) = subst IsTalkAlone (sym same) (talk_alone end)
told_alone end status (inr (inl memory)) =
    subst IsTalkAlone (sym memory) (record { desktop = λ e. cc; handheld_in_use = λ e. cc; desktop_in_use = λ e. cc })
told_alone end status (inr (inr unsaid)) =
    subst IsTalkAlone (sym unsaid.1) (record { desktop = λ e. cc; handheld_in_use = λ e. cc; desktop_in_use = λ e. cc })

-- nor is standard output asked yet
pub talk_unprinted : (end : DeviceEnd) → talk_status end ≡ OutWrite → ⊥
talk_unprinted end e = grind (arith, common_steps)

-- ---- what is refused

-- a refusal to open the captured bytes is no other one
source_alone : (refusal : Status) → IsSourceFailure refusal → IsSourceAlone refusal
source_alone refusal is = grind (arith, common_steps)

-- what a refused call opened, and what it read
pub record IsOpened (capture : Capture) (before after : CallTold) : Type 0 where
  pub stays : StaysAsItWas before.palm after.palm
  pub palm_opened : Opens capture.handheld before.palm.paths after.palm.paths
  pub palm_later : before.palm.faults ≤ after.palm.faults
  pub desk : after.desk ≡ before.desk

module _ (capture : Capture) (before after : CallTold) {report : Report} (is : IsNotStarted report) where
  -- one whose handheld refuses it
  pub by_handheld : {refusal : Status} → HandheldRefuses before.palm.contents refusal
      → (refusal ≡ HandheldFolder → Rose before.palm.faults after.palm.faults)
      → (refusal ≡ InUse line_end.Handheld → Rose before.palm.faults after.palm.faults)
      → StaysAsItWas before.palm after.palm → OpensAtMost capture.handheld before.palm.paths after.palm.paths → after.desk ≡ before.desk
      → after.source ≡ before.source → after.trace ≡ before.trace → MayEmulate capture before after refusal report
  by_handheld {refusal} refuses failed in_use stays path desk source sink =
      let alone = handheld_alone refuses in
      record {
        shown = inl (record { refused = inl (record { refuses = refuses; source = source; sink = sink }); report_is = is; handheld = stays });
        opened = record {
          handheld = path;
          source = inl (ap (λ told. told.paths) source);
          sink = inl (ap (λ told. told.paths) sink);
        };
        desktop = desk;
        blames = record {
          source = λ e. absurd (alone.source e);
          folders = record { handheld = failed; desktop = λ e. absurd (alone.desktop e) };
          handheld_in_use = in_use;
          desktop_in_use = λ e. absurd (alone.in_use e);
          trace = λ e. absurd (alone.trace e);
        };
      }

  -- one whose captured bytes were not opened
  pub by_source : {refusal : Status} → HasHandheld before.palm.contents → IsSourceFailure refusal
      → (refusal ≡ SourceRead → Rose before.source.faults after.source.faults) → IsOpened capture before after
      → OpensAtMost capture.input before.source.paths after.source.paths → after.source.left ≡ before.source.left
      → after.trace ≡ before.trace → MayEmulate capture before after refusal report
  by_source {refusal} handheld refuses failed opened path left sink =
      let alone = source_alone refusal refuses in
      record {
        shown = inl (record {
          refused = inr (inl (record { handheld = handheld; refuses = refuses; unread = left; sink = sink }));
          report_is = is;
          handheld = opened.stays;
        });
        opened = record { handheld = inr opened.palm_opened; source = path; sink = inl (ap (λ told. told.paths) sink) };
        desktop = opened.desk;
        blames = record {
          source = failed;
          folders = record { handheld = λ e. absurd (alone.handheld e); desktop = λ e. absurd (alone.desktop e) };
          handheld_in_use = λ e. absurd (alone.in_use line_end.Handheld e);
          desktop_in_use = λ e. absurd (alone.in_use line_end.Desktop e);
          trace = λ e. absurd (alone.trace e);
        };
      }

  -- one whose file for what is said was not opened
  pub by_sink : {refusal : Status} → HasHandheld before.palm.contents → IsTraceRefusal refusal
      → (refusal ≡ TraceWrite → Rose before.trace.faults after.trace.faults) → IsOpened capture before after
      → Opens capture.input before.source.paths after.source.paths → after.source.left ≡ before.source.left
      → OpensAtMost capture.output before.trace.paths after.trace.paths → after.trace.taken ≡ before.trace.taken
      → MayEmulate capture before after refusal report
  by_sink {refusal} handheld refuses failed opened source left path taken =
      let alone = trace_alone refusal refuses in
      record {
        shown = inl (record {
          refused = inr (inr (record { handheld = handheld; opened = source; refuses = refuses; unread = left; untaken = taken }));
          report_is = is;
          handheld = opened.stays;
        });
        opened = record { handheld = inr opened.palm_opened; source = inr source; sink = path };
        desktop = opened.desk;
        blames = record {
          source = λ e. absurd (alone.source e);
          folders = record { handheld = λ e. absurd (alone.handheld e); desktop = λ e. absurd (alone.desktop e) };
          handheld_in_use = λ e. absurd (alone.in_use line_end.Handheld e);
          desktop_in_use = λ e. absurd (alone.in_use line_end.Desktop e);
          trace = failed;
        };
      }

-- ---- a talk, once all is opened

-- what was opened before it
pub record AllOpened (capture : Capture) (before opened : CallTold) : Type 0 where
  pub stays : StaysAsItWas before.palm opened.palm
  pub palm_opened : Opens capture.handheld before.palm.paths opened.palm.paths
  pub palm_later : before.palm.faults ≤ opened.palm.faults
  pub left : opened.source.left ≡ before.source.left
  pub source_opened : Opens capture.input before.source.paths opened.source.paths
  pub source_later : before.source.faults ≤ opened.source.faults
  pub taken : opened.trace.taken ≡ before.trace.taken
  pub sink_opened : Opens capture.output before.trace.paths opened.trace.paths
  pub sink_later : before.trace.faults ≤ opened.trace.faults

-- no object was opened elsewhere by it
pub record StaysOpened (opened after : CallTold) : Type 0 where
  pub palm : after.palm.paths ≡ opened.palm.paths
  pub source : after.source.paths ≡ opened.source.paths
  pub sink : after.trace.paths ≡ opened.trace.paths

module _ (capture : Capture) (before opened after : CallTold) (all : AllOpened capture before opened) where
  went_from : {device : Device} {hand : Hand} → WentWith device hand opened.palm after.palm → WentWith device hand before.palm after.palm
  went_from {device} {hand} went =
      let exchanges = exchanged hand.performed hand.replies in
      record {
        ran = went.ran;
        stands = went.stands;
        moments = subst (λ (m : Moments). EachMomentSince (StoodAfterSome device exchanges) m after.palm.moments) all.stays.moments went.moments;
        files = subst (λ (t : Option FileMap). FilesRan t device exchanges after.palm.contents hand.device) all.stays.contents went.files;
        others = subst (λ (t : Option FileMap). OthersStay t after.palm.contents) all.stays.contents went.others;
      }

  had_from : {device : Device} {status : Status} {report : Report} → HadTalk device opened after status report → HadTalk device before after status report
  had_from {device} had = record {
    end = had.end;
    status_is = had.status_is;
    course = had.course;
    run = subst (λ (t : Option (List ℕ)). IsDeviceRun device before.source.left after.source.left t after.trace.taken had.end had.course) all.taken
        (subst (λ (l : Option (List ℕ)). IsDeviceRun device l after.source.left opened.trace.taken after.trace.taken had.end had.course) all.left had.run);
    tells = had.tells;
    went = went_from had.went;
  }

  blames_from : {status : Status} → IsTalkAlone status → (status ≡ HandheldFolder → Rose opened.palm.faults after.palm.faults)
      → (status ≡ SourceRead → Rose opened.source.faults after.source.faults) → (status ≡ TraceWrite → Rose opened.trace.faults after.trace.faults)
      → BlamesByCount before after status
  blames_from alone keeper source sink = record {
    source = λ e. rose_before (2 ^ 64 - 1) before.source.faults opened.source.faults after.source.faults all.source_later (source e);
    folders = record {
      handheld = λ e. rose_before (2 ^ 64 - 1) before.palm.faults opened.palm.faults after.palm.faults all.palm_later (keeper e);
      desktop = λ e. absurd (alone.desktop e);
    };
    handheld_in_use = λ e. absurd (alone.handheld_in_use e);
    desktop_in_use = λ e. absurd (alone.desktop_in_use e);
    trace = λ e. rose_before (2 ^ 64 - 1) before.trace.faults opened.trace.faults after.trace.faults all.sink_later (sink e);
  }

  -- one that had its talk
  pub by_talk : {device : Device} {status : Status} {report : Report}
      → IfSome before.palm.contents (λ held. HoldsAll held device.databases device.user) → device.handles ≡ no_handles
      → StaysOpened opened after → after.desk ≡ before.desk → HadTalk device opened after status report
      → (status ≡ HandheldFolder → Rose opened.palm.faults after.palm.faults) → (status ≡ SourceRead → Rose opened.source.faults after.source.faults)
      → (status ≡ TraceWrite → Rose opened.trace.faults after.trace.faults) → MayEmulate capture before after status report
  by_talk {device} {status} handheld closed paths desk had keeper source_failed sink_failed =
      let palm = paths.palm ∙ all.palm_opened in
      let source = paths.source ∙ all.source_opened in
      let sink = paths.sink ∙ all.sink_opened in
      record {
        shown = inr (record {
          device = device;
          handheld = handheld;
          closed = closed;
          had = had_from had;
          opened = record { handheld = palm; source = source; sink = sink };
        });
        opened = record { handheld = inr palm; source = inr source; sink = inr sink };
        desktop = desk;
        blames = blames_from (told_alone had.end status had.status_is) keeper source_failed sink_failed;
      }

-- ---- whatever is printed of it

twice_printed : (first second third : Status) → IsPrintedStatus first second → IsPrintedStatus second third → IsPrintedStatus first third
twice_printed first second third one (inl same) = subst (λ (s : Status). IsPrintedStatus first s) (sym same) one
twice_printed first second third one (inr (inl memory)) = inr (inl memory)
twice_printed first second third (inl same) (inr (inr unsaid)) = inr (inr (sym same ∙ unsaid.0, unsaid.1))
twice_printed first second third (inr (inl memory)) (inr (inr unsaid)) = let no : NoMemory ≡ Done = sym memory ∙ unsaid.0 in cc
twice_printed first second third (inr (inr said)) (inr (inr unsaid)) = let no : OutWrite ≡ Done = sym said.1 ∙ unsaid.0 in cc

module _ {capture : Capture} {before after : CallTold} {status : Status} {report : Report} where
  nothing_memory : SaidNothing capture before after status report → SaidNothing capture before after NoMemory report
  nothing_memory nothing = record {
    refused = elim nothing.refused [
      | inl palm ↦ inl (record { refuses = inl (inr (inr refl)); source = palm.source; sink = palm.sink })
      | inr files ↦ (elim files [
        | inl source ↦ inr (inl (record { handheld = source.handheld; refuses = inr refl; unread = source.unread; sink = source.sink }))
        | inr sink ↦ inr (inr (record { handheld = sink.handheld; opened = sink.opened; refuses = inr refl; unread = sink.unread; untaken = sink.untaken }))
      ])
    ];
    report_is = nothing.report_is;
    handheld = nothing.handheld;
  }

  nothing_not_done : SaidNothing capture before after status report → status ≡ Done → ⊥
  nothing_not_done nothing done = elim nothing.refused [
    | inl palm ↦ (handheld_alone palm.refuses).done done
    | inr files ↦ (elim files [
      | inl source ↦ (source_alone status source.refuses).done done
      | inr sink ↦ (trace_alone status sink.refuses).done done
    ])
  ]

  nothing_printed : (printed : Status) → IsPrintedStatus status printed → SaidNothing capture before after status report
      → SaidNothing capture before after printed report
  nothing_printed printed (inl same) nothing = subst (λ (s : Status). SaidNothing capture before after s report) (sym same) nothing
  nothing_printed printed (inr (inl memory)) nothing = subst (λ (s : Status). SaidNothing capture before after s report) (sym memory) (nothing_memory nothing)
  nothing_printed printed (inr (inr unsaid)) nothing = absurd (nothing_not_done nothing unsaid.0)

  emulated_printed : (printed : Status) → IsPrintedStatus status printed → CaptureRan capture before after status report
      → CaptureRan capture before after printed report
  emulated_printed printed is emulated = record {
    device = emulated.device;
    handheld = emulated.handheld;
    closed = emulated.closed;
    had = record {
      end = emulated.had.end;
      status_is = twice_printed (talk_status emulated.had.end) status printed emulated.had.status_is is;
      course = emulated.had.course;
      run = emulated.had.run;
      tells = emulated.had.tells;
      went = emulated.had.went;
    };
    opened = emulated.opened;
  }

  -- what is known of it stays
  pub emulation_printed : MayEmulate capture before after status report → (printed : Status) → IsPrintedStatus status printed
      → MayEmulate capture before after printed report
  emulation_printed may printed is = record {
    shown = elim may.shown [ inl nothing ↦ inl (nothing_printed printed is nothing) | inr emulated ↦ inr (emulated_printed printed is emulated) ];
    opened = may.opened;
    desktop = may.desktop;
    blames = still_blames printed is may.blames;
  }

-- ---- where nothing fails

decided_end : (end : DeviceEnd) → BlamesNone (talk_status end) → (talk_status end ≡ NoMemory) ⊎ IsHeardOut (talk_status end)
decided_end talk.Ended blames = inr tt
decided_end talk.SourceRead blames = absurd (blames.source refl)
decided_end talk.SinkWrite blames = absurd (blames.trace refl)
decided_end talk.Keeper blames = absurd (blames.handheld refl)
decided_end talk.StreamEnded blames = inr tt
decided_end talk.StreamAborted blames = inr tt
decided_end talk.BadHello blames = inr tt
decided_end talk.TooLong blames = inr tt
decided_end talk.NoMemory blames = inl refl

decided_status : (end : DeviceEnd) (status : Status) → IsPrintedStatus (talk_status end) status → BlamesNone status
    → (status ≡ NoMemory) ⊎ IsHeardOut status
decided_status end status (inl same) blames =
    subst (λ (s : Status). (s ≡ NoMemory) ⊎ IsHeardOut s) (sym same) (decided_end end (subst BlamesNone same blames))
decided_status end status (inr (inl memory)) blames = inl memory
decided_status end status (inr (inr unsaid)) blames = absurd (blames.out unsaid.1)

pub emulation_decided : (capture : Capture) (before after : CallTold) (out out_after : SinkTold) (status : Status) (report : Report)
    {IsText : List ℕ → Type 0} → MayEmulate capture before after status report → IsPrinted IsText out out_after status
    → IsCalmEmulation before after out out_after → (status ≡ NoMemory) ⊎ IsHeardOut status
emulation_decided capture before after out out_after status report may printed calm =
    let blames : BlamesNone status = none_blamed may.blames printed calm.none_failed in
    elim may.shown [
      | inl nothing ↦ (elim nothing.refused [
        | inl palm ↦ inl (failed_handheld blames (judged_handheld calm.handheld palm.refuses))
        | inr files ↦ (elim files [
          | inl source ↦ (elim source.refuses [ inl e ↦ absurd (blames.source e) | inr e ↦ inl e ])
          | inr sink ↦ (elim sink.refuses [ inl e ↦ absurd (blames.trace e) | inr e ↦ inl e ])
        ])
      ])
      | inr emulated ↦ decided_status emulated.had.end status emulated.had.status_is blames
    ]

-- ---- a talk that ended

done_end : (end : DeviceEnd) → talk_status end ≡ Done → end ≡ talk.Ended
done_end end e = grind (arith, common_steps)

told_done : (end : DeviceEnd) → IsPrintedStatus (talk_status end) Done → end ≡ talk.Ended
told_done end (inl same) = done_end end (sym same)
told_done end (inr (inl memory)) = cc
told_done end (inr (inr unsaid)) = cc

-- it said all
pub says_all : {capture : Capture} {before after : CallTold} {report : Report} → MayEmulate capture before after Done report → SaysAll before after report
says_all {before = before} {after} {report} may = elim may.shown [
  | inl nothing ↦ absurd (nothing_not_done nothing refl)
  | inr emulated ↦ (let had = emulated.had in
      let run = subst (λ (end : DeviceEnd).
      IsDeviceRun emulated.device before.source.left after.source.left before.trace.taken after.trace.taken end had.course)
      (told_done had.end had.status_is) had.run in
      record {
        device = emulated.device;
        handheld = emulated.handheld;
        course = had.course;
        read = run.read;
        first = run.first;
        talks = run.talks;
        over = run.over;
        wrote = run.wrote;
        steps = subst (λ (ps : List (List ℕ)). DeviceRun emulated.device ps (texts report.replies.items) had.course.hand.device) (sym had.tells.performed)
            (subst (λ (rs : List (List ℕ)). DeviceRun emulated.device had.course.hand.performed rs had.course.hand.device) (sym had.tells.replies)
            had.went.ran);
        keeps = had.went.stands;
      })
]

-- ---- where the words are not read

pub unread_emulation : (capture : Capture) (before : CallTold) {report : Report} → IsNotStarted report
    → MayEmulate capture before before NoMemory report
unread_emulation capture before is =
    by_handheld capture before before is (inl (inr (inr refl))) (λ e. cc) (λ e. cc) (record { contents = refl; moments = refl }) (inl refl) refl refl refl
