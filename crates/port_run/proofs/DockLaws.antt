-- What is known of a call with a handheld at a port, from before its objects were opened on.
use Rattle.std.proofs.lemmas.Grind.{common_steps}
use Rattle.std.proofs.Common.{◌≡◌, ◌∙◌, ◌-◌, ◌^◌, ◌≤◌, ℕ, inl, inr, List, Option, sym, subst, arith}
use Rattle.std.specs.Prelude.{◌⊎◌, IfSome}
use Rattle.hs_folders.specs.Causes.{Rose}
use Rattle.hs_folders.specs.FileMaps.{FileMap}
use Rattle.hs_folders.specs.Moments.{EachMomentSince, Moments}
use Rattle.dlp_commands.specs.DeviceRuns.{DeviceRun, exchanged}
use Rattle.palm_device.specs.Devices.{Device}
use Rattle.palm_device.specs.Handles.{no_handles}
use Rattle.handheld_files.specs.Openings.{HoldsAll, Stands}
use Rattle.handheld_server.specs.Servers.{ServerValue}
use Rattle.line_world.specs.Folders.{FilesRan, OthersStay, StoodAfterSome}
use Rattle.device_stream.specs.Hands.{Hand}
use Rattle.device_stream.specs.Runs.{KeptFor}
use Rattle.port_link.specs.VigilCourses.{Course}
use Rattle.port_link.specs.Runs.{IsPortRun}
use Rattle.port_link.specs.declared.port_end.PortEnd.{PortEnd}
use Rattle.port_link.specs.declared.port_end.PortEnd.TheVariants as ends
use Rattle.port_link.proofs.RunLaws.{waking-run}
use Rattle.run_words.specs.Docks.{Dock}
use Rattle.trace_text.specs.declared.frame.End.TheVariants as end
use Rattle.cmd_status.specs.Opening.{Opens, OpensAtMost, OpensGivenAtMost}
use Rattle.cmd_status.specs.declared.status.Status.{Status}
use Rattle.cmd_status.specs.declared.status.Status.TheVariants.{HandheldFolder, InUse, PortFailed, TraceWrite}
use Rattle.call_parts.specs.Causes.{IsTracedStatus, IsUnsaid}
use Rattle.call_parts.specs.Stays.{WentWith}
use Rattle.call_parts.specs.Refusals.{HasHandheld, TraceRefuses}
use Rattle.call_parts.specs.Stays.{StaysAsItWas}
use Rattle.call_parts.specs.Told.{FolderTold, folder_told}
use Rattle.call_parts.proofs.TraceLaws.{traced_from}
use Rattle.port_link.specs.Logs.{log_entries}
use Rattle.port_run.specs.DockTalks.{HasDockTalk}
use Rattle.port_run.specs.Docks.{HadDock, HasDocked, IsIdle, IsUndocked, TellsDock, dock_status}
use Rattle.port_run.specs.Refusals.{IsPortRefusal}
use Rattle.port_run.specs.Talks.{StaysUnsaid}
use Rattle.port_run.specs.Told.{DockTold, PortTold}
use Rattle.port_run.specs.declared.dock_report.DockReport.{DockReport}
use Rattle.folder_copies.proofs.CopyLaws.{rose_before}

-- the folder went with a hand
pub dock_went : {F : Type 0} (contents : F → Option FileMap) (moments : F → Moments) (paths : F → Option (List (List ℕ))) (faults : F → ℕ)
    (server : ServerValue F) (folder : F) (hand : Hand) → Stands (contents server.folder) server.device.databases server.device.user
    → DeviceRun server.device hand.performed hand.replies hand.device → KeptFor contents moments paths faults server folder hand
    → WentWith server.device hand (folder_told contents moments paths faults server.folder) (folder_told contents moments paths faults folder)
dock_went contents moments paths faults server folder hand stands ran kept = record {
  ran = ran;
  stands = kept.1.stands stands;
  moments = kept.1.moments_since stands;
  files = kept.1.files;
  others = kept.1.others;
}

-- ---- which object a status blames

pub dock_keeper : (end : PortEnd) → dock_status end ≡ HandheldFolder → end ≡ ends.Keeper
dock_keeper end e = grind (arith, common_steps)

pub dock_port : (end : PortEnd) → dock_status end ≡ PortFailed → end ≡ ends.PortFailed
dock_port end e = grind (arith, common_steps)

pub dock_unsaid : (end : PortEnd) → IsUnsaid (dock_status end)
dock_unsaid ends.Ended = tt
dock_unsaid ends.PortFailed = tt
dock_unsaid ends.Keeper = tt
dock_unsaid ends.LineDown = tt
dock_unsaid ends.LineSilent = tt
dock_unsaid ends.Aborted = tt
dock_unsaid ends.BadHello = tt
dock_unsaid ends.TooLong = tt
dock_unsaid ends.NoMemory = tt

traced_keeper : (said status : Status) → IsTracedStatus said status → status ≡ HandheldFolder → said ≡ HandheldFolder
traced_keeper said status is e = grind (arith, common_steps)

pub traced_port : (said status : Status) → IsTracedStatus said status → status ≡ PortFailed → said ≡ PortFailed
traced_port said status is e = grind (arith, common_steps)

traced_in_use : (said status : Status) → IsTracedStatus said status → status ≡ InUse end.Handheld → said ≡ InUse end.Handheld
traced_in_use said status is e = grind (arith, common_steps)

dock_not_in_use : (far : PortEnd) → dock_status far ≡ InUse end.Handheld → ⊥
dock_not_in_use far e = grind (arith, common_steps)

-- ---- a talk at an opened port

-- a talk by what ran over this server
pub dock_had : {F : Type 0} (contents : F → Option FileMap) (moments : F → Moments) (paths : F → Option (List (List ℕ))) (faults : F → ℕ)
    (server given : ServerValue F) (folder : F) (before after : DockTold) (far : PortEnd) (said : Status) {course : Course} (report : DockReport)
    → given ≡ server → before.palm ≡ folder_told contents moments paths faults server.folder → after.palm ≡ folder_told contents moments paths faults folder
    → Stands (contents server.folder) server.device.databases server.device.user → said ≡ dock_status far
    → IsPortRun given.device before.port.given after.port.given before.port.taken after.port.taken (log_entries report.log) far course
    → KeptFor contents moments paths faults given folder course.vigil.hand → TellsDock course.vigil.hand report
    → HadDock server.device before after said report
dock_had contents moments paths faults server given folder before after far said {course} report same old new stands is ran kept tells =
    let run = subst (λ (s : ServerValue _).
    IsPortRun s.device before.port.given after.port.given before.port.taken after.port.taken (log_entries report.log) far course) same ran in
    let went = dock_went contents moments paths faults server folder course.vigil.hand stands
    (waking-run server.device course.events course.kept course.vigil run.steps)
    (subst (λ (s : ServerValue _). KeptFor contents moments paths faults s folder course.vigil.hand) same kept) in
    record {
      end = far;
      said_is = is;
      course = course;
      run = run;
      tells = tells;
      went = subst (λ (told : FolderTold). WentWith server.device course.vigil.hand told after.palm) (sym old)
          (subst (λ (told : FolderTold). WentWith server.device course.vigil.hand (folder_told contents moments paths faults server.folder) told) (sym new)
          went);
    }

-- ---- the whole call

-- why it was refused behind the handheld's folder
abbrev Why : Dock → Status → Type 0
Why dock refusal = IsPortRefusal refusal ⊎ TraceRefuses dock.trace refusal

not_palm : (dock : Dock) (refusal : Status) → Why dock refusal → refusal ≡ HandheldFolder → ⊥
not_palm dock refusal (inl (inl is)) e = cc
not_palm dock refusal (inl (inr is)) e = cc
not_palm dock refusal (inr why) e = elim why.is [ inl is ↦ cc | inr is ↦ cc ]

not_in_use : (dock : Dock) (refusal : Status) → Why dock refusal → refusal ≡ InUse end.Handheld → ⊥
not_in_use dock refusal (inl (inl is)) e = cc
not_in_use dock refusal (inl (inr is)) e = cc
not_in_use dock refusal (inr why) e = elim why.is [ inl is ↦ cc | inr is ↦ cc ]

pub port_not_trace : (refusal : Status) → IsPortRefusal refusal → refusal ≡ TraceWrite → ⊥
port_not_trace refusal (inl is) e = cc
port_not_trace refusal (inr is) e = cc

pub trace_not_port : {path : Option (List ℕ)} (refusal : Status) → TraceRefuses path refusal → refusal ≡ PortFailed → ⊥
trace_not_port refusal why e = elim why.is [ inl is ↦ cc | inr is ↦ cc ]

-- one that was refused behind it
module _ (dock : Dock) (before after : DockTold) {palm : FolderTold} {port : PortTold} {status : Status} {report : DockReport}
    (palm_is : after.palm ≡ palm) (port_is : after.port ≡ port) (idle : IsIdle report) (has : HasHandheld before.palm.contents)
    (stays : StaysAsItWas before.palm palm) (path : Opens dock.handheld before.palm.paths palm.paths) where
  pub undocked : (refusal : Status) → status ≡ refusal → Why dock refusal → StaysUnsaid before.port port
      → OpensAtMost dock.port before.port.paths port.paths → after.trace.taken ≡ before.trace.taken
      → OpensGivenAtMost dock.trace before.trace.paths after.trace.paths → (refusal ≡ PortFailed → Rose before.port.faults port.faults)
      → (refusal ≡ TraceWrite → Rose before.trace.faults after.trace.faults) → HasDocked dock before after status report
  undocked refusal is why unsaid port_path taken trace_path port_failed trace_failed = record {
    shown = inl (record {
      judged = subst (λ (s : Status). IsUndocked dock before.palm.contents s) (sym is) (inr (has, why));
      idle = idle;
      handheld = subst (λ (t : FolderTold). StaysAsItWas before.palm t) (sym palm_is) stays;
      port = subst (λ (t : PortTold). StaysUnsaid before.port t) (sym port_is) unsaid;
      trace = taken;
    });
    opened = record {
      handheld = subst (λ (t : FolderTold). OpensAtMost dock.handheld before.palm.paths t.paths) (sym palm_is) (inr path);
      port = subst (λ (t : PortTold). OpensAtMost dock.port before.port.paths t.paths) (sym port_is) port_path;
      trace = trace_path;
    };
    blames = record {
      handheld = λ e. absurd (not_palm dock refusal why (sym is ∙ e));
      in_use = λ e. absurd (not_in_use dock refusal why (sym is ∙ e));
      port = λ e. subst (λ (t : PortTold). Rose before.port.faults t.faults) (sym port_is) (port_failed (sym is ∙ e));
      trace = λ e. trace_failed (sym is ∙ e);
    };
  }

-- what stands between the opening of all objects and their talk
pub record AreDocked (dock : Dock) (before opened : DockTold) : Type 0 where
  pub stays : StaysAsItWas before.palm opened.palm
  pub palm_opened : Opens dock.handheld before.palm.paths opened.palm.paths
  pub palm_later : before.palm.faults ≤ opened.palm.faults
  pub unsaid : StaysUnsaid before.port opened.port
  pub port_opened : Opens dock.port before.port.paths opened.port.paths
  pub port_later : before.port.faults ≤ opened.port.faults
  pub trace_at_most : OpensGivenAtMost dock.trace before.trace.paths opened.trace.paths
  pub trace_taken : opened.trace.taken ≡ before.trace.taken
  pub trace_later : before.trace.faults ≤ opened.trace.faults

module _ (dock : Dock) (before opened after : DockTold) (all : AreDocked dock before opened) where
  dock_went_from : {device : Device} {hand : Hand} → WentWith device hand opened.palm after.palm → WentWith device hand before.palm after.palm
  dock_went_from {device} {hand} went =
      let exchanges = exchanged hand.performed hand.replies in
      record {
        ran = went.ran;
        stands = went.stands;
        moments = subst (λ (m : Moments). EachMomentSince (StoodAfterSome device exchanges) m after.palm.moments) all.stays.moments went.moments;
        files = subst (λ (t : Option FileMap). FilesRan t device exchanges after.palm.contents hand.device) all.stays.contents went.files;
        others = subst (λ (t : Option FileMap). OthersStay t after.palm.contents) all.stays.contents went.others;
      }

  dock_had_from : {device : Device} {said : Status} {report : DockReport} → HadDock device opened after said report → HadDock device before after said report
  dock_had_from {device} {said} {report} had = record {
    end = had.end;
    said_is = had.said_is;
    course = had.course;
    run = subst (λ (t : Option (List ℕ)). IsPortRun device before.port.given after.port.given t after.port.taken (log_entries report.log) had.end had.course)
        all.unsaid.taken
        (subst (λ (g : Option (List (List ℕ))). IsPortRun device g after.port.given opened.port.taken after.port.taken (log_entries report.log) had.end had.course)
        all.unsaid.given had.run);
    tells = had.tells;
    went = dock_went_from had.went;
  }

  -- one that had its talk
  pub by_talk : {device : Device} {status : Status} {report : DockReport}
      → IfSome before.palm.contents (λ held. HoldsAll held device.databases device.user) → device.handles ≡ no_handles
      → HasDockTalk dock device opened after status report → HasDocked dock before after status report
  by_talk {device} {status} {report} handheld closed talk =
      let told = talk.traces.stands in
      record {
        shown = inr (record {
          device = device;
          handheld = handheld;
          closed = closed;
          said = talk.said;
          had = dock_had_from talk.had;
          status_is = told.status_is;
          traced = traced_from before.trace all.trace_taken all.trace_later talk.traces.traced_is;
        });
        opened = record {
          handheld = inr (talk.palm_paths ∙ all.palm_opened);
          port = inr (talk.port_paths ∙ all.port_opened);
          trace = subst (OpensGivenAtMost dock.trace before.trace.paths) (sym told.paths) all.trace_at_most;
        };
        blames = record {
          handheld = λ e. rose_before (2 ^ 64 - 1) before.palm.faults opened.palm.faults after.palm.faults all.palm_later
              (talk.keeper (traced_keeper talk.said status told.status_is e));
          in_use = λ e. absurd (dock_not_in_use talk.had.end (sym talk.had.said_is ∙ traced_in_use talk.said status told.status_is e));
          port = λ e. rose_before (2 ^ 64 - 1) before.port.faults opened.port.faults after.port.faults all.port_later
              (talk.port (traced_port talk.said status told.status_is e));
          trace = λ e. rose_before (2 ^ 64 - 1) before.trace.faults opened.trace.faults after.trace.faults all.trace_later (told.failed e);
        };
      }
