-- What is known of a session that installs databases, by what its calls answered, and whatever is written of it.
use Rattle.std.proofs.Common.{◌≡◌, ◌∙◌, ap, inl, inr, refl, subst, sym, ℕ, List, ◌++◌}
use Rattle.std.specs.Prelude.{IfErr, IfOk, IsErrOf, Option, None, Some, Result, Ok, Err, map}
use Rattle.std.specs.Global.{Vec}
use Rattle.std.specs.List.{AllByRecursion}
use Rattle.hs_folders.specs.FileMaps.{FileMap}
use Rattle.hs_folders.specs.Moments.{EachMomentSince, Moments}
use Rattle.hs_folders.proofs.MomentLaws.{moments_weaken}
use Rattle.pdb_values.specs.Databases.{DatabaseValue}
use Rattle.pdb_values.specs.NamedDatabases.{NamesRise}
use Rattle.pdb_values.specs.declared.user.UserInfo.{UserInfo}
use Rattle.palm_device.specs.Bounds.{IsBoundedDatabase}
use Rattle.palm_device.specs.Devices.{Device}
use Rattle.handheld_files.specs.Openings.{Stands}
use Rattle.line_script.specs.Rules.{RuleValue}
use Rattle.dlp_commands.specs.declared.link.LinkFault.{LinkFault}
use Rattle.line_world.specs.Logs.{LogValue, no_log}
use Rattle.line_world.specs.Worlds.{WorldSince, WorldValue, world_talk}
use Rattle.desktop_session.specs.Acts.{Act, text}
use Rattle.desktop_session.specs.Says.{IsPrefix}
use Rattle.desktop_session.specs.Stops.{Does}
use Rattle.session_parts.specs.Rests.{IsAtRest}
use Rattle.session_parts.specs.declared.report.DbReport.{DbReport}
use Rattle.session_parts.specs.declared.stop.Stop.{Stop}
use Rattle.session_parts.specs.declared.stop.Stop.TheVariants as stop
use Rattle.install_backup.specs.declared.moved.Moved.{Moved}
use Rattle.install_backup.specs.declared.mark.Mark.{Mark}
use Rattle.install_backup.specs.InstallActs.{install_acts}
use Rattle.install_backup.specs.InstallEnds.{InstallEnds, IsInstallStop, until_full}
use Rattle.cmd_files.specs.Besides.{StandsBeside}
use Rattle.call_parts.specs.Closings.{Closes, left_databases, left_end, left_in}
use Rattle.cmd_files.specs.Moves.{TellsMoves}
use Rattle.cmd_files.specs.Loads.{EndedLoad, HadLoad, IsLoadTalk, LoadLeft, ShowsLoad}
use Rattle.cmd_files.specs.declared.moved.Way.TheVariants.{ToHandheld}
use Rattle.call_parts.specs.Sessions.{KeptSilent, StandsAtFront}
use Rattle.call_parts.specs.Stays.{StaysAsItWas}
use Rattle.call_parts.specs.Told.{FolderTold, SidesTold, folder_told}
use Rattle.cmd_files.proofs.BesideLaws.{stands_beside}
use Rattle.call_parts.proofs.EarlierLaws.{spoke_from}
use Rattle.call_parts.proofs.EndLaws.{logged_all}
use Rattle.call_parts.proofs.FrontLaws.{issued_begins}
use Rattle.call_parts.proofs.SaidLaws.{Tells, all-talked}
use Rattle.call_parts.proofs.LineLaws.{line_ran}
use Rattle.cmd_files.proofs.LoadActLaws.{loaded-after}
use Rattle.cmd_files.proofs.LoadSaid.{ToldLoaded, ToldLoads, load_said, load_shows, told_loads}
use Rattle.call_parts.proofs.RetoldLaws.{StaysShown, had_retold}
use Rattle.call_parts.proofs.SpokeLaws.{by_left, left_desk, palm_blamed, spoke}
use Rattle.call_parts.specs.declared.report.Report.{Report}
use Rattle.call_parts.specs.declared.report.SessionEnd.TheVariants.{Ended}
use Rattle.cmd_status.specs.declared.status.Status.{Status}
use Rattle.cmd_status.specs.declared.status.Status.TheVariants.{Done, Limit}
use Rattle.install_backup.specs.Marks.{marked_greeting, marked_user}
use Rattle.call_parts.specs.LineRuns.{log_in}
use Rattle.cmd_files.proofs.NeverLaws.{IsAnsweredOrFull, install-said, install_never}

-- ---- what it left

ended_load : {F : Type 0} (mark : Mark) {databases : List DatabaseValue} {old new : WorldValue F} {palm_after : FolderTold} {report : Report}
    → IsAtRest old.server.device → AllByRecursion IsBoundedDatabase databases → Tells old new palm_after report
    → ToldLoaded mark databases old.server.device old new report.databases.items → EndedLoad mark old.server.device databases palm_after report
ended_load mark {databases} {old} {new} {palm_after} {report} rests bounded tells told =
    let logged = logged_all tells.silent tells.is_log told.does in
    let on = loaded-after mark old.server.device databases rests bounded told.room in
    record {
      room = told.room;
      said = record {
        issued = ap (λ (l : LogValue). l.issued) tells.said ∙ logged.issued_are;
        performed = ap (λ (l : LogValue). l.performed) tells.said ∙ logged.performed_are;
      };
      handheld = subst (λ (ds : List DatabaseValue). Stands palm_after.contents ds (marked_user mark old.server.device.user))
          (ap (λ (d : Device). d.databases) logged.device ∙ on.databases_are)
          (subst (λ (user : UserInfo). Stands palm_after.contents new.server.device.databases user)
          (ap (λ (d : Device). d.user) logged.device ∙ on.user) tells.stands);
      told = told.told;
    }

-- what is told is what the answer says
told_by : {F : Type 0} (mark : Mark) {databases : List DatabaseValue} {device : Device} {old new : WorldValue F} (answer : Result (Vec DbReport) Stop)
    (report : Report)
    → IfOk answer (λ reports. ToldLoaded mark databases device old new reports.items) → report.databases.items ≡ left_databases answer
    → report.end ≡ left_end answer → report.end ≡ Ended → ToldLoaded mark databases device old new report.databases.items
told_by mark {databases} {device} {old} {new} (Ok reports) report told same is ended =
    subst (λ (l : List DbReport). ToldLoaded mark databases device old new l) (sym same) told
told_by mark (Err why) report told same is ended = absurd (let both = sym is ∙ ended in cc)

-- the other folder is never blamed
no_desk : {F : Type 0} (fault : WorldValue F → Option LinkFault) (mark : Mark) (databases : List DatabaseValue) (device : Device) (old new : WorldValue F)
    (answer : Result (Vec DbReport) Stop)
    → IfErr answer (IsInstallStop (λ (world : WorldValue F). Some (world_talk world)) fault mark databases device old new) → IsErrOf answer stop.DeskFault → ⊥
no_desk {F} fault mark databases device old new answer stops is =
    let Stops : Stop → Type 0 = IsInstallStop (λ (world : WorldValue F). Some (world_talk world)) fault mark databases device old new in
    subst (λ (a : Result (Vec DbReport) Stop). IfErr a Stops) is stops

-- ---- by all that its calls answered, over a world that was fresh
pub load_spoke : {F : Type 0} {contents : F → Option FileMap} {moments : F → Moments} {paths : F → Option (List (List ℕ))} {faults : F → ℕ}
    (fault : WorldValue F → Option LinkFault) (downs : WorldValue F → ℕ) (mark : Mark) {databases : List DatabaseValue} {old new : WorldValue F}
    (desk : FolderTold) (end : Result (Vec Moved) Stop) (answer : Result (Vec DbReport) Stop) {status : Status} {report : Report}
    → Stands (contents old.server.folder) old.server.device.databases old.server.device.user → IsAtRest old.server.device → NamesRise databases
    → AllByRecursion IsBoundedDatabase databases → old.log ≡ no_log → old.cause ≡ None → WorldSince contents moments paths faults old new
    → InstallEnds (λ (world : WorldValue F). Some (world_talk world)) (λ (first last : WorldValue F). WorldSince contents moments paths faults first last)
    fault downs mark databases old.server.device old new end
    → TellsMoves ToHandheld end answer → Closes new answer status report
    → IsLoadTalk old.script mark old.server.device databases (record { palm = folder_told contents moments paths faults old.server.folder; desk = desk })
    (record { palm = folder_told contents moments paths faults new.server.folder; desk = desk }) status report
load_spoke {F} {contents} {moments} {paths} {faults} fault downs mark {databases} {old} {new} desk end answer {status} {report} stands rests rise bounded
    silent calm since ends moved closes =
    let palm = folder_told contents moments paths faults old.server.folder in
    let palm_after = folder_told contents moments paths faults new.server.folder in
    let before : SidesTold = record { palm = palm; desk = desk } in
    let after : SidesTold = record { palm = palm_after; desk = desk } in
    let told : ToldLoads fault mark databases old.server.device old new answer =
    told_loads (λ (first last : WorldValue F). WorldSince contents moments paths faults first last) fault downs mark databases old.server.device old new end
    answer ends moved in
    let tells = closes.tells in
    let line = line_ran silent stands since tells in
    let sides : Tells old new palm_after report =
    record { silent = silent; is_log = tells.log; said = tells.said; given = line.given; writes = tells.writes; stands = since.served.stands stands } in
    let asked : List (List ℕ) = map text (install_acts mark old.server.device.user databases) in
    let issued : IsPrefix new.log.issued asked = issued_begins old new asked silent tells.log ends.stops.only in
    let of = load_said fault mark databases old.server.device old new new.cause answer told closes.left.status issued
    (λ (acts : List Act) (does : Does (λ (world : WorldValue F). Some (world_talk world)) acts old new).
    subst (λ (l : List (List ℕ)). IsPrefix l asked) (logged_all silent tells.log does).issued_are issued) in
    let reported : (requests : List (List ℕ)) → IsPrefix new.log.issued requests → IsPrefix (log_in report).issued requests =
    λ requests prefix. subst (λ (l : LogValue). IsPrefix l.issued requests) (sym tells.said) prefix in
    let until = marked_greeting mark old.server.device.user ++ until_full databases old.server.device.databases in
    let never = install_never fault mark databases old.server.device old new (all-talked IsAnsweredOrFull new tells
    (install-said line mark databases rests bounded (reported asked issued)
    (λ name full. reported (map text until) (issued_begins old new (map text until) silent tells.log (ends.until name full).only)))) answer told.cause in
    let spoken = spoke asked stands silent since never closes of in
    let left : LoadLeft mark old.server.device databases palm palm_after report = record {
      ended = λ ended. ended_load mark rests bounded sides (told_by mark answer report told.ended closes.left.databases closes.left.end ended);
      beside = stands_beside mark rests bounded palm_after.contents (record {
        writes = report.writes;
        given = report.given.items;
        reached = spoken.line.last;
        front = spoken.front;
        stands = spoken.line.stands;
      });
      each_moment = moments_weaken (StandsAtFront old.server.device asked) (StandsBeside mark old.server.device databases) palm.moments palm_after.moments
          spoken.fronts (stands_beside mark rests bounded);
    } in
    let had : HadLoad old.script mark old.server.device databases palm palm_after status report =
    record { spoke = spoken; left = left; shows = load_shows fault mark databases rests rise bounded sides new.cause answer never told closes.left.status } in
    record {
      shown = by_left answer (KeptSilent before after status report) closes.left.end had;
      blames = record {
        handheld = palm_blamed calm since closes;
        desktop = λ e. absurd (no_desk fault mark databases old.server.device old new answer told.cause
            (left_desk answer new.cause (left_in status report) closes.left e));
      };
      paths = record { handheld = since.served.same_paths; desktop = refl };
    }

-- ---- whatever is written of it

not_done : (name : List ℕ) → Done ≡ Limit name → ⊥
not_done name is = let no : ⊥ = cc in no

shows_retold : (mark : Mark) (device : Device) (databases : List DatabaseValue) (palm_after : FolderTold)
    → StaysShown (ShowsLoad mark device databases palm_after)
shows_retold mark device databases palm_after status other report (inl same) shows =
    subst (λ (s : Status). ShowsLoad mark device databases palm_after s report) (sym same) shows
shows_retold mark device databases palm_after status other report (inr (inl memory)) shows =
    subst (λ (s : Status). ShowsLoad mark device databases palm_after s report) (sym memory) (record { status_is = tt; full = λ name full. inr tt })
shows_retold mark device databases palm_after status other report (inr (inr (done, inl untold))) shows =
    subst (λ (s : Status). ShowsLoad mark device databases palm_after s report) (sym untold)
    (let was = subst (λ (s : Status). ShowsLoad mark device databases palm_after s report) done shows in
    record { status_is = tt; full = λ name full. elim (was.full name full) [ inl e ↦ absurd (not_done name e) | inr cut ↦ absurd cut ] })
shows_retold mark device databases palm_after status other report (inr (inr (done, inr unsaid))) shows =
    subst (λ (s : Status). ShowsLoad mark device databases palm_after s report) (sym unsaid)
    (let was = subst (λ (s : Status). ShowsLoad mark device databases palm_after s report) done shows in
    record { status_is = tt; full = λ name full. elim (was.full name full) [ inl e ↦ absurd (not_done name e) | inr cut ↦ absurd cut ] })

pub load_retold : (rules : List RuleValue) (mark : Mark) (device : Device) (databases : List DatabaseValue) (before after : FolderTold)
    → StaysShown (HadLoad rules mark device databases before after)
load_retold rules mark device databases before after status other report is had =
    had_retold other (shows_retold mark device databases after) is had

-- told from an earlier time on
pub load_from : {rules : List RuleValue} {mark : Mark} {device : Device} {databases : List DatabaseValue} {first before after : FolderTold} {status : Status}
    {report : Report} → StaysAsItWas first before → HadLoad rules mark device databases before after status report
    → HadLoad rules mark device databases first after status report
load_from {mark = mark} {device} {databases} {after = after} stays had = record {
  spoke = spoke_from stays had.spoke;
  left = record {
    ended = had.left.ended;
    beside = had.left.beside;
    each_moment = subst (λ (m : Moments). EachMomentSince (StandsBeside mark device databases) m after.moments) stays.moments had.left.each_moment;
  };
  shows = had.shows;
}
