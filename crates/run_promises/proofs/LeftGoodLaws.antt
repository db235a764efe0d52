-- Good folders stay good, whatever becomes of a run: what it leaves can be opened.
use Rattle.std.proofs.Common.{◌≡◌, ◌⊎◌, ◌∙◌, ◌≤◌, inl, inr, ap, refl, sym, subst, arith, ℕ, Bool, true, false, cond, List, [], ◌∷◌, is_some}
use Rattle.std.specs.Prelude.{Option, Some, None, IfSome, bytes_eq}
use Rattle.std.specs.FinMap as finmap
use Rattle.std.specs.List.{AllByRecursion}
use Rattle.std.specs.Option.{option_map, option_or}
use Rattle.hs_folders.specs.FileMaps.{FileMap}
use Rattle.hs_folders.specs.Moments.{EachMomentSince}
use Rattle.hs_folders.proofs.MomentLaws.{moments_weaken}
use Rattle.palm_device.specs.Devices.{Device}
use Rattle.palm_device.specs.Soundness.{IsDevice}
use Rattle.dlp_commands.specs.DeviceRuns.{Exchange}
use Rattle.dlp_commands.proofs.StepLaws.{sound_stays, stepped}
use Rattle.folder_files.specs.FileNames.{desktop_info_file, device_info_file, is_kept_file, journal_file}
use Rattle.handheld_files.specs.Openings.{Stands}
use Rattle.line_world.specs.Folders.{FilesRan, OthersStay}
use Rattle.desk_journal.specs.Entries.{EntryValue}
use Rattle.desk_journal.specs.Overlays.{FinishesAs, finished, put_all}
use Rattle.desk_journal.proofs.FinishLaws.{plain_finished}
use Rattle.desk_journal.proofs.OverlayLaws.{get-put_all, last_of, same_name, same_name-other}
use Rattle.desk_store.specs.Desks.{IsDesk, IsOpenable, IsReadable, StaysOpenable, all_rows}
use Rattle.desk_store.specs.Shelves.{SlotValue}
use Rattle.desk_store.proofs.CountLaws.{told_number}
use Rattle.desk_store.proofs.FileLaws.{file_kept}
use Rattle.desk_store.proofs.OpenableLaws.{finishes_openable, told_openable}
use Rattle.session_plan.specs.Limits.{first_over}
use Rattle.session_plan.specs.Merges.{merged_slots}
use Rattle.sync_session.specs.Outcomes.{IsCommitFile, StandsForSlots}
use Rattle.session_plan.specs.Tasks.{Meeting}
use Rattle.front_laws.proofs.RowCountLaws.{merged-few}
use Rattle.run_promises.specs.Again.{IsRepeat}
use Rattle.call_parts.specs.Causes.{ByEnd}
use Rattle.cmd_session.specs.Ends.{StoppedBefore, StoppedBehind}
use Rattle.run_promises.specs.RunCalls.{IsAnsweredRun, RunCall}
use Rattle.call_parts.specs.LineRuns.{exchanges_in}
use Rattle.cmd_session.specs.Meetings.{Meets}
use Rattle.cmd_session.specs.Runs.{SessionRan, run_command}
use Rattle.call_parts.specs.SessionCalls.{SentNothing}
use Rattle.call_parts.specs.Undisturbed.{AreGood, EndsWell, IsGoodDesktop, IsGoodHandheld}
use Rattle.cmd_session.specs.Undisturbed.{IsCalm}
use Rattle.call_parts.specs.declared.report.SessionEnd.{SessionEnd}
use Rattle.call_parts.specs.declared.report.SessionEnd.TheVariants.{Ended, NotStarted, Stopped}
use Rattle.run_promises.proofs.AgainCalls.{ran-of, session_in}
use Rattle.run_promises.proofs.AgainLaws.{Ran, ended-behind, first-within}
use Rattle.call_parts.proofs.EndLaws.{same_some}
use Rattle.run_promises.proofs.FinishedFiles.{finished-get}
use Rattle.run_promises.proofs.GoodHandheldLaws.{few-files, none-bad}
use Rattle.front_laws.proofs.SlotLaws.{picked-near}
use Rattle.dlp_replies.proofs.ReplyLaws.{no_truth}

-- ---- a handheld

-- a folder that tells its files still does, and the desktop's information file is as it was
record HasStayed (held : FileMap) (now : Option FileMap) : Type 0 where
  files : FileMap
  is : now ≡ Some files
  other : finmap.get files desktop_info_file ≡ finmap.get held desktop_info_file

has_stayed : (before now : Option FileMap) (held : FileMap) → OthersStay before now → before ≡ Some held → HasStayed held now
has_stayed before None held others is =
    let same = others desktop_info_file refl ∙ ap (option_map (λ files. finmap.get files desktop_info_file)) is in
    absurd (let no : ⊥ = cc in no)
has_stayed before (Some files) held others is =
    let same = others desktop_info_file refl ∙ ap (option_map (λ files. finmap.get files desktop_info_file)) is in
    record { files = files; is = refl; other = same_some same }

device_ran : (exchanges : List Exchange) (told later : Option FileMap) (device new : Device) → FilesRan told device exchanges later new → IsDevice device
    → IsDevice new
device_ran [] told later device new ran sound = subst IsDevice (sym ran.1) sound
device_ran (x ∷ xs) told later device new ran sound =
    device_ran xs ran.1 later ran.0 new ran.4 (sound_stays device ran.0 x.request x.reply sound (stepped device ran.0 x.request x.reply ran.2))

good-handheld : (before now : Option FileMap) (device : Device) → IsGoodHandheld before → OthersStay before now → Stands now device.databases device.user
    → IsDevice device → IsGoodHandheld now
good-handheld before now device good others stands sound =
    let stayed = has_stayed before now good.held others good.is in
    let here = subst (λ (told : Option FileMap). Stands told device.databases device.user) stayed.is stands in
    let count = few-files stayed.files device.databases device.user here in
    let few = sound.few in
    record {
      held = stayed.files;
      is = stayed.is;
      side = ap is_some stayed.other ∙ good.side;
      few = omega (arith, count, few);
      good = none-bad stayed.files device.databases device.user here;
    }

-- ---- a desktop

names_differ : device_info_file ≡ journal_file → ⊥
names_differ e =
    let own : bytes_eq device_info_file device_info_file ≡ true = refl in
    let other : bytes_eq device_info_file journal_file ≡ false = refl in
    no_truth (sym own ∙ ap (bytes_eq device_info_file) e ∙ other)

handheld_file : (held : FileMap) → finmap.get (finished held) device_info_file ≡ finmap.get held device_info_file
handheld_file held = finished-get device_info_file refl held names_differ

-- a folder that tells what it finishes as tells its files
told_so : (made now : Option FileMap) (held : FileMap) → FinishesAs made now → made ≡ Some held → (files : FileMap) × (now ≡ Some files)
    × (finished files ≡ finished held)
told_so made None held same is =
    let none = same ∙ ap (λ (t : Option FileMap). option_map finished t) is in absurd (let no : ⊥ = cc in no)
told_so made (Some files) held same is =
    let some = same ∙ ap (λ (t : Option FileMap). option_map finished t) is in (files, refl, same_some some)

same_side : (files held : FileMap) → finished files ≡ finished held → finmap.get files device_info_file ≡ finmap.get held device_info_file
same_side files held same =
    sym (handheld_file files) ∙ ap (λ (f : FileMap). finmap.get f device_info_file) same ∙ handheld_file held

good-finished : (before now : Option FileMap) → IsGoodDesktop before → FinishesAs before now → IsGoodDesktop now
good-finished before now good same =
    let told = told_so before now good.held same good.is in
    record {
      held = told.0;
      is = told.1;
      side = ap is_some (same_side told.0 good.held told.2) ∙ good.side;
      readable = subst IsReadable (sym told.2) good.readable;
    }

kept_file : {meeting : Meeting} (name : List ℕ) → IsCommitFile meeting name → is_kept_file name ≡ true
kept_file name (inl info) = ap is_kept_file info ∙ refl
kept_file {meeting} name (inr file) = ap is_kept_file file.is ∙ file_kept meeting.picked file.role file.name

no_handheld : (meeting : Meeting) (entries : List EntryValue) → AllByRecursion (λ (entry : EntryValue). IsCommitFile meeting entry.name) entries
    → last_of device_info_file entries ≡ None
no_handheld meeting [] files = refl
no_handheld meeting (entry ∷ entries) files =
    let apart : same_name device_info_file entry.name ≡ false = same_name-other device_info_file entry.name
    (λ e. no_truth (sym (kept_file entry.name files.0) ∙ sym (ap is_kept_file e))) in
    ap (λ (o : Option (List ℕ)). option_or o (cond (same_name device_info_file entry.name) (Some entry.bytes) None)) (no_handheld meeting entries files.1)
    ∙ ap (λ (b : Bool). cond b (Some entry.bytes) None) apart

put_side : (meeting : Meeting) (entries : List EntryValue) (held : FileMap)
    → AllByRecursion (λ (entry : EntryValue). IsCommitFile meeting entry.name) entries
    → finmap.get (put_all entries held) device_info_file ≡ finmap.get held device_info_file
put_side meeting entries held files =
    get-put_all entries held device_info_file
    ∙ ap (λ (o : Option (List ℕ)). option_or o (finmap.get held device_info_file)) (no_handheld meeting entries files)

-- where the files of a commit stand over those that were there
good-side : (meeting : Meeting) (before now : Option FileMap) (entries : List EntryValue) → (good : IsGoodDesktop before)
    → AllByRecursion (λ (entry : EntryValue). IsCommitFile meeting entry.name) entries
    → FinishesAs (option_map (put_all entries) (option_map finished before)) now → (files : FileMap) × (now ≡ Some files)
    × (finmap.get files device_info_file ≡ finmap.get good.held device_info_file)
good-side meeting before now entries good files same =
    let made : option_map (put_all entries) (option_map finished before) ≡ Some (put_all entries (finished good.held)) =
    ap (λ (t : Option FileMap). option_map (put_all entries) (option_map finished t)) good.is in
    let told = told_so (option_map (put_all entries) (option_map finished before)) now (put_all entries (finished good.held)) same made in
    (told.0, told.1, same_side told.0 (put_all entries (finished good.held)) told.2 ∙ put_side meeting entries (finished good.held) files ∙ handheld_file good.held)

readable-slots : (held : FileMap) (slots : List SlotValue) → IsDesk (Some (finished held)) slots → all_rows slots ≤ 200 → IsReadable (finished held)
readable-slots held slots desk few =
    subst IsReadable (plain_finished (finished held) desk.stands.no_journal) (told_openable (Some (finished held)) slots desk few)

pub rows-few : {before : Option FileMap} {slots : List SlotValue} → IsGoodDesktop before → IsDesk (option_map finished before) slots → all_rows slots ≤ 200
rows-few {before} {slots} good desk =
    let here = subst (λ (t : Option FileMap). IsDesk (option_map finished t) slots) good.is desk in
    let count = told_number (Some (finished good.held)) slots here in
    let few = good.readable.few in
    omega (arith, count, few)

-- ---- a session

module _ (ran : Ran) (good : IsGoodDesktop ran.before.desk.contents) where
  few-merged : (given : List ℕ) → first_over ran.meeting ≡ None → all_rows (merged_slots ran.meeting given) ≤ 200
  few-merged given none = merged-few ran.meeting given none (picked-near ran.meeting ran.meeting.wishes.user ran.picked) (rows-few good ran.desktop)

  good-behind : {now : Option FileMap} (given : List ℕ) → first_over ran.meeting ≡ None
      → ((files : FileMap) × (now ≡ Some files) × (finmap.get files device_info_file ≡ finmap.get good.held device_info_file))
      → StandsForSlots (merged_slots ran.meeting given) now → IsGoodDesktop now
  good-behind given none told stands = record {
    held = told.0;
    is = told.1;
    side = ap is_some told.2 ∙ good.side;
    readable = readable-slots told.0 (merged_slots ran.meeting given)
        (subst (λ (t : Option FileMap). IsDesk (option_map finished t) (merged_slots ran.meeting given)) told.1 stands) (few-merged given none);
  }

openable-before : {told : Option FileMap} → IsGoodDesktop told → IfSome told IsOpenable
openable-before {told} good = subst (λ (t : Option FileMap). IfSome t IsOpenable) (sym good.is) good.readable

-- at each moment of a session it could be opened
openable-at : (ran : Ran) → IsGoodDesktop ran.before.desk.contents → (given : List ℕ) → first_over ran.meeting ≡ None → (told : Option FileMap)
    → FinishesAs ran.before.desk.contents told ⊎ StandsForSlots (merged_slots ran.meeting given) told → IfSome told IsOpenable
openable-at ran good given none None at = tt
openable-at ran good given none (Some files) (inl same) = finishes_openable ran.before.desk.contents (Some files) same (openable-before good)
openable-at ran good given none (Some files) (inr stands) =
    readable-slots files (merged_slots ran.meeting given) stands (few-merged ran good given none)

-- ---- a call

module _ (call : RunCall) (good : AreGood call.before) where
  abbrev Ends : Ran → Type 0
  Ends ran = StoppedBefore ran.meeting ran.before.desk ran.after.desk ran.report ⊎ StoppedBehind ran.meeting ran.after.desk ran.report

  told-after : SessionRan call.run call.before call.after call.status call.report → (files : FileMap) × (call.after.desk.contents ≡ Some files)
      × (finmap.get files device_info_file ≡ finmap.get good.desktop.held device_info_file)
  told-after session = elim session.changed.stands [
    | inl same ↦
        let told = told_so call.before.desk.contents call.after.desk.contents good.desktop.held same good.desktop.is in
        (told.0, told.1, same_side told.0 good.desktop.held told.2)
    | inr moved ↦
        good-side session.meeting call.before.desk.contents call.after.desk.contents session.changed.entries good.desktop session.changed.files moved
  ]

  good-session : (session : SessionRan call.run call.before call.after call.status call.report) → Ends (ran-of call session) → AreGood call.after
  good-session session ends =
      let ran = ran-of call session in
      record {
        handheld = good-handheld call.before.palm.contents call.after.palm.contents ran.line.last good.handheld ran.line.others ran.line.stands
            (device_ran (exchanges_in call.report) call.before.palm.contents call.after.palm.contents ran.meeting.device ran.line.last ran.line.files
            ran.left.sound.device.sound);
        desktop = elim ends [
          | inl before ↦ good-finished call.before.desk.contents call.after.desk.contents good.desktop before.stands
          | inr behind ↦ good-behind ran good.desktop ran.report.given.items (first-within ran behind) (told-after session) behind.stands
        ];
      }

  good-call : (end : SessionEnd) → call.report.end ≡ end → ByEnd end (SentNothing (run_command call.run) call.before call.after call.status call.report)
      (SessionRan call.run call.before call.after call.status call.report) → AreGood call.after
  good-call NotStarted is sent = record {
    handheld = subst IsGoodHandheld (sym sent.handheld.contents) good.handheld;
    desktop = good-finished call.before.desk.contents call.after.desk.contents good.desktop sent.desktop.stands.stands;
  }
  good-call Stopped is session = good-session session ((ran-of call session).left.stopped is)
  good-call Ended is session =
      let ran = ran-of call session in good-session session (inr (ended-behind ran (ran.left.ended is)))

  -- the desktop's folder could be opened at each moment
  each-session : ((meeting : Meeting) → Meets call.run call.before meeting → first_over meeting ≡ None)
      → SessionRan call.run call.before call.after call.status call.report
      → EachMomentSince (λ told. IfSome told IsOpenable) call.before.desk.moments call.after.desk.moments
  each-session within session =
      let ran = ran-of call session in
      let given = session.talked.left.given in
      moments_weaken (λ told. FinishesAs call.before.desk.contents told ⊎ StandsForSlots (merged_slots session.meeting given) told)
      (λ told. IfSome told IsOpenable) call.before.desk.moments call.after.desk.moments session.talked.left.moments
      (openable-at ran good.desktop given (within session.meeting session.meets))

  each-call : (end : SessionEnd) → ((meeting : Meeting) → Meets call.run call.before meeting → first_over meeting ≡ None)
      → ByEnd end (SentNothing (run_command call.run) call.before call.after call.status call.report)
      (SessionRan call.run call.before call.after call.status call.report)
      → EachMomentSince (λ told. IfSome told IsOpenable) call.before.desk.moments call.after.desk.moments
  each-call NotStarted within sent =
      moments_weaken (FinishesAs call.before.desk.contents) (λ told. IfSome told IsOpenable) call.before.desk.moments call.after.desk.moments
      sent.desktop.stands.each_moment (λ told same. finishes_openable call.before.desk.contents told same (openable-before good.desktop))
  each-call Stopped within session = each-session within session
  each-call Ended within session = each-session within session

pub left-good : (call : RunCall) → IsAnsweredRun call → AreGood call.before → AreGood call.after
left-good call did good = good-call call good call.report.end refl (session_in call refl did)

pub left-openable : (call : RunCall) → IsAnsweredRun call → AreGood call.before
    → ((meeting : Meeting) → Meets call.run call.before meeting → first_over meeting ≡ None)
    → StaysOpenable call.after.desk.contents call.before.desk.moments call.after.desk.moments
left-openable call did good within = record {
  here = openable-before (left-good call did good).desktop;
  each = each-call call good call.report.end within (session_in call refl did);
}

-- so a run over what one left, which nothing else disturbs, is done
pub again-well : (call next : RunCall) → IsAnsweredRun call → AreGood call.before → IsAnsweredRun next → IsRepeat call next
    → IsCalm next.run next.before next.after next.out next.out_after next.report → EndsWell next.status next.report
again-well call next did good did_next repeat calm =
    let after = left-good call did good in
    did_next.complete (record {
      folders = record {
        handheld = subst IsGoodHandheld (sym repeat.palm) after.handheld;
        desktop = subst IsGoodDesktop (sym repeat.desk) after.desktop;
      };
      calm = calm;
    })
