-- What a backup leaves of its folder and of the handheld, where the port told that.
use Rattle.std.proofs.Common.{◌≡◌, ◌⊎◌, ◌∙◌, ◌≤◌, ℕ, true, List, [], ◌++◌, Option, Some, Result, ap, append_assoc, arith, inl, inr, length, map, subst, sym, take}
use Rattle.std.specs.Global.{Vec}
use Rattle.std.specs.List.{flat_map}
use Rattle.std.specs.Option.{option_map}
use Rattle.std.proofs.lemmas.List.{map-append}
use Rattle.std.proofs.Math.Seq.{take-append_seam}
use Rattle.hs_folders.specs.FileMaps.{FileMap}
use Rattle.hs_folders.specs.Moments.{EachMomentSince, Moments}
use Rattle.pdb_values.specs.Databases.{DatabaseValue}
use Rattle.palm_device.specs.Devices.{Device}
use Rattle.handheld_files.specs.Openings.{AreKept}
use Rattle.desk_journal.specs.Entries.{EntryValue}
use Rattle.desk_journal.specs.Overlays.{put_all}
use Rattle.dlp_commands.specs.DeviceRuns.{Exchange}
use Rattle.dlp_commands.specs.Talks.{Talk, fresh, issued}
use Rattle.desktop_session.specs.Acts.{text}
use Rattle.desktop_session.specs.Says.{IsPrefix, answered as count_answered, said}
use Rattle.desktop_session.specs.Stops.{Does}
use Rattle.device_stream.specs.Hands.{Hand}
use Rattle.session_parts.specs.Rests.{IsAtRest}
use Rattle.session_parts.specs.declared.report.DbReport.{DbReport}
use Rattle.session_parts.specs.declared.stop.Stop.{Stop}
use Rattle.install_backup.specs.declared.moved.Moved.{Moved}
use Rattle.install_backup.specs.BackupActs.{backup_acts, backup_of}
use Rattle.install_backup.specs.BackupEnds.{BackupEnds, backup_front, next_of, read_of}
use Rattle.install_backup.specs.Backups.{HasSome, file_of, kept_moved}
use Rattle.port_laws.proofs.StageLaws.{opened}
use Rattle.port_laws.specs.Palms.{IsOurs, Palm, is_first}
use Rattle.port_link.proofs.RanLaws.{calls-ran, first-ran, last-palm}
use Rattle.port_link.specs.Calls.{LinkValue, Since}
use Rattle.port_link.specs.Hands.{HandRan}
use Rattle.port_link.specs.Logs.{EntryValue as LogEntry}
use Rattle.port_link.specs.Standing.{talk_at, talk_of}
use Rattle.call_parts.specs.Closings.{left_databases, left_end}
use Rattle.call_parts.specs.LineRuns.{write_count}
use Rattle.call_parts.specs.Told.{folder_told}
use Rattle.call_parts.specs.declared.report.SessionEnd.TheVariants.{Ended}
use Rattle.call_parts.proofs.EndLaws.{acts-count, prefix-on}
use Rattle.cmd_files.specs.Backups.{backup_file}
use Rattle.cmd_files.specs.Moves.{TellsMoves, moved_report}
use Rattle.cmd_files.specs.declared.moved.Way.TheVariants.{ToFiles}
use Rattle.cmd_files.proofs.BackupActLaws.{front-kept, next-begins}
use Rattle.cmd_files.proofs.BackupSaid.{AreRead, all_read, files-are, read_first, reports-are, take-past}
use Rattle.port_run.specs.Ends.{given_by}
use Rattle.port_run.specs.Links.{LinkRan, answered, fault_of_link, link_over}
use Rattle.port_run.specs.Told.{PortTold}
use Rattle.port_run.specs.declared.synced.CableReport.{CableReport}
use Rattle.port_run.proofs.BehindLaws.{fresh-told, link-ran, still-ran}
use Rattle.port_run.proofs.TalkedLaws.{all-performed, begins-fresh, front_over, performed-begins, performed-many, said_over, told_all}
use Rattle.port_files.specs.Backups.{BackupLeft, EndedAtPort, KeepsFirst, LeavesHandheld}
use Rattle.port_files.proofs.KeepLaws.{ends-so, ok-says}

answered-some : (o : Option Talk) (talk : Talk) → o ≡ Some talk → count_answered o ≡ length talk.exchanges
unfolding count_answered
answered-some o talk is = ap count_answered is

-- ---- over a link that told a fresh talk of this handheld

module _ {F : Type 0} (contents : F → Option FileMap) (moments : F → Moments) (paths : F → Option (List (List ℕ))) (faults : F → ℕ) (downs : LinkValue → ℕ)
    {folder folder_after : F} {device : Device} (old new : LinkValue) (talk : Talk) (hand : Hand) (end : Result (Vec Moved) Stop)
    (was : talk_of old ≡ Some (fresh device)) (is : talk_of new ≡ Some talk) (ran : HandRan device talk hand) (reads : AreRead device device.databases)
    (ends : BackupEnds talk_of (λ (first last : LinkValue). Since first last) fault_of_link downs contents moments device old new folder folder_after end) where
  abbrev reached : List (List ℕ)
  reached = map text (backup_front device ++ (flat_map backup_of ends.kept ++ next_of ends.later))

  abbrev whole_ones : List (List ℕ)
  whole_ones = map text (backup_front device ++ flat_map backup_of ends.kept)

  issued-begins : IsPrefix (issued talk) reached
  issued-begins = begins-fresh device talk old new reached was is ends.stops.only

  begins : IsPrefix hand.performed reached
  begins = prefix-on (performed-begins ran) issued-begins

  reached-parts : reached ≡ whole_ones ++ map text (next_of ends.later)
  reached-parts =
      ap (λ acts. map text acts) (sym (append_assoc (backup_front device) (flat_map backup_of ends.kept) (next_of ends.later)))
      ∙ map-append text (backup_front device ++ flat_map backup_of ends.kept) (next_of ends.later)

  performed-ones : Does talk_of (backup_front device ++ flat_map backup_of ends.kept) old ends.now
      → count_answered (talk_of ends.now) ≤ count_answered (talk_of new) → IsPrefix whole_ones hand.performed
  performed-ones does more =
      let acts = backup_front device ++ flat_map backup_of ends.kept in
      let first = said acts (fresh device) in
      let told = said_over device old ends.now was does in
      let all = told_all device first old ends.now was told does in
      let count = acts-count acts device in
      let same = ap (λ (es : List Exchange). length es) all.exchanges_are in
      let here = answered-some (talk_of ends.now) first told in
      let there = answered-some (talk_of new) talk is in
      let many = performed-many ran in
      let front : take (length hand.performed) (whole_ones ++ map text (next_of ends.later)) ≡ hand.performed =
      ap (λ (l : List (List ℕ)). take (length hand.performed) l) (sym reached-parts ∙ sym begins.is) ∙ take-append_seam hand.performed begins.rest in
      subst (λ (l : List (List ℕ)). IsPrefix whole_ones l) front
      (take-past whole_ones (map text (next_of ends.later)) (length hand.performed) (omega (arith, more, count, same, here, there, many)))

  behind : (ends.kept ≡ []) ⊎ IsPrefix whole_ones hand.performed
  behind = elim ends.behind [ inl none ↦ inl none | inr both ↦ inr (performed-ones both.0 both.1.kept) ]

  leaves : LeavesHandheld device ends.kept ends.later hand
  leaves =
      let stays = front-kept device hand.device (write_count hand.performed) (given_by hand)
      (front_over ran (prefix-on issued-begins (next-begins device ends.kept ends.later ends.parts))) in
      record { databases = stays.databases; user = stays.user; begins = begins; behind = behind }

  files-same : map (λ (d : DatabaseValue). file_of (read_of device d)) ends.kept ≡ map backup_file ends.kept
  files-same = files-are device ends.kept (read_first device ends.kept ends.later (subst (AreRead device) (sym ends.parts) reads))

  keeps : KeepsFirst device ends.kept (folder_told contents moments paths faults folder) (folder_told contents moments paths faults folder_after)
  keeps = record {
    files = ends.files ∙ ap (λ (es : List EntryValue). option_map (put_all es) (contents folder)) files-same;
    each_moment = subst (λ (es : List EntryValue). EachMomentSince (HasSome es (contents folder)) (moments folder) (moments folder_after)) files-same
        ends.each_moment;
  }

  ended : (answer : Result (Vec DbReport) Stop) (report : CableReport) → TellsMoves ToFiles end answer → report.end ≡ left_end answer
      → report.databases.items ≡ left_databases answer → report.end ≡ Ended → EndedAtPort device ends.later hand report
  ended answer report tells same databases done =
      let it = ends-so end answer tells (sym same ∙ done) in
      let over = ok-says end (λ (moved : Vec Moved). (ends.later ≡ []) × (Does talk_of (backup_acts device) old new
      × (moved.items ≡ map (λ (d : DatabaseValue). kept_moved (read_of device d)) device.databases))) it.end_is ends.ended in
      let told = told_all device talk old new was is over.1.0 in
      record {
        all = over.0;
        performed = all-performed ran told.none_left ∙ told.issued_are;
        told = databases ∙ it.told ∙ ap (λ (moved : List Moved). map (moved_report ToFiles) moved) over.1.1 ∙ reports-are device device.databases reads;
      }

-- ---- over a port that told it

pub backup_left : {F : Type 0} (contents : F → Option FileMap) (moments : F → Moments) (paths : F → Option (List (List ℕ))) (faults : F → ℕ)
    (downs : LinkValue → ℕ) {folder folder_after : F} (port after : PortTold) (palm : Palm) (report : CableReport) (log : List LogEntry)
    (end : Result (Vec Moved) Stop) (answer : Result (Vec DbReport) Stop) → port.palm ≡ Some palm → is_first palm ≡ true → IsOurs palm.hand → IsAtRest palm.hand.device
    → AreKept palm.hand.device.databases → TellsMoves ToFiles end answer → report.end ≡ left_end answer → report.databases.items ≡ left_databases answer
    → (ran : LinkRan port after report.cause log)
    → BackupEnds talk_of (λ (first last : LinkValue). Since first last) fault_of_link downs contents moments palm.hand.device (link_over port) ran.last
    folder folder_after end
    → BackupLeft palm.hand.device after.palm (folder_told contents moments paths faults folder) (folder_told contents moments paths faults folder_after)
    (answered (link_over port) ran.last answer) report
backup_left contents moments paths faults downs port after palm report log end answer is first ours rests kept tells same databases ran ends =
    let start = opened palm first in
    let fresh_ran = first-ran port.given port.taken port.palm port.paths port.faults palm is first ours in
    let last_ran = calls-ran palm.hand ran.since.0 (link_over port) ran.last fresh_ran ran.since.1 in
    let last = last-palm ran.last last_ran after.given after.taken after.palm log ran.leaves in
    let talk = talk_at ran.last.cause ran.last.begun ran.last.id ran.last.scene.desk.end last_ran.palm in
    let told : talk_of ran.last ≡ Some talk =
    ap (option_map (talk_at ran.last.cause ran.last.begun ran.last.id ran.last.scene.desk.end)) last_ran.told_is in
    let hand_ran = still-ran last.did (link-ran palm.hand start.performed start.replies last_ran told) in
    let was = fresh-told port palm is first in
    let reads = all_read palm.hand.device rests kept in
    record {
      talk = talk;
      told = told;
      palm = last.palm;
      palm_is = last.palm_is;
      ran = hand_ran;
      kept = ends.kept;
      later = ends.later;
      parts = ends.parts;
      files = keeps contents moments paths faults downs (link_over port) ran.last talk last.palm.hand end was told hand_ran reads ends;
      handheld = leaves contents moments paths faults downs (link_over port) ran.last talk last.palm.hand end was told hand_ran reads ends;
      ended = ended contents moments paths faults downs (link_over port) ran.last talk last.palm.hand end was told hand_ran reads ends answer report
          tells same databases;
    }
