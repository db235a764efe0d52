-- What is known of a session that brings categories together, by what its call answered, and whatever is written of it.
use Rattle.std.proofs.Common.{◌≡◌, ◌⊎◌, ◌∙◌, ap, arith, inl, inr, refl, subst, sym, ℕ, List, [], ◌∷◌, length}
use Rattle.std.proofs.lemmas.List.{append-nil}
use Rattle.std.specs.Prelude.{IfOk, IsErr, OnErr, Option, None, Some, Result, Ok, Err, filter}
use Rattle.std.specs.Global.{Vec}
use Rattle.hs_folders.specs.FileMaps.{FileMap}
use Rattle.hs_folders.specs.Moments.{Moments}
use Rattle.hs_folders.proofs.MomentLaws.{moments_weaken}
use Rattle.pdb_values.specs.declared.user.UserInfo.{UserInfo}
use Rattle.palm_device.specs.Devices.{Device}
use Rattle.handheld_files.specs.Openings.{Stands}
use Rattle.desk_journal.specs.Overlays.{FinishesAs}
use Rattle.desk_store.specs.Bounds.{AreBounded}
use Rattle.desk_store.specs.Shelves.{SlotValue}
use Rattle.dlp_commands.specs.Changes.{changes}
use Rattle.dlp_commands.specs.declared.link.LinkFault.{LinkFault}
use Rattle.line_script.specs.Rules.{RuleValue}
use Rattle.line_world.specs.Logs.{LogValue, no_log}
use Rattle.line_world.specs.Worlds.{WorldSince, WorldValue, world_talk}
use Rattle.desktop_session.specs.Acts.{text}
use Rattle.desktop_session.specs.Requests.{ending, reading_user}
use Rattle.desktop_session.specs.Says.{IsPrefix}
use Rattle.desktop_session.specs.declared.fault.SessionFault.{SessionFault}
use Rattle.session_parts.specs.Rests.{IsAtRest}
use Rattle.session_parts.specs.declared.outcome.Outcome.{Outcome}
use Rattle.session_parts.specs.declared.report.DbReport.{DbReport}
use Rattle.session_parts.specs.declared.stop.Stop.{Stop}
use Rattle.category_mirror.specs.FilingEnds.{FilingEnds, IsCommitted, IsEnded, IsUncommitted, StandsFiled, seat_of}
use Rattle.category_mirror.specs.Leaving.{LeavesFolder}
use Rattle.category_mirror.specs.Sides.{Filing, before_end, block_writes, filing_of}
use Rattle.category_mirror.proofs.AlongLaws.{count-is}
use Rattle.category_mirror.proofs.DoneLaws.{session_goes}
use Rattle.category_mirror.proofs.TurnLaws.{front_stands}
use Rattle.call_parts.specs.Closings.{Closes, left_databases, left_end, left_in}
use Rattle.cmd_session.specs.Filings.{EndedFiling, FilingLeft, HadFiling, IsFilingTalk, StandsInSomeTurn, StoppedFiling}
use Rattle.call_parts.specs.LineRuns.{log_in, write_count}
use Rattle.call_parts.specs.Sessions.{KeptSilent, Spoke, StandsAtFront}
use Rattle.call_parts.specs.Told.{FolderTold, SidesTold, folder_told}
use Rattle.call_parts.proofs.EndLaws.{BeganWith, began_with, count-append, logged_all, prefix-count}
use Rattle.cmd_session.proofs.FilingSaid.{filing_requests, filing_said, filing_shows, first_requests, requests-are, shows_retold}
use Rattle.call_parts.proofs.FrontLaws.{issued_begins}
use Rattle.call_parts.proofs.SaidLaws.{Tells, all-talked, run-says}
use Rattle.call_parts.proofs.LineLaws.{line_ran}
use Rattle.call_parts.proofs.RetoldLaws.{StaysShown, had_retold}
use Rattle.call_parts.proofs.SpokeLaws.{by_left, left_desk, palm_blamed, spoke}
use Rattle.call_parts.specs.declared.report.Report.{Report}
use Rattle.call_parts.specs.declared.report.SessionEnd.TheVariants.{Ended, Stopped}
use Rattle.cmd_status.specs.declared.status.Status.{Status}
use Rattle.category_mirror.specs.Sides.{filing_acts}
use Rattle.front_laws.specs.Answered.{IsAnsweredExchange}
use Rattle.front_laws.proofs.OrderRuns.{plain-answered}
use Rattle.front_laws.proofs.RequestLaws.{prefix-more}
use Rattle.cmd_session.proofs.NeverLaws.{filing_never, fit_said, none_said, order_taken}
use Rattle.call_parts.proofs.SpokeLaws.{IsUnrefusedEnd}

-- ---- the end writes nothing

quiet-end : length (filter changes (text ending ∷ [])) ≡ 0
quiet-end = count-is (ending ∷ [])

quiet-rest : {rest : List (List ℕ)} → IsPrefix rest (text ending ∷ []) → length (filter changes rest) ≡ 0
quiet-rest {rest} prefix = let few = prefix-count prefix in let none = quiet-end in omega (arith, few, none)

-- ---- a user without a slot

the_error : (seat : Result UserInfo SessionFault) → IsErr seat → (why : SessionFault) × (seat ≡ Err why)
the_error (Ok user) unseated = absurd (let never : ⊥ = cc in never)
the_error (Err why) unseated = (why, refl)

-- ---- by all that its call answered, over a world that was fresh
module _ {F D : Type 0} {contents : F → Option FileMap} {moments : F → Moments} {paths : F → Option (List (List ℕ))} {faults : F → ℕ}
    {desk_contents : D → Option FileMap} {desk_moments : D → Moments} {desk_paths : D → Option (List (List ℕ))} {desk_faults : D → ℕ}
    (fault : WorldValue F → Option LinkFault) (downs : WorldValue F → ℕ) (slots : List SlotValue) {old : WorldValue F} {folder : D}
    {outcome : Outcome (WorldValue F) D} {status : Status} {report : Report}
    (stands : Stands (contents old.server.folder) old.server.device.databases old.server.device.user) (rests : IsAtRest old.server.device)
    (bounded : AreBounded slots) (silent : old.log ≡ no_log) (calm : old.cause ≡ None)
    (since : WorldSince contents moments paths faults old outcome.link)
    (leaves : LeavesFolder desk_contents desk_moments desk_paths desk_faults folder outcome)
    (ends : FilingEnds (λ (world : WorldValue F). Some (world_talk world)) (λ (first last : WorldValue F). WorldSince contents moments paths faults first last)
    fault downs desk_contents desk_moments (filing_of old.server.device slots) old folder outcome)
    (closes : Closes outcome.link outcome.end status report) where
  abbrev filing : Filing
  filing = filing_of old.server.device slots

  abbrev new : WorldValue F
  new = outcome.link

  abbrev asked : List (List ℕ)
  asked = filing_requests filing

  abbrev palm : FolderTold
  palm = folder_told contents moments paths faults old.server.folder

  abbrev palm_after : FolderTold
  palm_after = folder_told contents moments paths faults new.server.folder

  abbrev desk : FolderTold
  desk = folder_told desk_contents desk_moments desk_paths desk_faults folder

  abbrev desk_after : FolderTold
  desk_after = folder_told desk_contents desk_moments desk_paths desk_faults outcome.folder

  abbrev before : SidesTold
  before = record { palm = palm; desk = desk }

  abbrev after : SidesTold
  after = record { palm = palm_after; desk = desk_after }

  abbrev Since : WorldValue F → WorldValue F → Type 0
  Since first last = WorldSince contents moments paths faults first last

  abbrev IsOver : List DbReport → Type 0
  IsOver reports = IsEnded (λ (world : WorldValue F). Some (world_talk world)) filing old new (desk_contents outcome.folder) reports

  abbrev IsBefore : Type 0
  IsBefore = IsUncommitted (λ (world : WorldValue F). Some (world_talk world)) Since fault downs filing old new (desk_contents folder) (desk_contents outcome.folder)

  abbrev IsBehind : Type 0
  IsBehind = IsCommitted (λ (world : WorldValue F). Some (world_talk world)) Since fault downs filing old new (desk_contents outcome.folder)

  same_log : log_in report ≡ new.log
  same_log = closes.tells.said

  began : IsBehind → BeganWith (before_end filing) (text ending ∷ []) old.server.device new.log
  began b = began_with (text ending ∷ []) old new silent closes.tells.log b.does b.stops.later b.stops.only b.stops.kept

  begins_by : (answer : Result (Vec DbReport) Stop) → IfOk answer (λ reports. IsOver reports.items) → OnErr answer (IsBefore ⊎ IsBehind)
      → IsPrefix new.log.issued asked
  begins_by (Ok reports) over stopped =
      let logged = logged_all silent closes.tells.log over.does in
      record { rest = []; is = append-nil new.log.issued ∙ logged.issued_are }
  begins_by (Err why) over (inl b) =
      let first = issued_begins old new (first_requests filing) silent closes.tells.log b.stops.only in
      subst (λ (l : List (List ℕ)). IsPrefix new.log.issued l) (sym (requests-are filing)) (prefix-more (text ending ∷ []) first)
  begins_by (Err why) over (inr b) = subst (λ (l : List (List ℕ)). IsPrefix new.log.issued l) (sym (requests-are filing)) (began b).issued_begins

  begins : IsPrefix new.log.issued asked
  begins = begins_by outcome.end ends.ended ends.stopped

  never : IsUnrefusedEnd outcome.end
  never =
      let line = line_ran silent stands since closes.tells in
      let goes = session_goes filing rests in
      let issued : IsPrefix (log_in report).issued asked = subst (λ (l : LogValue). IsPrefix l.issued asked) (sym same_log) begins in
      filing_never fault new (all-talked IsAnsweredExchange new closes.tells (run-says IsAnsweredExchange line issued (λ count replies last run.
      plain-answered (filing_acts filing) count replies last (fit_said (filing_acts filing) old.server.device goes.sayable)
      (none_said (filing_acts filing) goes.fixed) rests.proper
      (order_taken count (filing_acts filing) old.server.device goes.order) run))) filing old outcome.end ends.cause

  spoken : Spoke (record { rules = old.script; device = old.server.device; asked = asked }) palm palm_after status report
  spoken = spoke asked stands silent since never closes
      (filing_said fault filing old new new.cause outcome.end (desk_contents outcome.folder) ends.ended ends.cause closes.left.status begins)

  sides : Tells old new palm_after report
  sides =
      let line = line_ran silent stands since closes.tells in
      record {
        silent = silent;
        is_log = closes.tells.log;
        said = same_log;
        given = line.given;
        writes = closes.tells.writes;
        stands = since.served.stands stands;
      }

  -- how it ended
  ended_by : (answer : Result (Vec DbReport) Stop) → IfOk answer (λ reports. IsOver reports.items) → report.databases.items ≡ left_databases answer
      → report.end ≡ left_end answer → report.end ≡ Ended → EndedFiling filing palm_after desk_after report
  ended_by (Ok reports) over told end ended =
      let logged = logged_all silent closes.tells.log over.does in
      record {
        said = record {
          issued = ap (λ (l : LogValue). l.issued) same_log ∙ logged.issued_are;
          performed = ap (λ (l : LogValue). l.performed) same_log ∙ logged.performed_are;
        };
        handheld = subst (λ (d : Device). Stands palm_after.contents d.databases d.user) (logged.device ∙ (session_goes filing rests).after)
            (since.served.stands stands);
        desktop = over.desk;
        told = told ∙ over.told;
      }
  ended_by (Err why) over told end ended = absurd (let both = sym end ∙ ended in cc)

  -- each block was written behind the commit
  all_written : IsBehind → report.writes ≡ block_writes filing
  unfolding write_count
  all_written b =
      let is = began b in
      let quiet = quiet-rest is.rest_begins in
      let split = ap (λ (l : List (List ℕ)). length (filter changes l)) is.performed_are ∙ count-append (first_requests filing) is.rest in
      let performed = ap (λ (l : LogValue). length (filter changes l.performed)) same_log in
      let writes = closes.tells.writes in
      omega (arith, quiet, split, performed, writes)

  stopped_by : (answer : Result (Vec DbReport) Stop) → OnErr answer (IsBefore ⊎ IsBehind) → report.end ≡ left_end answer → report.end ≡ Stopped
      → StoppedFiling filing desk desk_after report
  stopped_by (Ok reports) stopped end is = absurd (let both = sym end ∙ is in cc)
  stopped_by (Err why) (inl b) end is = inl b.stands
  stopped_by (Err why) (inr b) end is = inr (b.stands, all_written b)

  in_turn : (told : Option FileMap) → StandsAtFront old.server.device asked told → StandsInSomeTurn filing told
  in_turn told at =
      (at.writes, record { reached = at.reached; behind = front_stands filing rests at.writes at.given at.reached at.front; stands = at.stands })

  left_none : IsErr (seat_of filing) → IsPrefix (log_in report).issued (text reading_user ∷ [])
  left_none unseated =
      let why = the_error (seat_of filing) unseated in
      subst (λ (l : LogValue). IsPrefix l.issued (text reading_user ∷ [])) (sym same_log)
      (issued_begins old new (text reading_user ∷ []) silent closes.tells.log (ends.unseated why.0 why.1).0.only)

  left : FilingLeft filing desk.contents before after report
  left = record {
    sound = record { rests = rests; bounded = bounded };
    handheld = record {
      reached = spoken.line.last;
      behind = front_stands filing rests report.writes report.given.items spoken.line.last spoken.front;
      stands = spoken.line.stands;
    };
    turns = moments_weaken (StandsAtFront old.server.device asked) (StandsInSomeTurn filing) palm.moments palm_after.moments spoken.fronts in_turn;
    ended = ended_by outcome.end ends.ended closes.left.databases closes.left.end;
    stopped = stopped_by outcome.end ends.stopped closes.left.end;
    moments = moments_weaken (StandsFiled filing) (λ told. FinishesAs desk.contents told ⊎ StandsFiled filing told) desk.moments desk_after.moments
        ends.moments_are (λ told is. inr is);
    untouched = λ none. ap desk_contents (ends.untouched none);
    unseated = left_none;
  }

  had : HadFiling old.script filing desk.contents before after status report
  had = record {
    spoke = spoken;
    left = left;
    shows = filing_shows filing new.cause fault outcome.end sides ends.cause (λ why here. (ends.unseated why here).1) closes.left.status;
  }

  pub filing_spoke : IsFilingTalk old.script filing before after status report
  filing_spoke = record {
    shown = by_left outcome.end (KeptSilent before after status report) closes.left.end had;
    blames = record {
      handheld = palm_blamed calm since closes;
      desktop = λ e. leaves.cause.rose (left_desk outcome.end new.cause (left_in status report) closes.left e);
    };
    paths = record { handheld = since.served.same_paths; desktop = leaves.same_paths };
  }

-- ---- whatever is written of it

pub filing_retold : (rules : List RuleValue) (filing : Filing) (opened : Option FileMap) (first last : SidesTold)
    → StaysShown (HadFiling rules filing opened first last)
filing_retold rules filing opened first last status other report is had = had_retold other (shows_retold filing) is had
