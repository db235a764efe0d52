-- How a session ends over a link that tells a handheld on which nothing is open.
use Rattle.std.proofs.lemmas.List.{length-map, map-append}
use Rattle.std.proofs.Common.{arith, inl, inr, ◌⊎◌, ◌≡◌, ◌∙◌, ◌<◌, ap, append_assoc, refl, sym, subst, ℕ, false, List, [], ◌∷◌, ◌++◌, length, map}
use Rattle.std.specs.Prelude.{Option, Some, None, IfErr, IfOk, IsOk, Result, Ok, Err, flat_map, max}
use Rattle.std.specs.Global.{Vec}
use Rattle.std.specs.Option.{option_map}
use Rattle.hs_folders.specs.FileMaps.{FileMap}
use Rattle.hs_folders.specs.Moments.{EachMomentSince, Moments}
use Rattle.hs_folders.proofs.MomentLaws.{moments_weaken, no_moment}
use Rattle.desktop_session.specs.Seats.{no_wish, seat_for}
use Rattle.pdb_values.specs.declared.head.DbHead.{DbHead}
use Rattle.desk_journal.specs.Entries.{EntryValue}
use Rattle.desk_journal.specs.Overlays.{FinishesAs, finished, put_all}
use Rattle.desk_journal.proofs.FinishLaws.{plain_finished}
use Rattle.desk_store.specs.Desks.{IsDesk, place_of}
use Rattle.desk_store.specs.Shelves.{AreInOrder, AreOrdered, SlotValue, marks_of}
use Rattle.desk_store.specs.Views.{DeskValue}
use Rattle.desk_store.specs.declared.change.DbChange.{DbChange}
use Rattle.desk_store.specs.declared.fault.CommitFault.{CommitFault}
use Rattle.desk_store.specs.declared.fault.CommitFault.TheVariants as commit
use Rattle.desk_store.proofs.SlotListLaws.{marks-length, ordered_at}
use Rattle.desktop_session.specs.Lasts.{IsByLastReply}
use Rattle.desktop_session.specs.Lists.{listings}
use Rattle.desktop_session.proofs.StopLaws.{does_then, fell_none, stops_more, stops_none, stops_then}
use Rattle.session_parts.specs.Causes.{IsLater}
use Rattle.session_parts.specs.Meets.{IsSeated, Meets, MeetsOrNot, greeting, meeting_acts}
use Rattle.session_parts.specs.Rests.{IsAtRest}
use Rattle.session_parts.specs.Stopping.{stop_of}
use Rattle.session_parts.specs.Stretches.{SpansEach, each_acts}
use Rattle.session_parts.specs.declared.meeting.Met.{Met}
use Rattle.session_parts.specs.declared.stop.Stop.{Stop}
use Rattle.session_parts.specs.declared.stop.Stop.TheVariants as stop
use Rattle.session_parts.proofs.LinkWords.{Act, Does, Ended, Halted, LinkFault, SessionFault, SessionValue, Stops, Talk, ending, link_ended, reading_user, saying, text}
use Rattle.session_parts.proofs.MeetLaws.{greeted_seated}
use Rattle.session_parts.proofs.StretchLaws.{Tells}
use Rattle.mirrors.specs.Asks.{Asks}
use Rattle.session_plan.specs.Commits.{Commits}
use Rattle.category_mirror.specs.declared.job.FilingJob.{FilingJob}
use Rattle.session_parts.specs.declared.report.DbReport.{DbReport}
use Rattle.session_parts.specs.declared.outcome.Outcome.{Outcome}
use Rattle.category_mirror.specs.Blocks.{MergeValue}
use Rattle.category_mirror.specs.Changes.{CommitsFiled, changes_filed, entries_filed, slots_filed}
use Rattle.category_mirror.specs.Courses.{AfterCommit, AfterFiling, AfterMark, AfterMeeting, Files, FilingRan, Marks, closed, picked_for, reports_filed, report_filed, stopped}
use Rattle.category_mirror.specs.FilingActs.{SaysFiled, files_under, marks_for}
use Rattle.category_mirror.specs.FilingEnds.{FilingEnds, IsCommitted, IsFilingStop, IsUncommitted, StandsFiled, StopsFor, marks_in, seat_of}
use Rattle.session_plan.specs.Jobs.{names_with}
use Rattle.pdb_values.specs.declared.user.UserInfo.{UserInfo}
use Rattle.category_mirror.specs.Jobs.{filing_job, filing_jobs}
use Rattle.category_mirror.specs.Sides.{Filing, before_end, before_mark, filed_slots, filing_acts, filing_changes, filing_of, filing_reports, heads_of, job_acts, jobs, mark_acts, merge_of, names, shelves_of}
use Rattle.category_mirror.proofs.DoneLaws.{names_rise}
use Rattle.category_mirror.proofs.EvolveLaws.{behind_none, free_none, jobs_named}
use Rattle.category_mirror.proofs.MeetLaws.{Joins, later_stop, meeting_front, meets_join, meets_lead, met_stop, seat_greeted, seat_within, seated_says, unmet_stops}
use Rattle.category_mirror.proofs.ShelfLaws.{changes-at, slots-are, slots-none}
use Rattle.category_mirror.proofs.ToldLaws.{files_join, files_lead}

-- ---- the folder of a desktop

finished_desk : (told : Option FileMap) {slots : List SlotValue} → IsDesk told slots → option_map finished told ≡ told
finished_desk None desk = refl
finished_desk (Some held) desk = ap (λ (h : FileMap). Some h) (plain_finished held desk.stands.no_journal)

desk_stands : (told : Option FileMap) (slots : List SlotValue) → IsDesk told slots → IsDesk (option_map finished told) slots
desk_stands told slots desk = subst (λ (t : Option FileMap). IsDesk t slots) (sym (finished_desk told desk)) desk

stands_so : (slots : List SlotValue) (made told : Option FileMap) → IsDesk made slots → FinishesAs made told → IsDesk (option_map finished told) slots
stands_so slots made told desk same = subst (λ (t : Option FileMap). IsDesk t slots) (sym same) (desk_stands made slots desk)

-- ---- what is told

reports-are : (filing : Filing) (js : List FilingJob)
    → reports_filed (shelves_of filing) js (map (merge_of filing) js) ≡ map (λ (job : FilingJob). report_filed (shelves_of filing) job (merge_of filing job)) js
unfolding reports_filed
reports-are filing [] = refl
reports-are filing (job ∷ js) =
    ap (λ (rest : List DbReport). report_filed (shelves_of filing) job (merge_of filing job) ∷ rest) (reports-are filing js)

module _ {L F : Type 0} (talk : L → Option Talk) (since : L → L → Type 0) (fault : L → Option LinkFault) (downs : L → ℕ)
    (contents : F → Option FileMap) (moments : F → Moments) (filing : Filing) (old : L) where
  abbrev Ends : F → Outcome L F → Type 0
  Ends folder left = FilingEnds talk since fault downs contents moments filing old folder left

  -- where the user has no slot
  abbrev Unseated : L → Result (Vec DbReport) Stop → Type 0
  Unseated new end =
      (why : SessionFault) → seat_of filing ≡ Err why → Stops talk since fault downs (text reading_user ∷ []) old new × StopsFor why end

  -- it stopped before the commit, and the folder was not touched
  ends_before : {new : L} (folder : F) {cause : Stop} {left : Outcome L F} → left ≡ stopped new folder cause
      → Stops talk since fault downs (map text (before_end filing)) old new → IsFilingStop talk fault filing old new cause → Unseated new (Err cause)
      → Ends folder left
  ends_before folder is stops why unseated = rw is (record {
    ended = tt;
    stopped = inl (record { stops = stops; stands = refl });
    cause = why;
    moments_are = no_moment (StandsFiled filing) (moments folder) (moments folder) refl;
    untouched = λ none. refl;
    unseated = unseated;
  })

  -- all but the end was asked and answered
  record IsDone (between : L) : Type 0 where
    does : Does talk (before_end filing) old between
    stops : Stops talk since fault downs (map text (before_end filing)) old between
    seated : IsOk (seat_of filing)

  module _ (since_more : (a b c : L) → since a b → since b c → since a c) where
    -- the end was asked for, behind a commit or without one
    closes : {between : L} (folder after : F) (reports : Vec DbReport) (answer : Result (Ended L) (Halted L)) {left : Outcome L F} → IsDone between
        → reports.items ≡ filing_reports filing → IsDesk (contents after) (filed_slots filing)
        → EachMomentSince (StandsFiled filing) (moments folder) (moments after) → (filing_changes filing ≡ [] → after ≡ folder)
        → Stops talk since fault downs (text ending ∷ []) between (link_ended answer) → IfOk answer (λ ended. Does talk (ending ∷ []) between ended.link)
        → IfErr answer (λ halted. IsLater (talk halted.link) (fault halted.link) halted.cause) → left ≡ closed after reports answer → Ends folder left
    unfolding filing_acts
    closes {between} folder after reports (Ok ended) done told desk each untouched stops does later is = rw is (record {
      ended = record {
        does = does_then talk (before_end filing) (ending ∷ []) old between ended.link done.does does;
        desk = desk;
        told = told;
      };
      stopped = tt;
      cause = tt;
      moments_are = each;
      untouched = untouched;
      unseated = λ why is_so. seated_says filing _ why done.seated is_so;
    })
    closes {between} folder after reports (Err halted) done told desk each untouched stops does later is = rw is (record {
      ended = tt;
      stopped = inr (record { between = between; does = done.does; stops = stops; stands = desk_stands (contents after) (filed_slots filing) desk });
      cause = later_stop talk fault filing old halted.link halted.cause later;
      moments_are = each;
      untouched = untouched;
      unseated = λ why is_so. seated_says filing _ why done.seated is_so;
    })

    commit_stop : (between : L) (cause : CommitFault) → IsDone between → IsFilingStop talk fault filing old between (stop_of cause)
    commit_stop between commit.DeskFault done = done.does
    commit_stop between commit.NoMemory done = tt

    module _ (paths : F → Option (List (List ℕ))) (faults : F → ℕ) (itself : (a : L) → since a a) where
      -- a commit of some changes
      commits_ends : (between : SessionValue L) {desk : DeskValue F} {entries : List EntryValue} (reports : Vec DbReport)
          (answer : Result (DeskValue F) (CommitFault × F)) {left : Outcome L F} → IsDone between.link → reports.items ≡ filing_reports filing
          → (filing_changes filing ≡ [] → ⊥) → Commits contents moments paths faults (filed_slots filing) entries desk answer
          → AfterCommit talk since fault downs reports between answer left → Ends desk.folder left
      commits_ends between {desk} {entries} reports (Ok after) done told some commits goes =
          let stands : IsDesk (contents after.folder) (filed_slots filing) = rw commits.slots at commits.stands in
          let made : IsDesk (option_map (put_all entries) (contents desk.folder)) (filed_slots filing) = rw commits.written at stands in
          closes desk.folder after.folder reports goes.answer done told stands
          (moments_weaken (FinishesAs (option_map (put_all entries) (contents desk.folder))) (StandsFiled filing) (moments desk.folder) (moments after.folder)
          commits.each_moment (λ one same. stands_so (filed_slots filing) (option_map (put_all entries) (contents desk.folder)) one made same))
          (λ none. absurd (some none)) goes.stops goes.does goes.cause goes.is
      commits_ends between {desk} {entries} reports (Err refusal) done told some commits goes =
          rw goes (record {
            ended = tt;
            stopped = by commits.made commits.left;
            cause = commit_stop between.link refusal.0 done;
            moments_are = each commits.made;
            untouched = λ none. absurd (some none);
            unseated = λ why is_so. seated_says filing _ why done.seated is_so;
          })
        where
          by : (refusal.1 ≡ desk.folder) ⊎ IsDesk (option_map (put_all entries) (contents desk.folder)) (filed_slots filing)
              → FinishesAs (contents desk.folder) (contents refusal.1)
              ⊎ FinishesAs (option_map (put_all entries) (contents desk.folder)) (contents refusal.1)
              → IsUncommitted talk since fault downs filing old between.link (contents desk.folder) (contents refusal.1)
              ⊎ IsCommitted talk since fault downs filing old between.link (contents refusal.1)
          by (inl same) left = inl (record { stops = done.stops; stands = ap (λ f. option_map finished (contents f)) same })
          by (inr made) (inl before) = inl (record { stops = done.stops; stands = before })
          by (inr made) (inr after) = inr (record {
            between = between.link;
            does = done.does;
            stops = stops_none talk since fault downs (text ending ∷ []) between.link between.link refl (itself between.link)
                (fell_none fault downs between.link);
            stands = stands_so (filed_slots filing) (option_map (put_all entries) (contents desk.folder)) (contents refusal.1) made after;
          })

          each : (refusal.1 ≡ desk.folder) ⊎ IsDesk (option_map (put_all entries) (contents desk.folder)) (filed_slots filing)
              → EachMomentSince (StandsFiled filing) (moments desk.folder) (moments refusal.1)
          each (inl same) = no_moment (StandsFiled filing) (moments desk.folder) (moments refusal.1) (ap moments same)
          each (inr made) =
              moments_weaken (FinishesAs (option_map (put_all entries) (contents desk.folder))) (StandsFiled filing) (moments desk.folder) (moments refusal.1)
              commits.each_moment (λ one same. stands_so (filed_slots filing) (option_map (put_all entries) (contents desk.folder)) one made same)

      -- the desktop has committed what changes, if anything does
      filed_ends : (between : SessionValue L) (desk : DeskValue F) (changes : List DbChange) (reports : Vec DbReport)
          (answer : Result (DeskValue F) (CommitFault × F)) {left : Outcome L F} → changes ≡ filing_changes filing
          → (changes ≡ [] → IsDesk (contents desk.folder) (filed_slots filing)) → slots_filed changes desk ≡ filed_slots filing
          → IsDone between.link → reports.items ≡ filing_reports filing
          → CommitsFiled contents moments paths faults changes desk answer → AfterCommit talk since fault downs reports between answer left
          → Ends desk.folder left
      filed_ends between desk [] reports (Ok after) are still slots done told commits goes =
          let same : after ≡ desk = cc in
          closes desk.folder desk.folder reports goes.answer done told (still refl)
          (no_moment (StandsFiled filing) (moments desk.folder) (moments desk.folder) refl) (λ none. refl) goes.stops goes.does goes.cause
          (goes.is ∙ ap (λ (d : DeskValue F). closed d.folder reports goes.answer) same)
      filed_ends between desk [] reports (Err refusal) are still slots done told commits goes = absurd cc
      filed_ends between desk (change ∷ changes) reports answer are still slots done told commits goes =
          commits_ends between {entries = entries_filed (change ∷ changes) desk} reports answer done told
          (λ none. let never : change ∷ changes ≡ [] = are ∙ none in cc)
          (subst (λ (s : List SlotValue). Commits contents moments paths faults s (entries_filed (change ∷ changes) desk) desk answer) slots commits) goes

      -- ---- up to the commit

      module _ (rests : IsAtRest filing.device) (tells : Tells filing.device (talk old)) where
        abbrev all_jobs : List FilingJob
        all_jobs = jobs_named filing (names filing)

        abbrev all_files : List Act
        all_files = flat_map (job_acts filing) all_jobs

        before_is : meeting_front filing ++ all_files ≡ before_mark filing
        unfolding before_mark jobs
        before_is = append_assoc greeting (listings (max 1 (length filing.device.databases))) all_files

        -- what begins all up to the mark begins all but the end
        mark_stop : {new : L} → Stops talk since fault downs (map text (before_mark filing)) old new
            → Stops talk since fault downs (map text (before_end filing)) old new
        unfolding before_end
        mark_stop {new} stops =
            rw (map-append text (before_mark filing) (mark_acts filing))
            (stops_more talk since fault downs (map text (before_mark filing)) (map text (mark_acts filing)) old new stops)

        -- what begins the meeting begins it all
        meets_stop : {answer : Result (Met L) (Halted L)} {new : L} (meets : Meets talk since fault downs (marks_in filing) no_wish old answer)
            → Stops talk since fault downs (map text (meeting_acts meets.count)) old new → Stops talk since fault downs (map text (before_end filing)) old new
        meets_stop {new = new} meets stops =
            let lead = meets_lead filing rests tells meets in
            let first : List Act = meeting_acts meets.count in
            mark_stop (subst (λ (acts : List Act). Stops talk since fault downs (map text acts) old new)
            (sym (append_assoc first lead.rest all_files) ∙ ap (λ (acts : List Act). acts ++ all_files) lead.is ∙ before_is)
            (rw (map-append text first (lead.rest ++ all_files))
            (stops_more talk since fault downs (map text first) (map text (lead.rest ++ all_files)) old new stops)))

        -- both sides did not meet
        unmet_ends : (folder : F) (halted : Halted L) {left : Outcome L F} → MeetsOrNot talk since fault downs (marks_in filing) no_wish old (Err halted)
            → IsByLastReply (talk halted.link) halted.cause → left ≡ stopped halted.link folder (stop.Session halted.cause) → Ends folder left
        unmet_ends folder halted (inl meets) last is =
            ends_before folder is (meets_stop meets meets.stops) (met_stop filing rests tells halted.cause meets.unseated meets.cause last)
            (λ why unseated. unmet_stops filing rests tells halted.cause why unseated meets.unseated meets.cause)
        unmet_ends folder halted (inr none) last is =
            ends_before folder is (nothing (map text (before_end filing))) (later_stop talk fault filing old halted.link halted.cause (rw none.1 tt))
            (λ why unseated. (nothing (text reading_user ∷ []), inr (inr (ap stop.Session none.1))))
          where
            nothing : (requests : List (List ℕ)) → Stops talk since fault downs requests old halted.link
            nothing requests = rw none.0 (stops_none talk since fault downs requests old old refl (itself old) (fell_none fault downs old))

        -- they met
        module _ (folder : F) (desk_is : IsDesk (contents folder) filing.slots) (ordered : AreInOrder filing.slots) {met : Met L}
            (meets : Meets talk since fault downs (marks_in filing) no_wish old (Ok met))
            (picked_is : filing.picked ≡ place_of (length filing.slots) (seat_for (marks_in filing) no_wish filing.device.user)) where
          abbrev here : DeskValue F
          here = record { folder = folder; slots = filing.slots; picked = filing.picked }

          joined : Joins filing (talk old) meets.count met.linked.user met.heads.items
          joined = meets_join filing rests tells meets

          now_tells : Tells filing.device (talk met.linked.link)
          now_tells =
              subst (Tells filing.device) (sym (meets.does.said ∙ ap (λ (acts : List Act). saying acts (talk old)) joined.acts)) joined.tells

          front_does : Does talk (meeting_front filing) old met.linked.link
          front_does = subst (λ (acts : List Act). Does talk acts old met.linked.link) joined.acts meets.does

          front_stops : Stops talk since fault downs (map text (meeting_front filing)) old met.linked.link
          front_stops = subst (λ (acts : List Act). Stops talk since fault downs (map text acts) old met.linked.link) joined.acts meets.stops

          seated : IsOk (seat_of filing)
          seated = seat_greeted filing rests.proper tells meets.user

          picked_within : filing.picked < length filing.slots
          picked_within =
              let count : length (marks_in filing) ≡ length filing.slots = marks-length filing.slots in
              let more = desk_is.formed.some in
              let marks = marks-length filing.slots in
              let sat : IsSeated (seat_for (marks_in filing) no_wish filing.device.user) =
              rw joined.user at (greeted_seated (marks_in filing) no_wish (talk old) met.linked.user meets.user) in
              let below = seat_within (marks_in filing) filing.device.user (length filing.slots) (omega (arith, count, more, marks)) sat in
              rw picked_is (omega (arith, count, below))

          own_ordered : AreOrdered (shelves_of filing)
          own_ordered = ordered_at filing.slots filing.picked ordered

          abbrev Spans : SessionValue L → Result (Vec (Option MergeValue)) SessionFault → Type 0
          Spans now answer =
              SpansEach talk since fault downs (files_under (shelves_of filing)) (SaysFiled (shelves_of filing)) all_jobs
              (λ (made : Vec (Option MergeValue)). made.items) met.linked now answer

          -- what went out of the blocks' requests begins it all
          files_stop : {now : SessionValue L} {answer : Result (Vec (Option MergeValue)) SessionFault} → (files : Spans now answer)
              → Stops talk since fault downs (map text (before_mark filing)) old now.link
          files_stop {now} files =
              let lead = files_lead filing (names filing) [] filing.device (talk met.linked.link) files.stretches now_tells (behind_none filing rests)
              (names_rise filing) (free_none (names filing)) files.firsts in
              let some : List Act = each_acts (files_under (shelves_of filing)) (talk met.linked.link) all_jobs files.stretches in
              let behind : Stops talk since fault downs (map text all_files) met.linked.link now.link =
              subst (λ (acts : List Act). Stops talk since fault downs (map text acts) met.linked.link now.link) lead.is
              (rw (map-append text some lead.rest)
              (stops_more talk since fault downs (map text some) (map text lead.rest) met.linked.link now.link files.stops)) in
              subst (λ (acts : List Act). Stops talk since fault downs (map text acts) old now.link) before_is
              (rw (map-append text (meeting_front filing) all_files)
              (stops_then talk since fault downs since_more (meeting_front filing) (map text all_files) old met.linked.link now.link front_does front_stops behind))

          changes_all : changes_filed (shelves_of filing) all_jobs (map (merge_of filing) all_jobs) ≡ filing_changes filing
          unfolding filing_changes
          changes_all = changes-at filing (names filing)

          reports_all : reports_filed (shelves_of filing) all_jobs (map (merge_of filing) all_jobs) ≡ filing_reports filing
          unfolding filing_reports jobs
          reports_all = reports-are filing all_jobs

          -- the handheld is marked where the desktop's rows change, and the desktop commits
          marks_end : (now : SessionValue L) {changes : List DbChange} → Does talk (before_mark filing) old now.link
              → Stops talk since fault downs (map text (before_mark filing)) old now.link → (reports : Vec DbReport) → reports.items ≡ filing_reports filing
              → changes ≡ filing_changes filing → now.user ≡ filing.device.user → {left : Outcome L F}
              → Marks talk since fault downs contents moments paths faults changes reports now here left → Ends folder left
          unfolding before_end mark_acts
          marks_end now {changes} does stops reports told are user {left} marks = by marks.answer asks marks.cause marks.goes
            where
              marks_are : marks_for changes now.user ≡ mark_acts filing
              marks_are = ap (λ (cs : List DbChange). marks_for cs now.user) are ∙ ap (marks_for (filing_changes filing)) user

              asks : Asks talk since fault downs (mark_acts filing) now marks.now marks.answer
              asks = subst (λ (acts : List Act). Asks talk since fault downs acts now marks.now marks.answer) marks_are marks.asks

              stops_all : Stops talk since fault downs (map text (before_end filing)) old marks.now.link
              stops_all =
                  rw (map-append text (before_mark filing) (mark_acts filing))
                  (stops_then talk since fault downs since_more (before_mark filing) (map text (mark_acts filing)) old now.link marks.now.link does stops asks.stops)

              by : (answer : Result (Unit {0}) SessionFault) → Asks talk since fault downs (mark_acts filing) now marks.now answer
                  → IfErr answer (IsLater (talk marks.now.link) (fault marks.now.link))
                  → AfterMark talk since fault downs contents moments paths faults changes reports marks.now here answer left → Ends folder left
              by (Err why) asks cause goes =
                  ends_before folder goes stops_all (later_stop talk fault filing old marks.now.link why cause)
                  (λ other is_so. seated_says filing _ other seated is_so)
              by (Ok done) asks cause carries =
                  filed_ends marks.now here changes reports carries.answer are
                  (λ none. subst (IsDesk (contents folder)) (sym (slots-none filing own_ordered (sym are ∙ none))) desk_is)
                  (ap (λ (cs : List DbChange). slots_filed cs here) are ∙ slots-are filing own_ordered folder picked_within)
                  (record {
                    does = does_then talk (before_mark filing) (mark_acts filing) old now.link marks.now.link does asks.does;
                    stops = stops_all;
                    seated = seated;
                  }) told carries.commits carries.goes

          files_ends : (now : SessionValue L) (answer : Result (Vec (Option MergeValue)) SessionFault) {left : Outcome L F} → Spans now answer
              → AfterFiling talk since fault downs contents moments paths faults all_jobs now here answer left → Ends folder left
          files_ends now (Err cause) files goes =
              ends_before folder goes (mark_stop (files_stop files)) (later_stop talk fault filing old now.link cause files.cause)
              (λ why is_so. seated_says filing _ why seated is_so)
          files_ends now (Ok merges) files (inr goes) =
              ends_before folder goes (mark_stop (files_stop files)) tt (λ why is_so. seated_says filing _ why seated is_so)
          files_ends now (Ok merges) {left} files (inl turns) =
              let join = files_join filing (names filing) [] filing.device (talk met.linked.link) files.stretches merges.items now_tells (behind_none filing rests)
              (names_rise filing) (free_none (names filing)) files.firsts files.said in
              let behind : Does talk all_files met.linked.link now.link =
              subst (λ (acts : List Act). Does talk acts met.linked.link now.link) join.acts_same files.does in
              let does : Does talk (before_mark filing) old now.link =
              subst (λ (acts : List Act). Does talk acts old now.link) before_is
              (does_then talk (meeting_front filing) all_files old met.linked.link now.link front_does behind) in
              let changes_are : changes_filed (shelves_of filing) all_jobs merges.items ≡ filing_changes filing =
              ap (changes_filed (shelves_of filing) all_jobs) join.merges_are ∙ changes_all in
              let told : turns.reports.items ≡ filing_reports filing =
              turns.told ∙ ap (reports_filed (shelves_of filing) all_jobs) join.merges_are ∙ reports_all in
              marks_end now does (files_stop files) turns.reports told changes_are (files.user ∙ joined.user) turns.marks

-- ---- the whole

-- the jobs that are made of the heads that were listed
jobs_are : (filing : Filing) (heads : List DbHead) → heads ≡ heads_of filing.device.databases
    → filing_jobs heads (shelves_of filing) ≡ jobs_named filing (names filing)
unfolding filing_jobs
jobs_are filing heads same = ap (λ (hs : List DbHead). map (filing_job hs (shelves_of filing)) (names_with hs (shelves_of filing))) same

module _ {L F : Type 0} {talk : L → Option Talk} {since : L → L → Type 0} {fault : L → Option LinkFault} {downs : L → ℕ}
    {contents : F → Option FileMap} {moments : F → Moments} {paths : F → Option (List (List ℕ))} {faults : F → ℕ} (itself : (a : L) → since a a)
    (since_more : (a b c : L) → since a b → since b c → since a c) {old : L} (desk : DeskValue F) {left : Outcome L F} (told : Talk)
    (desk_is : IsDesk (contents desk.folder) desk.slots) (is : talk old ≡ Some told) (rests : IsAtRest told.device) where
  met_ends : {met : Met L} → MeetsOrNot talk since fault downs (marks_of desk.slots) no_wish old (Ok met)
      → AfterMeeting talk since fault downs contents moments paths faults (marks_of desk.slots) desk (Ok met) left
      → FilingEnds talk since fault downs contents moments (filing_of told.device desk.slots) old desk.folder left
  met_ends {met} (inr none) goes = absurd none
  met_ends {met} (inl meets) goes =
      let filing = filing_of told.device desk.slots in
      let tells : Tells told.device (talk old) = record { talk = told; is = is; same = refl } in
      let joined = meets_join filing rests tells meets in
      let own = subst (λ (n : UserInfo). Files talk since fault downs contents moments paths faults met (picked_for (marks_in filing) n desk) left) joined.user goes in
      let same = jobs_are filing met.heads.items joined.heads in
      files_ends talk since fault downs contents moments filing old since_more paths faults itself rests tells desk.folder desk_is desk_is.ordered meets refl
      own.now own.answer (rw same at own.files) (rw same at own.goes)

  pub ran_ends : FilingRan talk since fault downs contents moments paths faults old desk left
      → FilingEnds talk since fault downs contents moments (filing_of told.device desk.slots) old desk.folder left
  ran_ends ran = by ran.answer ran.meets ran.last ran.goes
    where
      by : (answer : Result (Met L) (Halted L)) → MeetsOrNot talk since fault downs (marks_of desk.slots) no_wish old answer
          → IfErr answer (λ halted. IsByLastReply (talk halted.link) halted.cause)
          → AfterMeeting talk since fault downs contents moments paths faults (marks_of desk.slots) desk answer left
          → FilingEnds talk since fault downs contents moments (filing_of told.device desk.slots) old desk.folder left
      by (Ok met) meets last goes = met_ends meets goes
      by (Err halted) meets last goes =
          unmet_ends talk since fault downs contents moments (filing_of told.device desk.slots) old since_more paths faults itself rests
          (record { talk = told; is = is; same = refl }) desk.folder halted meets last goes
