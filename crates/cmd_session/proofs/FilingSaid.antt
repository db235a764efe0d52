-- What the answer of a session that brings categories together says of its requests, and what its status shows.
use Rattle.std.proofs.lemmas.Grind.{common_steps}
use Rattle.std.proofs.Common.{◌≡◌, ◌⊎◌, ◌∙◌, ◌+◌, ◌≤◌, ap, arith, inl, inr, refl, subst, sym, ℕ, List, [], ◌∷◌, ◌++◌, length}
use Rattle.std.specs.Prelude.{IfErr, IfOk, OnOk, Option, None, Some, Result, Ok, Err, map}
use Rattle.std.specs.Global.{Vec}
use Rattle.std.proofs.lemmas.List.{length-append, map-append}
use Rattle.hs_folders.specs.FileMaps.{FileMap}
use Rattle.desktop_session.specs.Seats.{no_wish, seat_for}
use Rattle.pdb_values.specs.declared.user.UserInfo.{UserInfo}
use Rattle.dlp_commands.specs.declared.link.LinkFault.{LinkFault}
use Rattle.line_world.specs.Worlds.{WorldValue, world_talk}
use Rattle.line_world.specs.declared.down.Down.{Down}
use Rattle.desktop_session.specs.Acts.{text}
use Rattle.desktop_session.specs.Requests.{ending, reading_user}
use Rattle.desktop_session.specs.Says.{IsPrefix}
use Rattle.desktop_session.specs.declared.fault.SessionFault.{SessionFault}
use Rattle.desktop_session.specs.declared.fault.SessionFault.TheVariants as session_fault
use Rattle.session_parts.specs.declared.report.DbReport.{DbReport}
use Rattle.session_parts.specs.declared.stop.Stop.{Stop}
use Rattle.session_parts.specs.declared.stop.Stop.TheVariants as stop
use Rattle.category_mirror.specs.FilingEnds.{IsEnded, IsFilingStop, StopsFor, marks_in, seat_of}
use Rattle.category_mirror.specs.Sides.{Filing, before_end, before_mark, filing_acts}
use Rattle.call_parts.specs.Causes.{IsCutShort, down_status, fault_status, stop_status}
use Rattle.call_parts.specs.Closings.{left_status}
use Rattle.cmd_session.specs.Filings.{FilingShows, ShowsFiling}
use Rattle.call_parts.specs.Told.{FolderTold}
use Rattle.call_parts.specs.Whole.{StopsAnswered}
use Rattle.call_parts.proofs.SaidLaws.{Tells, never_down, down_cut}
use Rattle.call_parts.proofs.RetoldLaws.{StaysShown}
use Rattle.cmd_session.proofs.StatusLaws.{said_all, unseated_status}
use Rattle.call_parts.proofs.WholeLaws.{SaidOf, SaidShort, SaidWhole}
use Rattle.call_parts.specs.declared.report.Report.{Report}
use Rattle.cmd_status.specs.declared.status.Status.{Status}
use Rattle.cmd_status.specs.declared.status.Status.TheVariants.{Done, NoMemory, OutWrite, TraceWrite}

-- ---- the requests of a session

abbrev pub filing_requests : Filing → List (List ℕ)
filing_requests filing = map text (filing_acts filing)

abbrev pub first_requests : Filing → List (List ℕ)
first_requests filing = map text (before_end filing)

pub requests-are : (filing : Filing) → filing_requests filing ≡ first_requests filing ++ text ending ∷ []
unfolding filing_acts
requests-are filing = map-append text (before_end filing) (ending ∷ [])

pub one-more : (filing : Filing) → length (filing_requests filing) ≡ length (first_requests filing) + 1
one-more filing =
    ap (λ (l : List (List ℕ)). length l) (requests-are filing) ∙ length-append (first_requests filing) (text ending ∷ [])

pub two-first : (filing : Filing) → 2 ≤ length (first_requests filing)
unfolding before_end before_mark
two-first filing = omega arith

-- ---- what was said

module _ {F : Type 0} (fault : WorldValue F → Option LinkFault) (filing : Filing) (old new : WorldValue F) (cause : Option Down) where
  stop_said : (why : Stop) → IsFilingStop (λ (world : WorldValue F). Some (world_talk world)) fault filing old new why
      → StopsAnswered (stop_status cause why) → SaidShort (filing_requests filing) old new
  stop_said (stop.Session session_fault.Down) stops answered = absurd (never_down cause answered)
  stop_said (stop.Session (session_fault.OtherUser handheld desktop)) stops answered =
      let more = one-more filing in
      let some = two-first filing in
      record { acts = reading_user ∷ []; does = stops.1; some = omega arith; short = omega (arith, more, some) }
  stop_said (stop.Session session_fault.TooManyUsers) stops answered = absurd stops
  stop_said (stop.Session (session_fault.Refused function code)) stops answered = absurd answered
  stop_said (stop.Session (session_fault.BadReply function broken)) stops answered = absurd answered
  stop_said (stop.Session session_fault.NoMemory) stops answered = absurd answered
  stop_said (stop.Limit name) stops answered = absurd stops
  stop_said (stop.NewHandheld name) stops answered = absurd stops
  stop_said stop.DeskFault stops answered =
      let more = one-more filing in
      let some = two-first filing in
      record { acts = before_end filing; does = stops; some = omega (arith, some); short = omega (arith, more) }

  said_short : (answer : Result (Vec DbReport) Stop) {status : Status}
      → IfErr answer (IsFilingStop (λ (world : WorldValue F). Some (world_talk world)) fault filing old new)
      → (status ≡ left_status cause answer) ⊎ (status ≡ NoMemory) → StopsAnswered status → SaidShort (filing_requests filing) old new
  said_short answer stops (inr memory) answered = absurd (subst StopsAnswered memory answered)
  said_short (Ok made) stops (inl left) answered = absurd (subst StopsAnswered left answered)
  said_short (Err why) stops (inl left) answered = stop_said why stops (subst StopsAnswered left answered)

  ended_whole : (answer : Result (Vec DbReport) Stop) (after : Option FileMap)
      → IfOk answer (λ reports. IsEnded (λ (world : WorldValue F). Some (world_talk world)) filing old new after reports.items)
      → OnOk answer (SaidWhole (filing_requests filing) old new)
  ended_whole (Ok made) after ended = record { acts = filing_acts filing; does = ended.does; all = refl }
  ended_whole (Err why) after ended = tt

  -- what its call answered says so much of the session
  pub filing_said : (answer : Result (Vec DbReport) Stop) (after : Option FileMap) {status : Status}
      → IfOk answer (λ reports. IsEnded (λ (world : WorldValue F). Some (world_talk world)) filing old new after reports.items)
      → IfErr answer (IsFilingStop (λ (world : WorldValue F). Some (world_talk world)) fault filing old new)
      → (status ≡ left_status cause answer) ⊎ (status ≡ NoMemory) → IsPrefix new.log.issued (filing_requests filing)
      → SaidOf (filing_requests filing) old new answer status
  filing_said answer after ended stops left begins =
      let more = one-more filing in
      record {
        some = omega (arith, more);
        begins = begins;
        whole = ended_whole answer after ended;
        short = said_short answer stops left;
      }

-- ---- what its status shows

seat_told : (seat : Result UserInfo SessionFault) {P : SessionFault → Type 0} → ((why : SessionFault) → seat ≡ Err why → P why) → IfErr seat P
seat_told (Ok user) told = tt
seat_told (Err why) told = told why refl

module _ (filing : Filing) (cause : Option Down) where
  -- where the handheld's user has no slot
  unseated_told : (answer : Result (Vec DbReport) Stop) {why : SessionFault} {status : Status} → (status ≡ left_status cause answer) ⊎ (status ≡ NoMemory)
      → seat_of filing ≡ Err why → StopsFor why answer → (status ≡ fault_status None why) ⊎ IsCutShort status
  unseated_told answer (inr memory) unseated stops = inr (subst IsCutShort (sym memory) tt)
  unseated_told (Ok made) (inl is) unseated stops = absurd stops
  unseated_told (Err stopped) (inl is) unseated (inl same) =
      inl (is ∙ ap (stop_status cause) same
      ∙ unseated_status (marks_in filing) filing.device.user (seat_for (marks_in filing) no_wish filing.device.user) cause unseated)
  unseated_told (Err stopped) (inl is) unseated (inr (inl down)) =
      inr (subst IsCutShort (sym (is ∙ ap (stop_status cause) down)) (down_cut cause))
  unseated_told (Err stopped) (inl is) unseated (inr (inr memory)) =
      inr (subst IsCutShort (sym (is ∙ ap (stop_status cause) memory)) tt)

down_shows : (filing : Filing) (report : Report) (cause : Option Down) → FilingShows filing (down_status cause) report
down_shows filing report cause = grind (arith, common_steps)

module _ (filing : Filing) {palm_after : FolderTold} {report : Report} (cause : Option Down) where
  stop_shows : {F : Type 0} (fault : WorldValue F → Option LinkFault) {old new : WorldValue F} (why : Stop) → Tells old new palm_after report
      → IsFilingStop (λ (world : WorldValue F). Some (world_talk world)) fault filing old new why → FilingShows filing (stop_status cause why) report
  stop_shows fault (stop.Session session_fault.Down) tells is = down_shows filing report cause
  stop_shows fault (stop.Session (session_fault.OtherUser handheld desktop)) tells is = (is.0, said_all tells is.1)
  stop_shows fault (stop.Session session_fault.TooManyUsers) tells is = absurd is
  stop_shows fault (stop.Session (session_fault.Refused function code)) tells is = tt
  stop_shows fault (stop.Session (session_fault.BadReply function broken)) tells is = tt
  stop_shows fault (stop.Session session_fault.NoMemory) tells is = tt
  stop_shows fault (stop.Limit name) tells is = absurd is
  stop_shows fault (stop.NewHandheld name) tells is = absurd is
  stop_shows fault stop.DeskFault tells is = said_all tells is

  status_shows : {F : Type 0} (fault : WorldValue F → Option LinkFault) {old new : WorldValue F} (answer : Result (Vec DbReport) Stop) {status : Status}
      → Tells old new palm_after report → IfErr answer (IsFilingStop (λ (world : WorldValue F). Some (world_talk world)) fault filing old new)
      → (status ≡ left_status cause answer) ⊎ (status ≡ NoMemory) → FilingShows filing status report
  status_shows fault answer tells stops (inr memory) = subst (λ (s : Status). FilingShows filing s report) (sym memory) tt
  status_shows fault (Ok made) tells stops (inl is) = subst (λ (s : Status). FilingShows filing s report) (sym is) tt
  status_shows fault (Err why) tells stops (inl is) =
      subst (λ (s : Status). FilingShows filing s report) (sym is) (stop_shows fault why tells stops)

  -- what its status shows, and which it is where both sides don't meet
  pub filing_shows : {F : Type 0} (fault : WorldValue F → Option LinkFault) {old new : WorldValue F} (answer : Result (Vec DbReport) Stop) {status : Status}
      → Tells old new palm_after report → IfErr answer (IsFilingStop (λ (world : WorldValue F). Some (world_talk world)) fault filing old new)
      → ((why : SessionFault) → seat_of filing ≡ Err why → StopsFor why answer)
      → (status ≡ left_status cause answer) ⊎ (status ≡ NoMemory) → ShowsFiling filing status report
  filing_shows fault answer {status} tells stops unseated is = record {
    status_is = status_shows fault answer tells stops is;
    refused = seat_told (seat_of filing) {P = λ why. (status ≡ fault_status None why) ⊎ IsCutShort status}
        (λ why here. unseated_told filing cause answer is here (unseated why here));
  }

-- ---- whatever is written of it

memory_refused : (seat : Result UserInfo SessionFault) → IfErr seat (λ why. (NoMemory ≡ fault_status None why) ⊎ IsCutShort NoMemory)
memory_refused (Ok user) = tt
memory_refused (Err why) = inr tt

done_refused : (seat : Result UserInfo SessionFault) (other : Status) → IfErr seat (λ why. (Done ≡ fault_status None why) ⊎ IsCutShort Done)
    → IfErr seat (λ why. (other ≡ fault_status None why) ⊎ IsCutShort other)
done_refused seat other is = grind (arith, common_steps)

pub shows_retold : (filing : Filing) → StaysShown (ShowsFiling filing)
shows_retold filing status other report (inl same) shows = subst (λ (s : Status). ShowsFiling filing s report) (sym same) shows
shows_retold filing status other report (inr (inl memory)) shows =
    subst (λ (s : Status). ShowsFiling filing s report) (sym memory) (record { status_is = tt; refused = memory_refused (seat_of filing) })
shows_retold filing status other report (inr (inr (done, inl untold))) shows =
    let was = subst (λ (s : Status). ShowsFiling filing s report) done shows in
    subst (λ (s : Status). ShowsFiling filing s report) (sym untold)
    (record { status_is = tt; refused = done_refused (seat_of filing) TraceWrite was.refused })
shows_retold filing status other report (inr (inr (done, inr unsaid))) shows =
    let was = subst (λ (s : Status). ShowsFiling filing s report) done shows in
    subst (λ (s : Status). ShowsFiling filing s report) (sym unsaid)
    (record { status_is = tt; refused = done_refused (seat_of filing) OutWrite was.refused })
