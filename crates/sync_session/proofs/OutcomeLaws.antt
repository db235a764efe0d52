-- How a session over a link that tells its device ends, by how it went.
use Rattle.std.proofs.Common.{◌≡◌, ◌∙◌, refl, ap, sym, subst, inl, inr, ℕ, List, [], ◌∷◌, ◌++◌, map}
use Rattle.std.specs.Prelude.{◌⊎◌, Option, None, Some, IsOk, IsSome, Ok, Err, Result, flat_map, replicate}
use Rattle.std.specs.Global.{Vec}
use Rattle.std.specs.Option.{option_map}
use Rattle.hs_folders.specs.FileMaps.{FileMap}
use Rattle.hs_folders.specs.Moments.{EachMomentSince, Moments}
use Rattle.hs_folders.proofs.MomentLaws.{moments_weaken, no_moment}
use Rattle.pdb_values.specs.declared.user.Marks.{Marks}
use Rattle.pdb_values.specs.declared.user.UserInfo.{UserInfo}
use Rattle.session_parts.proofs.LinkWords.{LinkFault, Talk, Ended, Halted, SessionFault, text, marking, reading_user, SessionValue, Stops}
use Rattle.desk_journal.specs.Entries.{EntryValue}
use Rattle.desk_journal.specs.Overlays.{FinishesAs, finished, put_all}
use Rattle.desk_journal.proofs.FinishLaws.{plain_finished}
use Rattle.desk_store.specs.Desks.{IsDesk}
use Rattle.sync_session.proofs.MeetingWords.{AreInOrder, SlotValue, DeskValue, shelves_in, ArePlannedFor, IsAtRest, adds_of, after_commit, before_writes, Meeting}
use Rattle.sync_session.proofs.MeetingWords.{slot_of, gained, news_under, SpansBehind}
use Rattle.desk_store.specs.declared.fault.CommitFault.{CommitFault}
use Rattle.desk_store.specs.declared.fault.CommitFault.TheVariants as commit
use Rattle.desktop_session.specs.declared.fault.SessionFault.TheVariants as session
use Rattle.desktop_session.proofs.StopLaws.{fell_none, stops_none}
use Rattle.session_parts.specs.declared.outcome.Outcome.{Outcome}
use Rattle.sync_session.specs.declared.preparing.Prepared.{Prepared}
use Rattle.session_parts.specs.declared.report.DbReport.{DbReport}
use Rattle.session_parts.specs.declared.stop.Stop.{Stop}
use Rattle.session_parts.specs.declared.stop.Stop.TheVariants as stop
use Rattle.session_parts.specs.Causes.{IsLater}
use Rattle.session_plan.specs.Commits.{Commits}
use Rattle.sync_session.specs.Courses.{AfterCommit, AfterNews, closed, last_acts, stopped}
use Rattle.sync_session.specs.Endings.{Ends}
use Rattle.session_plan.specs.Limits.{first_over}
use Rattle.session_plan.specs.Losses.{first_loss}
use Rattle.session_plan.specs.Merges.{merged_slots}
use Rattle.sync_session.specs.Outcomes.{ChangesDesk, IsAtCommit, IsCommitted, IsStopOf, IsUncommitted, MergedSince, SessionEnds, StandsForSlots}
use Rattle.sync_session.specs.Outcomes.{StopsAtLimit, StopsAtLoss, StopsFor, requests_before_commit, seat_of, tellings}
use Rattle.session_plan.specs.Reports.{reports}
use Rattle.session_parts.specs.Stopping.{stop_of}
use Rattle.session_plan.specs.Takes.{each_of, taken_entries, taken_slots}
use Rattle.sync_session.proofs.FilesLaws.{AreCommitFiles, taken-files}
use Rattle.sync_session.proofs.IdsLaws.{text-before_commit}
use Rattle.sync_session.proofs.SessionJoins.{NewsReach, Reached, end_reach, end_stop, news_reach, news_stop, session_free, writes_stop}
use Rattle.session_parts.proofs.SpanLaws.{on_ok}
use Rattle.session_parts.proofs.StretchLaws.{Tells}
use Rattle.sync_session.proofs.TakenLaws.{taken-merged}
use Rattle.session_plan.specs.Users.{begun_user, done_of}

-- ---- the folder

-- the folder of a desktop has no journal
finished_desk : (told : Option FileMap) {slots : List SlotValue} → IsDesk told slots → option_map finished told ≡ told
finished_desk None desk = refl
finished_desk (Some held) desk = ap Some (plain_finished held desk.stands.no_journal)

-- so it stands for its slots
pub desk_stands : (told : Option FileMap) (slots : List SlotValue) → IsDesk told slots → StandsForSlots slots told
desk_stands told slots desk = subst (λ (t : Option FileMap). IsDesk t slots) (sym (finished_desk told desk)) desk

-- and what stands as one does
pub stands_merged : (slots : List SlotValue) (made told : Option FileMap) → IsDesk made slots → FinishesAs made told → StandsForSlots slots told
stands_merged slots made told desk same = subst (λ (t : Option FileMap). IsDesk t slots) (sym same) (desk_stands made slots desk)

-- so it does at each moment
moments_merged : (slots : List SlotValue) (made : Option FileMap) (old new : Moments) → IsDesk made slots → EachMomentSince (FinishesAs made) old new
    → EachMomentSince (StandsForSlots slots) old new
moments_merged slots made old new desk each =
    moments_weaken (FinishesAs made) (StandsForSlots slots) old new each (λ told same. stands_merged slots made told desk same)

-- ---- why

pub later_stop : {L : Type 0} (talk : L → Option Talk) (fault : L → Option LinkFault) (meeting : Meeting) (old new : L) (cause : SessionFault)
    → IsLater (talk new) (fault new) cause → IsStopOf talk fault meeting old new (stop.Session cause)
later_stop talk fault meeting old new session.Down later = later
later_stop talk fault meeting old new (session.Refused function code) later = later
later_stop talk fault meeting old new (session.BadReply function broken) later = later
later_stop talk fault meeting old new session.NoMemory later = tt
later_stop talk fault meeting old new other later = absurd later

commit_stop : {L : Type 0} (talk : L → Option Talk) (fault : L → Option LinkFault) (meeting : Meeting) (old new : L) (cause : CommitFault)
    → IsAtCommit talk meeting old new → IsStopOf talk fault meeting old new (stop_of cause)
commit_stop talk fault meeting old new commit.DeskFault said = said
commit_stop talk fault meeting old new commit.NoMemory said = tt

-- what is said where the user has no slot, and where a limit would be passed, or the session would cost live rows
abbrev pub SaysUnseated : {L : Type 0} → (L → Option Talk) → (L → L → Type 0) → (L → Option LinkFault) → (L → ℕ) → Meeting → L → L
    → Result (Vec DbReport) Stop → Type 0
SaysUnseated talk since fault downs meeting old new answer =
    (why : SessionFault) → seat_of meeting ≡ Err why → Stops talk since fault downs (text reading_user ∷ []) old new × StopsFor (stop.Session why) answer

pub record SaysRefusal (meeting : Meeting) (answer : Result (Vec DbReport) Stop) : Type 0 where
  pub limit : (name : List ℕ) → first_over meeting ≡ Some name → StopsAtLimit name answer
  pub loss : (name : List ℕ) → first_over meeting ≡ None → first_loss meeting ≡ Some name → StopsAtLoss name answer

-- one of both is so
abbrev pub IsRefused : Meeting → Type 0
IsRefused meeting = IsSome (first_over meeting) ⊎ IsSome (first_loss meeting)

-- none is
pub record IsUnrefused (meeting : Meeting) : Type 0 where
  pub within : first_over meeting ≡ None
  pub keeps : first_loss meeting ≡ None

pub seated_says : (P : Type 0) (meeting : Meeting) (why : SessionFault) → IsOk (seat_of meeting) → seat_of meeting ≡ Err why → P
seated_says P meeting why seated is = absurd (let no : IsOk {T = UserInfo} (Err why) = subst IsOk is seated in let never : ⊥ = cc in never)

none_named : {A : Type 0} (P : Type 0) (found : Option A) (name : A) → found ≡ None → found ≡ Some name → P
none_named P found name none is = absurd (let never : ⊥ = cc in never)

none_some : {A : Type 0} (P : Type 0) (found : Option A) → found ≡ None → IsSome found → P
none_some P None none some = absurd cc
none_some P (Some a) none some = absurd cc

not_refused : (P : Type 0) (meeting : Meeting) → IsUnrefused meeting → IsRefused meeting → P
not_refused P meeting on (inl some) = none_some P (first_over meeting) on.within some
not_refused P meeting on (inr some) = none_some P (first_loss meeting) on.keeps some

unrefused_says : (meeting : Meeting) (answer : Result (Vec DbReport) Stop) → IsUnrefused meeting → SaysRefusal meeting answer
unrefused_says meeting answer on = record {
  limit = λ name is. none_named _ (first_over meeting) name on.within is;
  loss = λ name none is. none_named _ (first_loss meeting) name on.keeps is;
}

pub cause_says : (meeting : Meeting) (cause : SessionFault) → SaysRefusal meeting (Err (stop.Session cause))
cause_says meeting cause = record { limit = λ name is. tt; loss = λ name none is. tt }

flat-each : (ids : List (Vec ℕ)) → flat_map (λ (one : Vec ℕ). one.items) ids ≡ flat_map (λ (one : List ℕ). one) (each_of ids)
flat-each [] = refl
flat-each (one ∷ ids) = ap (λ zs. one.items ++ zs) (flat-each ids)

-- ---- the session of a meeting, from this link on

module _ {L F : Type 0} (talk : L → Option Talk) (since : L → L → Type 0) (fault : L → Option LinkFault) (downs : L → ℕ)
    (contents : F → Option FileMap) (moments : F → Moments) (meeting : Meeting) (old : L) where
  -- it ends so, by what is left
  abbrev pub EndsSo : F → Outcome L F → Type 0
  EndsSo folder left = SessionEnds talk since fault downs meeting old left.link (tellings contents moments folder left.folder) left.end

  -- it stopped before the commit
  ends_before : {new : L} {folder : F} {cause : Stop} {left : Outcome L F} → left ≡ stopped new folder cause
      → Stops talk since fault downs (requests_before_commit meeting) old new → IsStopOf talk fault meeting old new cause
      → (IsRefused meeting → Stops talk since fault downs (map text (before_writes meeting)) old new)
      → SaysUnseated talk since fault downs meeting old new (Err cause) → SaysRefusal meeting (Err cause) → EndsSo folder left
  ends_before {folder} is stops why unwritten unseated refusal = rw is (record {
    ended = tt;
    stopped = inl (record {
      given = [];
      stops = stops;
      stands = refl;
      moments = no_moment (StandsForSlots (merged_slots meeting [])) (moments folder) (moments folder) refl;
    });
    cause = why;
    changed = record {
      entries = [];
      files = tt;
      written = tt;
      stands = inl refl;
      each_moment = no_moment (FinishesAs (option_map (put_all []) (contents folder))) (moments folder) (moments folder) refl;
    };
    over = λ some. unwritten (inl some);
    unseated = unseated;
    limit = refusal.limit;
    losing = λ some. unwritten (inr some);
    loss = refusal.loss;
  })

  -- while nothing was written
  pub ends_unwritten : {new : L} {folder : F} {cause : Stop} {left : Outcome L F} → left ≡ stopped new folder cause
      → Stops talk since fault downs (map text (before_writes meeting)) old new → IsStopOf talk fault meeting old new cause
      → SaysUnseated talk since fault downs meeting old new (Err cause) → SaysRefusal meeting (Err cause) → EndsSo folder left
  ends_unwritten is stops why unseated refusal =
      ends_before is (writes_stop meeting (replicate (adds_of meeting) 0) stops) why (λ refused. stops) unseated refusal

  -- what both sides had done when the desktop committed
  record Committed (given : List ℕ) (dealt : List (List ℕ)) (between : L) (folder after : F) : Type 0 where
    news : NewsReach talk since fault downs meeting given dealt old between
    on : IsUnrefused meeting
    seated : IsOk (seat_of meeting)
    desk : IsDesk (contents after) (merged_slots meeting given)
    each : MergedSince meeting given (moments folder) (moments after)
    entries : List EntryValue
    files : AreCommitFiles meeting entries
    written : contents after ≡ option_map (put_all entries) (contents folder)
    moved : EachMomentSince (FinishesAs (option_map (put_all entries) (contents folder))) (moments folder) (moments after)

  -- it changed the folder so
  changed_by : {given : List ℕ} {dealt : List (List ℕ)} {between : L} {folder after : F} (answer : Result (Vec DbReport) Stop)
      → Committed given dealt between folder after → ChangesDesk meeting (tellings contents moments folder after) answer
  changed_by {folder} {after} answer done = record {
    entries = done.entries;
    files = done.files;
    written = on_ok (contents after ≡ option_map (put_all done.entries) (contents folder)) answer done.written;
    stands = inr (ap (option_map finished) done.written);
    each_moment = done.moved;
  }

  closes_ends : (since_more : (a b c : L) → since a b → since b c → since a c) {given : List ℕ} {dealt : List (List ℕ)} {done : Marks}
      (prepared : Prepared) {between : SessionValue L} {folder after : F} (answer : Result (Ended L) (Halted L))
      → between.user ≡ meeting.device.user → done ≡ done_of meeting → ArePlannedFor meeting prepared.planned.items
      → prepared.reports.items ≡ reports meeting → Committed given dealt between.link folder after
      → (ends : Ends talk since fault downs prepared.planned.items (last_acts between.user done) between answer)
      → EndsSo folder (closed after prepared.reports answer)
  closes_ends since_more {given} prepared (Ok ended) known ends_so are told done ends = record {
    ended = record {
      given = given;
      count = done.news.count;
      free = session_free meeting given done.news.free;
      does = (end_reach meeting known ends_so are done.news since_more ends).does;
      desk = done.desk;
      moments = done.each;
      told = told;
    };
    stopped = tt;
    cause = tt;
    changed = changed_by (Ok prepared.reports) done;
    over = λ some. not_refused _ meeting done.on (inl some);
    unseated = λ why is. seated_says _ meeting why done.seated is;
    limit = λ name is. none_named _ (first_over meeting) name done.on.within is;
    losing = λ some. not_refused _ meeting done.on (inr some);
    loss = λ name none is. none_named _ (first_loss meeting) name done.on.keeps is;
  }
  closes_ends since_more {given} prepared {between} {after} (Err halted) known ends_so are told done ends = record {
    ended = tt;
    stopped = inr (record {
      given = given;
      between = between.link;
      count = done.news.count;
      free = done.news.free;
      does = done.news.reached.does;
      stops = rw (text-before_commit meeting given (replicate (adds_of meeting) 0)) at done.news.reached.stops;
      rest = end_stop meeting known ends_so are done.news ends;
      stands = desk_stands (contents after) (merged_slots meeting given) done.desk;
      moments = done.each;
    });
    cause = later_stop talk fault meeting old halted.link halted.cause ends.cause;
    changed = changed_by (Err (stop.Session halted.cause)) done;
    over = λ some. not_refused _ meeting done.on (inl some);
    unseated = λ why is. seated_says _ meeting why done.seated is;
    limit = λ name is. none_named _ (first_over meeting) name done.on.within is;
    losing = λ some. not_refused _ meeting done.on (inr some);
    loss = λ name none is. none_named _ (first_loss meeting) name done.on.keeps is;
  }

  module _ (paths : F → Option (List (List ℕ))) (faults : F → ℕ) (itself : (a : L) → since a a) where
    -- the commit was refused, and stands or not
    refused_ends : {given : List ℕ} {dealt : List (List ℕ)} {entries : List EntryValue} {between : L} {desk : DeskValue F} {refusal : CommitFault × F}
        {left : Outcome L F} → NewsReach talk since fault downs meeting given dealt old between → IsUnrefused meeting → IsOk (seat_of meeting)
        → Commits contents moments paths faults (merged_slots meeting given) entries desk (Err refusal) → AreCommitFiles meeting entries
        → left ≡ stopped between refusal.1 (stop_of refusal.0) → EndsSo desk.folder left
    refused_ends {given} {entries} {between} {desk} {refusal} news on seated commits files is =
        let made : Option FileMap = option_map (put_all entries) (contents desk.folder) in
        let merged : List SlotValue = merged_slots meeting given in
        let stops = rw (text-before_commit meeting given (replicate (adds_of meeting) 0)) at news.reached.stops in
        let both : IsUncommitted talk since fault downs meeting old between (tellings contents moments desk.folder refusal.1)
        ⊎ IsCommitted talk since fault downs meeting old between (tellings contents moments desk.folder refusal.1)
        = elim commits.made [
          | inl same ↦ inl (record {
            given = given;
            stops = stops;
            stands = ap (λ f. option_map finished (contents f)) same;
            moments = no_moment (StandsForSlots merged) (moments desk.folder) (moments refusal.1) (ap moments same);
          })
          | inr stands ↦ elim commits.left [
            | inl before ↦ inl (record {
              given = given;
              stops = stops;
              stands = before;
              moments = moments_merged merged made (moments desk.folder) (moments refusal.1) stands commits.each_moment;
            })
            | inr after ↦ inr (record {
              given = given;
              between = between;
              count = news.count;
              free = news.free;
              does = news.reached.does;
              stops = stops;
              rest = stops_none talk since fault downs (map text (after_commit meeting)) between between refl (itself between)
                  (fell_none fault downs between);
              stands = stands_merged merged made (contents refusal.1) stands after;
              moments = moments_merged merged made (moments desk.folder) (moments refusal.1) stands commits.each_moment;
            })
          ]
        ] in
        rw is (record {
          ended = tt;
          stopped = both;
          cause = commit_stop talk fault meeting old between refusal.0
              (record { given = given; count = news.count; free = news.free; does = news.reached.does });
          changed = record { entries = entries; files = files; written = tt; stands = commits.left; each_moment = commits.each_moment };
          over = λ some. not_refused _ meeting on (inl some);
          unseated = λ why is. seated_says _ meeting why seated is;
          limit = λ name is. none_named _ (first_over meeting) name on.within is;
          losing = λ some. not_refused _ meeting on (inr some);
          loss = λ name none is. none_named _ (first_loss meeting) name on.keeps is;
        })

    module _ (since_more : (a b c : L) → since a b → since b c → since a c) where
      commit_ends : {given : List ℕ} {dealt : List (List ℕ)} {done : Marks} (prepared : Prepared) {entries : List EntryValue}
          (between : SessionValue L) {desk : DeskValue F} (answer : Result (DeskValue F) (CommitFault × F)) {left : Outcome L F}
          → between.user ≡ meeting.device.user → done ≡ done_of meeting
          → ArePlannedFor meeting prepared.planned.items → prepared.reports.items ≡ reports meeting
          → NewsReach talk since fault downs meeting given dealt old between.link → IsUnrefused meeting → IsOk (seat_of meeting)
          → Commits contents moments paths faults (merged_slots meeting given) entries desk answer → AreCommitFiles meeting entries
          → AfterCommit talk since fault downs done prepared between answer left → EndsSo desk.folder left
      commit_ends {given} {dealt} prepared {entries} between {desk} (Ok after) known ends_so are told news on seated commits files goes =
          let merged : List SlotValue = merged_slots meeting given in
          let stands : IsDesk (contents after.folder) merged = rw commits.slots at commits.stands in
          let made : IsDesk (option_map (put_all entries) (contents desk.folder)) merged = rw commits.written at stands in
          let done : Committed given dealt between.link desk.folder after.folder
          = record {
            news = news;
            on = on;
            seated = seated;
            desk = stands;
            each = moments_merged merged (option_map (put_all entries) (contents desk.folder)) (moments desk.folder) (moments after.folder) made
                commits.each_moment;
            entries = entries;
            files = files;
            written = commits.written;
            moved = commits.each_moment;
          } in
          rw goes.is (closes_ends since_more prepared goes.answer known ends_so are told done goes.ends)
      commit_ends prepared between (Err refusal) known ends_so are told news on seated commits files goes =
          refused_ends news on seated commits files goes

      -- what both sides know of each other once all is read
      pub record Known (prepared : Prepared) (now : SessionValue L) (desk : DeskValue F) (done : Marks) : Type 0 where
        pub rests : IsAtRest meeting.device
        pub done_is : done ≡ done_of meeting
        pub user : now.user ≡ meeting.device.user
        pub slots : desk.slots ≡ meeting.slots
        pub picked : desk.picked ≡ meeting.picked
        pub are : ArePlannedFor meeting prepared.planned.items
        pub told : prepared.reports.items ≡ reports meeting
        pub on : IsUnrefused meeting
        pub seated : IsOk (seat_of meeting)
        pub ordered : AreInOrder meeting.slots
        pub read : Reached talk since fault downs (before_writes meeting) old now.link
        pub tells : Tells meeting.device (talk now.link)

      own_shelves : {done : Marks} {prepared : Prepared} {now : SessionValue L} {desk : DeskValue F} → Known prepared now desk done
          → shelves_in desk ≡ (slot_of meeting).shelves
      own_shelves knows = rw (knows.slots, knows.picked) refl

      pub news_ends : {done : Marks} {prepared : Prepared} {now then : SessionValue L} {desk : DeskValue F} (answer : Result (Vec (Vec ℕ)) SessionFault)
          {left : Outcome L F} → Known prepared now desk done → SpansBehind talk since fault downs (marking (begun_user now.user) 0x40)
          (news_under (shelves_in desk)) (λ told one handle given (ids : Vec ℕ). gained (shelves_in desk) told one handle given ids.items) prepared.planned.items (λ (made : Vec (Vec ℕ)). made.items)
          now then answer
          → AfterNews talk since fault downs contents moments paths faults done prepared then desk answer left → EndsSo desk.folder left
      news_ends {done} {prepared} {then} {desk} (Ok ids) knows sends goes =
          let dealt : List (List ℕ) = each_of ids.items in
          let news = news_reach since_more meeting knows.rests (λ (one : Vec ℕ). one.items) (own_shelves knows) knows.user knows.are knows.read knows.tells sends in
          let user : then.user ≡ meeting.device.user = sends.user ∙ knows.user in
          let taken : taken_slots done then.user prepared.planned.items dealt desk.picked desk.slots
          ≡ merged_slots meeting (flat_map (λ (one : Vec ℕ). one.items) ids.items)
          = rw (knows.done_is, user, knows.picked, knows.slots)
          (taken-merged meeting prepared.planned.items dealt knows.ordered knows.are news.dealt ∙ ap (merged_slots meeting) (sym (flat-each ids.items))) in
          let files : AreCommitFiles meeting (taken_entries done then.user prepared.planned.items dealt desk.picked desk.slots)
          = rw (knows.done_is, user, knows.picked, knows.slots) (taken-files meeting prepared.planned.items dealt knows.are) in
          commit_ends prepared then goes.answer user knows.done_is knows.are knows.told news knows.on knows.seated (rw taken at goes.commits) files goes.goes
      news_ends {then} (Err cause) knows sends goes =
          ends_before goes (news_stop since_more meeting knows.rests (λ (one : Vec ℕ). one.items) (own_shelves knows) knows.user knows.are knows.read knows.tells
          (replicate (adds_of meeting) 0) sends)
          (later_stop talk fault meeting old then.link cause sends.cause) (not_refused _ meeting knows.on)
          (λ why is. seated_says _ meeting why knows.seated is) (unrefused_says meeting _ knows.on)
