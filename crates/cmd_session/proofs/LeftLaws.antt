-- What a session left of both sides, from what its call answered over a world.
use Rattle.std.proofs.Common.{◌≡◌, ◌∙◌, ap, refl, sym, subst, arith, inl, inr, ℕ, List, [], ◌∷◌, length}
use Rattle.std.specs.Prelude.{Option, Some, None, IsErr, IsSome, Result, Ok, Err, filter, map, replicate}
use Rattle.std.specs.Global.{Vec}
use Rattle.std.proofs.lemmas.List.{append-nil, length-append}
use Rattle.hs_folders.specs.FileMaps.{FileMap}
use Rattle.hs_folders.specs.Moments.{Moments}
use Rattle.dlp_commands.specs.Changes.{changes}
use Rattle.dlp_commands.specs.DeviceRuns.{exchanged}
use Rattle.dlp_commands.specs.declared.link.LinkFault.{LinkFault}
use Rattle.dlp_commands.proofs.StepLaws.{given-append}
use Rattle.desk_journal.specs.Overlays.{FinishesAs}
use Rattle.desk_store.specs.Desks.{IsDesk}
use Rattle.desktop_session.specs.Acts.{text}
use Rattle.desktop_session.specs.Says.{IsPrefix}
use Rattle.desktop_session.specs.Tellings.{exchanges}
use Rattle.desktop_session.specs.Requests.{reading_user}
use Rattle.desktop_session.specs.declared.fault.SessionFault.{SessionFault}
use Rattle.pdb_values.specs.declared.user.UserInfo.{UserInfo}
use Rattle.line_world.specs.Logs.{LogValue, no_log}
use Rattle.line_world.specs.Worlds.{IsLog, WorldSince, WorldValue, world_talk}
use Rattle.sync_session.proofs.IdsLaws.{text-session}
use Rattle.session_plan.specs.Limits.{first_over}
use Rattle.session_plan.specs.Losses.{first_loss}
use Rattle.session_parts.specs.Given.{GetFreeIds}
use Rattle.session_plan.specs.Merges.{merged_slots}
use Rattle.sync_session.specs.Outcomes.{SessionEnds, StandsForSlots, requests_before_commit, seat_of}
use Rattle.session_plan.specs.Reports.{reports}
use Rattle.sync_session.specs.Sessions.{adds_of, after_commit, before_commit, before_writes, requests, session, writes_before_commit}
use Rattle.session_plan.specs.Tasks.{Meeting}
use Rattle.session_parts.specs.declared.report.DbReport.{DbReport}
use Rattle.session_parts.specs.declared.stop.Stop.{Stop}
use Rattle.front_laws.specs.Sound.{IsSoundMeeting}
use Rattle.front_laws.proofs.FrontLaws.{after-none, commit-ids, commit-told, session-ids, session-told}
use Rattle.front_laws.proofs.MergeActs.{merged}
use Rattle.front_laws.proofs.RequestLaws.{no-limit, parts-are, prefix-length, prefix-more, stood_or_merged, writes-before}
use Rattle.cmd_session.specs.Ends.{EndedSession, SessionLeft, StoppedBefore, StoppedBehind}
use Rattle.call_parts.specs.LineRuns.{log_in, write_count}
use Rattle.call_parts.specs.Closings.{left_databases, left_end}
use Rattle.call_parts.specs.Told.{FolderTold}
use Rattle.call_parts.specs.declared.report.Report.{Report}
use Rattle.call_parts.proofs.EndLaws.{BeganWith, LoggedAll, began_with, count-append, logged_all, none-front, none-given, performed-prefix, prefix-count}
use Rattle.call_parts.proofs.FrontLaws.{issued_begins}
use Rattle.call_parts.proofs.SaidLaws.{ids_by, Tells}

whole-prefix : (xs ys : List (List ℕ)) → xs ≡ ys → IsPrefix xs ys
whole-prefix xs ys same = record { rest = []; is = append-nil xs ∙ same }

-- ---- it ended

ended_left : {F : Type 0} {meeting : Meeting} (given : List ℕ) {old new : WorldValue F} {palm_after : FolderTold} (desk_after : FolderTold) {report : Report}
    → IsSoundMeeting meeting → old.server.device ≡ meeting.device → Tells old new palm_after report → first_over meeting ≡ None
    → length given ≡ adds_of meeting → GetFreeIds (session meeting given) meeting.device → LoggedAll (session meeting given) old new
    → IsDesk desk_after.contents (merged_slots meeting given) → report.databases.items ≡ reports meeting
    → EndedSession meeting palm_after desk_after report
ended_left {meeting} given desk_after sound device tells none count free logged desk told =
    grind (
      arith,
      session-told meeting given sound none free,
      session-ids meeting given sound count,
      merged meeting given sound none free,
      text-session meeting given,
    )

-- ---- it stopped

before_left : {F : Type 0} (meeting : Meeting) {old : WorldValue F} (new : WorldValue F) {palm_after : FolderTold} (desk desk_after : FolderTold)
    {report : Report}
    → Tells old new palm_after report → IsPrefix new.log.issued (requests_before_commit meeting) → FinishesAs desk.contents desk_after.contents
    → StoppedBefore meeting desk desk_after report
unfolding write_count writes_before_commit
before_left meeting new desk desk_after tells prefix stands =
    grind (
      arith,
      prefix-count (performed-prefix tells.is_log prefix),
      length (filter changes new.log.performed),
    )

behind_left : {F : Type 0} {meeting : Meeting} (given : List ℕ) (old new : WorldValue F) {palm_after : FolderTold} (desk_after : FolderTold) {report : Report}
    → IsSoundMeeting meeting → old.server.device ≡ meeting.device → Tells old new palm_after report → first_over meeting ≡ None
    → length given ≡ adds_of meeting → GetFreeIds (before_commit meeting given) meeting.device
    → BeganWith (before_commit meeting given) (map text (after_commit meeting)) old.server.device new.log
    → StandsForSlots (merged_slots meeting given) desk_after.contents → StoppedBehind meeting desk_after report
unfolding write_count
behind_left {meeting} given old new desk_after sound device tells none count free began stands =
    grind (
      arith,
      ids_by (exchanged began.rest began.replies),
      [],
      none-given began.rest began.replies,
      none-front began.rest began.rest_begins.rest,
      after-none meeting sound,
      given-append (exchanges (before_commit meeting given) old.server.device) (exchanged began.rest began.replies),
      ids_by (exchanges (before_commit meeting given) old.server.device),
      append-nil (ids_by (exchanges (before_commit meeting given) old.server.device)),
      commit-told meeting given sound none free,
      commit-ids meeting given sound count,
      length (filter changes new.log.performed),
      length (filter changes (map text (before_commit meeting given))),
      length (filter changes began.rest),
      count-append (map text (before_commit meeting given)) began.rest,
      writes-before meeting given,
    )

-- ---- both

-- what a session's call answered of the sides of this meeting, over a world
abbrev pub EndsOver : {F : Type 0} → (F → Option FileMap) → (F → Moments) → (F → Option (List (List ℕ))) → (F → ℕ) → (WorldValue F → Option LinkFault)
    → (WorldValue F → ℕ) → Meeting → WorldValue F → WorldValue F → FolderTold → FolderTold → Result (Vec DbReport) Stop → Type 0
EndsOver contents moments paths faults fault downs meeting old new desk desk_after answer =
    SessionEnds (λ (world : WorldValue _). Some (world_talk world)) (λ (first last : WorldValue _). WorldSince contents moments paths faults first last)
    fault downs meeting old new
    (record { before = desk.contents; after = desk_after.contents; moments_before = desk.moments; moments_after = desk_after.moments }) answer

limit-prefix : {F : Type 0} (contents : F → Option FileMap) (moments : F → Moments) (paths : F → Option (List (List ℕ))) (faults : F → ℕ)
    (fault : WorldValue F → Option LinkFault) (downs : WorldValue F → ℕ) (meeting : Meeting) (old new : WorldValue F) (desk desk_after : FolderTold)
    (answer : Result (Vec DbReport) Stop)
    → old.log ≡ no_log → IsLog new.log new.answered → EndsOver contents moments paths faults fault downs meeting old new desk desk_after answer
    → IsSome (first_over meeting) → IsPrefix new.log.issued (map text (before_writes meeting))
limit-prefix contents moments paths faults fault downs meeting old new desk desk_after answer silent is ends some =
    issued_begins old new (map text (before_writes meeting)) silent is (ends.over some).only

-- and so does a new handheld
loss-prefix : {F : Type 0} (contents : F → Option FileMap) (moments : F → Moments) (paths : F → Option (List (List ℕ))) (faults : F → ℕ)
    (fault : WorldValue F → Option LinkFault) (downs : WorldValue F → ℕ) (meeting : Meeting) (old new : WorldValue F) (desk desk_after : FolderTold)
    (answer : Result (Vec DbReport) Stop)
    → old.log ≡ no_log → IsLog new.log new.answered → EndsOver contents moments paths faults fault downs meeting old new desk desk_after answer
    → IsSome (first_loss meeting) → IsPrefix new.log.issued (map text (before_writes meeting))
loss-prefix contents moments paths faults fault downs meeting old new desk desk_after answer silent is ends some =
    issued_begins old new (map text (before_writes meeting)) silent is (ends.losing some).only

-- a user without a slot is all that is asked for
unseated-prefix : {F : Type 0} (contents : F → Option FileMap) (moments : F → Moments) (paths : F → Option (List (List ℕ))) (faults : F → ℕ)
    (fault : WorldValue F → Option LinkFault) (downs : WorldValue F → ℕ) (meeting : Meeting) (old new : WorldValue F) (desk desk_after : FolderTold)
    (report : Report) (answer : Result (Vec DbReport) Stop) → old.log ≡ no_log → IsLog new.log new.answered → (log_in report).issued ≡ new.log.issued
    → EndsOver contents moments paths faults fault downs meeting old new desk desk_after answer → IsErr (seat_of meeting)
    → IsPrefix (log_in report).issued (text reading_user ∷ [])
unseated-prefix contents moments paths faults fault downs meeting old new desk desk_after report answer silent is same ends unseated =
    let why = the_error (seat_of meeting) unseated in
    subst (λ (l : List (List ℕ)). IsPrefix l (text reading_user ∷ [])) (sym same) (issued_begins old new (text reading_user ∷ []) silent is
    ((ends.unseated why.0 why.1).0).only)
  where
    the_error : (seat : Result UserInfo SessionFault) → IsErr seat → (why : SessionFault) × (seat ≡ Err why)
    the_error (Ok user) unseated = absurd (let never : ⊥ = cc in never)
    the_error (Err why) unseated = (why, refl)

pub session_left : {F : Type 0} (contents : F → Option FileMap) (moments : F → Moments) (paths : F → Option (List (List ℕ))) (faults : F → ℕ)
    (fault : WorldValue F → Option LinkFault) (downs : WorldValue F → ℕ) {meeting : Meeting} (old new : WorldValue F) {palm_after : FolderTold}
    (desk desk_after : FolderTold) (report : Report) (answer : Result (Vec DbReport) Stop)
    → IsSoundMeeting meeting → old.server.device ≡ meeting.device → Tells old new palm_after report → report.end ≡ left_end answer
    → report.databases.items ≡ left_databases answer → EndsOver contents moments paths faults fault downs meeting old new desk desk_after answer
    → SessionLeft meeting palm_after desk desk_after report
session_left contents moments paths faults fault downs {meeting} old new desk desk_after report (Ok made) sound device tells end databases ends =
    grind (
      arith,
      logged_all tells.silent tells.is_log (ends.ended).does,
      limit-prefix contents moments paths faults fault downs meeting old new desk desk_after (Ok made) tells.silent tells.is_log ends,
      loss-prefix contents moments paths faults fault downs meeting old new desk desk_after (Ok made) tells.silent tells.is_log ends,
      text-session meeting (ends.ended).given,
      parts-are meeting (ends.ended).given,
      length-append (map text (before_commit meeting (ends.ended).given)) (map text (after_commit meeting)),
      no-limit meeting (ends.ended).given new.log.issued (first_over meeting),
      whole-prefix (log_in report).issued (requests meeting),
      unseated-prefix contents moments paths faults fault downs meeting old new desk desk_after report (Ok made) tells.silent tells.is_log,
      ended_left (ends.ended).given desk_after sound device tells,
      stood_or_merged meeting (ends.ended).given desk.contents desk.moments desk_after.moments (ends.ended).moments,
    )
session_left contents moments paths faults fault downs {meeting} old new desk desk_after report (Err why) sound device tells end databases ends =
    let over = limit-prefix contents moments paths faults fault downs meeting old new desk desk_after (Err why) tells.silent tells.is_log ends in
    let losing = loss-prefix contents moments paths faults fault downs meeting old new desk desk_after (Err why) tells.silent tells.is_log ends in
    let same : (log_in report).issued ≡ new.log.issued = ap (λ (l : LogValue). l.issued) tells.said in
    elim ends.stopped [
      | inl b ↦
          let prefix = issued_begins old new (requests_before_commit meeting) tells.silent tells.is_log b.stops.only in
          record {
            sound = sound;
            issued = subst (λ (l : List (List ℕ)). IsPrefix l (requests meeting)) (sym same)
                (subst (λ (l : List (List ℕ)). IsPrefix new.log.issued l) (parts-are meeting (replicate (adds_of meeting) 0))
                (prefix-more (map text (after_commit meeting)) prefix));
            over = λ some. subst (λ (l : List (List ℕ)). IsPrefix l (map text (before_writes meeting))) (sym same) (over some);
            losing = λ some. subst (λ (l : List (List ℕ)). IsPrefix l (map text (before_writes meeting))) (sym same) (losing some);
            unseated = unseated-prefix contents moments paths faults fault downs meeting old new desk desk_after report
                (Err why) tells.silent tells.is_log same ends;
            ended = λ is. cc;
            stopped = λ is. inl (before_left meeting new desk desk_after tells prefix b.stands);
            given = b.given;
            moments = stood_or_merged meeting b.given desk.contents desk.moments desk_after.moments b.moments;
          }
      | inr b ↦
          let began = began_with (map text (after_commit meeting)) old new tells.silent tells.is_log b.does b.rest.later b.rest.only b.rest.kept in
          let performed = prefix-length (performed-prefix tells.is_log (whole-prefix new.log.issued new.log.issued refl)) in
          let split = ap length began.performed_are ∙ length-append (map text (before_commit meeting b.given)) began.rest in
          let none = no-limit meeting b.given new.log.issued (first_over meeting) (omega (arith, performed, split)) over in
          record {
            sound = sound;
            issued = subst (λ (l : List (List ℕ)). IsPrefix l (requests meeting)) (sym same)
                (subst (λ (l : List (List ℕ)). IsPrefix new.log.issued l) (parts-are meeting b.given) began.issued_begins);
            over = λ some. subst (λ (l : List (List ℕ)). IsPrefix l (map text (before_writes meeting))) (sym same) (over some);
            losing = λ some. subst (λ (l : List (List ℕ)). IsPrefix l (map text (before_writes meeting))) (sym same) (losing some);
            unseated = unseated-prefix contents moments paths faults fault downs meeting old new desk desk_after report
                (Err why) tells.silent tells.is_log same ends;
            ended = λ is. cc;
            stopped = λ is. inr (behind_left b.given old new desk_after sound device tells none b.count b.free began b.stands);
            given = b.given;
            moments = stood_or_merged meeting b.given desk.contents desk.moments desk_after.moments b.moments;
          }
    ]
