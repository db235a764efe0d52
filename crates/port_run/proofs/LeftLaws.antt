-- What a session left of both sides, from what its call answered over a link that told its handheld.
use Rattle.std.proofs.Common.{◌≡◌, ◌⊎◌, ◌≤◌, ◌+◌, ℕ, List, [], ◌∷◌, ◌++◌, length, map, inl, inr, refl, sym, ap, subst, ◌∙◌, arith, append-nil}
use Rattle.std.specs.Prelude.{Option, Some, None, IsErr, Result, Ok, Err, filter, replicate}
use Rattle.std.specs.Global.{Vec}
use Rattle.std.specs.List.{AllByRecursion, flat_map}
use Rattle.pdb_values.specs.declared.user.UserInfo.{UserInfo}
use Rattle.palm_device.specs.Devices.{Device}
use Rattle.dlp_commands.specs.Changes.{changes, given_in}
use Rattle.dlp_commands.specs.DeviceRuns.{Exchange, exchanged}
use Rattle.dlp_commands.specs.Talks.{Talk, fresh, issued}
use Rattle.dlp_commands.specs.declared.link.LinkFault.{LinkFault}
use Rattle.dlp_commands.proofs.StepLaws.{given-append}
use Rattle.desk_journal.specs.Overlays.{FinishesAs}
use Rattle.desk_store.specs.Desks.{IsDesk}
use Rattle.desktop_session.specs.Acts.{Act, text}
use Rattle.desktop_session.specs.Requests.{reading_user}
use Rattle.desktop_session.specs.Says.{IsPrefix, said}
use Rattle.desktop_session.specs.Tellings.{exchanges}
use Rattle.desktop_session.specs.declared.fault.SessionFault.{SessionFault}
use Rattle.device_stream.specs.Hands.{Hand}
use Rattle.session_parts.specs.Given.{GetFreeIds}
use Rattle.session_parts.specs.declared.report.DbReport.{DbReport}
use Rattle.session_parts.specs.declared.stop.Stop.{Stop}
use Rattle.session_plan.specs.Limits.{first_over}
use Rattle.session_plan.specs.Merges.{merged_device, merged_slots}
use Rattle.session_plan.specs.Reports.{reports}
use Rattle.session_plan.specs.Tasks.{Meeting}
use Rattle.sync_session.proofs.IdsLaws.{text-session}
use Rattle.sync_session.specs.Outcomes.{IsCommitted, IsUncommitted, MergedSince, SessionEnds, StandsForSlots, Tellings, requests_before_commit, seat_of}
use Rattle.sync_session.specs.Sessions.{adds_of, after_commit, before_commit, before_writes, requests, session, writes_before_commit}
use Rattle.front_laws.specs.Sound.{IsSoundMeeting}
use Rattle.front_laws.proofs.FrontLaws.{after-none, commit-ids, commit-told, session-ids, session-told}
use Rattle.front_laws.proofs.MergeActs.{merged}
use Rattle.call_parts.specs.Closings.{left_databases, left_end}
use Rattle.call_parts.specs.LineRuns.{write_count}
use Rattle.call_parts.specs.Told.{FolderTold}
use Rattle.call_parts.specs.declared.report.SessionEnd.TheVariants.{Ended, Stopped}
use Rattle.call_parts.proofs.EndLaws.{count-append, none-front, none-given, prefix-count}
use Rattle.front_laws.proofs.RequestLaws.{no-limit, parts-are, prefix-length, writes-before, stood_or_merged}
use Rattle.port_link.specs.Calls.{LinkValue, Since}
use Rattle.port_link.specs.Standing.{exchanges_of, talk_of}
use Rattle.port_link.specs.Hands.{HandRan}
use Rattle.port_run.specs.Ends.{EndedSession, IssuedFor, SessionLeft, StoppedBefore, StoppedBehind, given_by}
use Rattle.port_run.specs.declared.synced.CableReport.{CableReport}
use Rattle.port_run.proofs.TalkedLaws.{ToldAll, all-exchanged, all-performed, begins-behind, begins-fresh, front_of, performed-begins, prefix-same, said_over, told_all}
use Rattle.call_parts.proofs.EndLaws.{prefix-on}

abbrev ids_by : List Exchange → List ℕ
ids_by exchanges = flat_map (λ (exchange : Exchange). given_in exchange.request exchange.reply) exchanges

-- what a folder told before a session and tells after it
abbrev pub tellings_of : FolderTold → FolderTold → Tellings
tellings_of desk desk_after =
    record { before = desk.contents; after = desk_after.contents; moments_before = desk.moments; moments_after = desk_after.moments }

-- ---- it ended

ended_left : {meeting : Meeting} (given : List ℕ) {talk : Talk} {hand : Hand} (desk_after : FolderTold) {report : CableReport}
    → IsSoundMeeting meeting → HandRan meeting.device talk hand → first_over meeting ≡ None → length given ≡ adds_of meeting
    → GetFreeIds (session meeting given) meeting.device → ToldAll (session meeting given) meeting.device talk
    → IsDesk desk_after.contents (merged_slots meeting given) → report.databases.items ≡ reports meeting
    → EndedSession meeting hand desk_after report
ended_left {meeting} given {talk} {hand} desk_after sound ran none count free told desk tells =
    let ids : given_by hand ≡ given = ap ids_by (all-exchanged ran told.none_left ∙ told.exchanges_are)
    ∙ session-told meeting given sound none free ∙ session-ids meeting given sound count in
    record {
      performed = all-performed ran told.none_left ∙ told.issued_are ∙ text-session meeting given;
      handheld = sym ran.device_is ∙ told.device_is ∙ merged meeting given sound none free ∙ ap (merged_device meeting) (sym ids);
      desktop = subst (λ (l : List ℕ). IsDesk desk_after.contents (merged_slots meeting l)) (sym ids) desk;
      databases = tells;
    }

-- ---- it stopped

before_left : {meeting : Meeting} {talk : Talk} {hand : Hand} (desk desk_after : FolderTold) → HandRan meeting.device talk hand
    → IsPrefix (issued talk) (requests_before_commit meeting) → FinishesAs desk.contents desk_after.contents
    → StoppedBefore meeting hand desk desk_after
unfolding write_count writes_before_commit
before_left desk desk_after ran prefix stands =
    record { stands = stands; writes = prefix-count (prefix-on (performed-begins ran) prefix) }

-- all of these acts were answered at some time, and then more was performed
pub record BeganWith (acts : List Act) (after : List (List ℕ)) (device : Device) (hand : Hand) : Type 0 where
  pub rest : List (List ℕ)
  pub replies : List (List ℕ)
  pub performed_are : hand.performed ≡ map text acts ++ rest
  pub rest_begins : IsPrefix rest after
  pub exchanges_are : exchanges_of hand ≡ exchanges acts device ++ exchanged rest replies

behind_left : {meeting : Meeting} (given : List ℕ) {hand : Hand} (desk_after : FolderTold) → IsSoundMeeting meeting → first_over meeting ≡ None
    → length given ≡ adds_of meeting → GetFreeIds (before_commit meeting given) meeting.device
    → BeganWith (before_commit meeting given) (map text (after_commit meeting)) meeting.device hand
    → StandsForSlots (merged_slots meeting given) desk_after.contents → StoppedBehind meeting hand desk_after
unfolding write_count
behind_left {meeting} given {hand} desk_after sound none count free began stands =
    let acts = before_commit meeting given in
    let own = exchanges acts meeting.device in
    let later = exchanged began.rest began.replies in
    let silent : ids_by later ≡ [] = none-given began.rest began.replies (none-front began.rest began.rest_begins.rest
    (subst (λ (l : List (List ℕ)). AllByRecursion (λ (request : List ℕ). (reply : List ℕ) → given_in request reply ≡ []) l)
    (sym began.rest_begins.is) (after-none meeting sound))) in
    let ids : given_by hand ≡ given = ap ids_by began.exchanges_are ∙ given-append own later ∙ ap (λ (l : List ℕ). ids_by own ++ l) silent
    ∙ append-nil (ids_by own) ∙ commit-told meeting given sound none free ∙ commit-ids meeting given sound count in
    let sum : length (filter changes hand.performed) ≡ length (filter changes (map text acts)) + length (filter changes began.rest) =
    ap (λ (l : List (List ℕ)). length (filter changes l)) began.performed_are ∙ count-append (map text acts) began.rest in
    let first = writes-before meeting given in
    record {
      stands = subst (λ (l : List ℕ). StandsForSlots (merged_slots meeting l) desk_after.contents) (sym ids) stands;
      writes = omega (arith, sum, first);
    }

-- ---- both

-- what a session's call answered of the sides of this meeting, over a link
abbrev pub EndsOver : (LinkValue → Option LinkFault) → (LinkValue → ℕ) → Meeting → LinkValue → LinkValue → FolderTold → FolderTold
    → Result (Vec DbReport) Stop → Type 0
EndsOver fault downs meeting old new desk desk_after answer =
    SessionEnds talk_of (λ (first last : LinkValue). Since first last) fault downs meeting old new (tellings_of desk desk_after) answer

-- a session of both sides over a link that told a fresh talk, and what is known of the handheld behind it
module _ (fault : LinkValue → Option LinkFault) (downs : LinkValue → ℕ) {meeting : Meeting} (old new : LinkValue) (talk : Talk) (hand : Hand)
    (desk desk_after : FolderTold) (report : CableReport) (was : talk_of old ≡ Some (fresh meeting.device)) (is : talk_of new ≡ Some talk)
    (sound : IsSoundMeeting meeting) (ran : HandRan meeting.device talk hand)
    (behind : (acts : List Act) (after : List (List ℕ)) (between : LinkValue) (told : Talk) → Since old between → Since between new
    → talk_of between ≡ Some told → ToldAll acts meeting.device told → IsPrefix hand.performed (map text acts ++ after)
    → BeganWith acts after meeting.device hand) where
  issued_for : (answer : Result (Vec DbReport) Stop) → EndsOver fault downs meeting old new desk desk_after answer → IsPrefix (issued talk) (requests meeting)
      → IssuedFor meeting talk
  issued_for answer ends begins = record {
    begins = begins;
    over = λ some. begins-fresh meeting.device talk old new (map text (before_writes meeting)) was is (ends.over some).only;
    losing = λ some. begins-fresh meeting.device talk old new (map text (before_writes meeting)) was is (ends.losing some).only;
    unseated = λ some.
        let why = the_error (seat_of meeting) some in
        begins-fresh meeting.device talk old new (text reading_user ∷ []) was is (ends.unseated why.0 why.1).0.only;
  } where
    the_error : (seat : Result UserInfo SessionFault) → IsErr seat → (why : SessionFault) × (seat ≡ Err why)
    the_error (Ok user) unseated = absurd (let never : ⊥ = cc in never)
    the_error (Err why) unseated = (why, refl)

  left-by : (given : List ℕ) → IssuedFor meeting talk → MergedSince meeting given desk.moments desk_after.moments
      → (report.end ≡ Ended → EndedSession meeting hand desk_after report)
      → (report.end ≡ Stopped → StoppedBefore meeting hand desk desk_after ⊎ StoppedBehind meeting hand desk_after)
      → SessionLeft meeting talk hand desk desk_after report
  left-by given went moments ended stopped = record {
    sound = sound;
    issued = went;
    ran = ran;
    front = front_of meeting ran went.begins;
    ended = ended;
    stopped = stopped;
    given = given;
    moments = stood_or_merged meeting given desk.contents desk.moments desk_after.moments moments;
  }

  left-ended : (made : Vec DbReport) → report.end ≡ left_end (Ok made) → report.databases.items ≡ left_databases (Ok made)
      → EndsOver fault downs meeting old new desk desk_after (Ok made) → SessionLeft meeting talk hand desk desk_after report
  left-ended made end databases ends =
      let it = ends.ended in
      let told = told_all meeting.device talk old new was is it.does in
      let all : issued talk ≡ requests meeting = told.issued_are ∙ text-session meeting it.given in
      let went = issued_for (Ok made) ends (prefix-same all) in
      let parts : length (map text (before_commit meeting it.given)) ≤ length (issued talk) =
      prefix-length (record { rest = map text (after_commit meeting); is = parts-are meeting it.given ∙ sym all }) in
      let none = no-limit meeting it.given (issued talk) (first_over meeting) parts went.over in
      left-by it.given went it.moments
      (λ e. ended_left it.given desk_after sound ran none it.count it.free told it.desk (databases ∙ it.told)) (λ e. let no : Stopped ≡ Ended = sym e ∙ end in absurd cc)

  left-before : (why : Stop) → report.end ≡ left_end (Err why) → EndsOver fault downs meeting old new desk desk_after (Err why)
      → IsUncommitted talk_of (λ (first last : LinkValue). Since first last) fault downs meeting old new (tellings_of desk desk_after)
      → SessionLeft meeting talk hand desk desk_after report
  left-before why end ends it =
      let prefix = begins-fresh meeting.device talk old new (requests_before_commit meeting) was is it.stops.only in
      let begins = prefix-on prefix (record { rest = map text (after_commit meeting); is = parts-are meeting (replicate (adds_of meeting) 0) }) in
      left-by it.given (issued_for (Err why) ends begins) it.moments (λ e. let no : Ended ≡ Stopped = sym e ∙ end in absurd cc)
      (λ e. inl (before_left desk desk_after ran prefix it.stands))

  left-behind : (why : Stop) → report.end ≡ left_end (Err why) → EndsOver fault downs meeting old new desk desk_after (Err why)
      → IsCommitted talk_of (λ (first last : LinkValue). Since first last) fault downs meeting old new (tellings_of desk desk_after)
      → SessionLeft meeting talk hand desk desk_after report
  left-behind why end ends it =
      let acts = before_commit meeting it.given in
      let after = map text (after_commit meeting) in
      let first = said acts (fresh meeting.device) in
      let told = said_over meeting.device old it.between was it.does in
      let all = told_all meeting.device first old it.between was told it.does in
      let begins = begins-behind first talk it.between new (map text acts) after told all.issued_are is it.rest.only in
      let began = behind acts after it.between first it.stops.later it.rest.later told all (prefix-on (performed-begins ran) begins) in
      let went = issued_for (Err why) ends (subst (λ (l : List (List ℕ)). IsPrefix (issued talk) l) (parts-are meeting it.given) begins) in
      let parts : length (map text acts) ≤ length (issued talk) =
      prefix-length (prefix-on (record { rest = began.rest; is = sym began.performed_are }) (performed-begins ran)) in
      let none = no-limit meeting it.given (issued talk) (first_over meeting) parts went.over in
      left-by it.given went it.moments (λ e. let no : Ended ≡ Stopped = sym e ∙ end in absurd cc)
      (λ e. inr (behind_left it.given desk_after sound none it.count it.free began it.stands))

  pub session_left : (answer : Result (Vec DbReport) Stop) → report.end ≡ left_end answer → report.databases.items ≡ left_databases answer
      → EndsOver fault downs meeting old new desk desk_after answer → SessionLeft meeting talk hand desk desk_after report
  session_left (Ok made) end databases ends = left-ended made end databases ends
  session_left (Err why) end databases ends = elim ends.stopped [ inl it ↦ left-before why end ends it | inr it ↦ left-behind why end ends it ]
