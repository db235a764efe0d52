-- The calls of a session, one behind another, say what its meeting says.
use Rattle.std.proofs.Common.{◌≡◌, ◌∙◌, refl, sym, ap, subst, ℕ, List, [], ◌∷◌, ◌++◌, map, length, append_assoc, Option, IfSome, Result, Ok, flat_map}
use Rattle.std.proofs.lemmas.List.{map-append}
use Rattle.pdb_values.specs.declared.user.Marks.{Marks}
use Rattle.pdb_values.specs.declared.user.UserInfo.{UserInfo}
use Rattle.palm_device.specs.Devices.{Device}
use Rattle.session_parts.proofs.LinkWords.{LinkFault, Talk, Ended, Halted, SessionFault, Act, text, link_ended, ending, marking, saying, SessionValue, Does}
use Rattle.session_parts.proofs.LinkWords.{Stops, device_after}
use Rattle.conduit_rules.specs.declared.view.View.{View}
use Rattle.sync_session.proofs.MeetingWords.{ShelvesValue, Job, Planned, gained, news_under, ArePlannedFor, IsAtRest, adds_of, after_commit, before_commit}
use Rattle.sync_session.proofs.MeetingWords.{before_writes, greeting, listing_all, session, active, SpansBehind, SpansEach, each_acts, Meeting, slot_of, tasks}
use Rattle.desktop_session.specs.declared.seat.UserWish.{UserWish}
use Rattle.desktop_session.proofs.SaysLaws.{saying_then}
use Rattle.desktop_session.proofs.StopLaws.{does_then, stops_more, stops_then}
use Rattle.session_parts.specs.declared.meeting.Met.{Met}
use Rattle.sync_session.specs.Endings.{Ends}
use Rattle.sync_session.specs.Given.{AreDealtTo}
use Rattle.session_parts.specs.Given.{GetFreeIds}
use Rattle.session_parts.specs.Meets.{Meets, link_met}
use Rattle.sync_session.specs.News.{all_news, purge_acts}
use Rattle.sync_session.specs.Readings.{reads_under}
use Rattle.sync_session.specs.Reads.{read_acts}
use Rattle.session_plan.specs.Users as users
use Rattle.sync_session.specs.Sessions.{begin_mark, end_mark}
use Rattle.session_parts.proofs.CloseLaws.{TellsClosed, closed_on, keeps_closed, marking_keeps}
use Rattle.sync_session.proofs.FreeLaws.{NoId, free-append, none_free, purge_acts-none, writes-none}
use Rattle.sync_session.proofs.MeetJoins.{meeting_leaves, meets_join, meets_lead}
use Rattle.sync_session.proofs.NewsJoins.{news_join, news_lead, purge_join}
use Rattle.sync_session.proofs.ReadJoins.{IsSeen, jobs_for, reads_join, reads_lead, reads_leave, shows_under}
use Rattle.session_parts.proofs.RestLaws.{all-flat_map}
use Rattle.session_parts.proofs.StretchLaws.{Leads, Pairs, Tells, tells_on}
use Rattle.desktop_session.proofs.ListLaws.{after_append}
use Rattle.desk_journal.proofs.StepLaws.{all-append}

-- ---- what was done so far

-- these acts went out and were answered, and nothing else went out
pub record Reached {L : Type 0} (talk : L → Option Talk) (since : L → L → Type 0) (fault : L → Option LinkFault) (downs : L → ℕ) (acts : List Act)
    (old new : L) : Type 0 where
  pub does : Does talk acts old new
  pub stops : Stops talk since fault downs (map text acts) old new

-- nothing is written, and then the rest up to the commit
writes_lead : (meeting : Meeting) (given : List ℕ) → Leads (before_writes meeting) (before_commit meeting given)
unfolding before_commit
writes_lead meeting given = record { rest = begin_mark meeting ∷ all_news meeting (active meeting) given; is = refl }

lists_lead : (meeting : Meeting) → Leads (greeting ++ listing_all meeting) (before_writes meeting)
unfolding before_writes
lists_lead meeting = record {
  rest = flat_map (read_acts meeting) (active meeting);
  is = append_assoc greeting (listing_all meeting) (flat_map (read_acts meeting) (active meeting));
}

-- the databases are read, and are seen as they are
pub record ReadsReach {L : Type 0} (talk : L → Option Talk) (since : L → L → Type 0) (fault : L → Option LinkFault) (downs : L → ℕ) (meeting : Meeting)
    (views : List View) (old new : L) : Type 0 where
  pub reached : Reached talk since fault downs (before_writes meeting) old new
  pub tells : Tells meeting.device (talk new)
  pub seen : Pairs (IsSeen meeting) (tasks meeting) views

-- the mark that begins them leaves nothing open
begun_tells : (meeting : Meeting) (told : Option Talk) → IsAtRest meeting.device → Tells meeting.device told
    → TellsClosed (saying (begin_mark meeting ∷ []) told)
begun_tells meeting told rests tells =
    closed_on (begin_mark meeting ∷ []) told
    (record { talk = tells.talk; is = tells.is; closed = ap (λ (d : Device). d.handles) tells.same ∙ rests.closed })
    (keeps_closed (begin_mark meeting) (marking_keeps (users.begun_user meeting.device.user) 0x40))

-- what is read leaves the handheld as it was
pub writes_leave : (meeting : Meeting) → IsAtRest meeting.device → device_after (before_writes meeting) meeting.device ≡ meeting.device
unfolding before_writes
writes_leave meeting rests =
    let reading : List Act = flat_map (read_acts meeting) (active meeting) in
    ap (λ zs. device_after zs meeting.device) (sym (append_assoc greeting (listing_all meeting) reading))
    ∙ after_append (greeting ++ listing_all meeting) reading meeting.device ∙ ap (device_after reading) (meeting_leaves meeting)
    ∙ reads_leave meeting rests

-- each new record got an id that was free at its turn
commit_free : (meeting : Meeting) (told : Option Talk) (acts : List Act) → Tells meeting.device told
    → IfSome (saying (begin_mark meeting ∷ []) told) (λ talk. GetFreeIds acts talk.device)
    → GetFreeIds (begin_mark meeting ∷ acts) meeting.device
unfolding saying
commit_free meeting told acts tells free = (tt, rw (tells.is, tells.same) at free)

-- what precedes the desktop's commit was done, where the new records got these ids, and nothing is open
pub record NewsReach {L : Type 0} (talk : L → Option Talk) (since : L → L → Type 0) (fault : L → Option LinkFault) (downs : L → ℕ) (meeting : Meeting)
    (given : List ℕ) (each_given : List (List ℕ)) (old new : L) : Type 0 where
  pub reached : Reached talk since fault downs (before_commit meeting given) old new
  pub closed : TellsClosed (talk new)
  pub free : GetFreeIds (before_commit meeting given) meeting.device
  pub count : length given ≡ adds_of meeting
  pub dealt : AreDealtTo meeting (tasks meeting) each_given

-- the ids of the whole
pub session_free : (meeting : Meeting) (given : List ℕ) → GetFreeIds (before_commit meeting given) meeting.device
    → GetFreeIds (session meeting given) meeting.device
unfolding session after_commit
session_free meeting given free =
    let purges : List Act = flat_map (purge_acts meeting) (active meeting) in
    let last : List Act = end_mark meeting ∷ ending ∷ [] in
    let device : Device = device_after (before_commit meeting given) meeting.device in
    free-append (before_commit meeting given) (purges ++ last) meeting.device free
    (none_free (purges ++ last) device (all-append NoId purges last (all-flat_map NoId (purge_acts meeting) (active meeting)
    (λ task. purge_acts-none meeting task))
    (record { is = refl }, (record { is = refl }, tt))))

module _ {L : Type 0} {talk : L → Option Talk} {since : L → L → Type 0} {fault : L → Option LinkFault} {downs : L → ℕ} where
  -- what leads to more
  stops_lead : {first all : List Act} {a b : L} → Leads first all → Stops talk since fault downs (map text first) a b
      → Stops talk since fault downs (map text all) a b
  stops_lead {first} {all} {a} {b} leads stops =
      rw (← leads.is, map-append text first leads.rest) (stops_more talk since fault downs (map text first) (map text leads.rest) a b stops)

  pub writes_stop : (meeting : Meeting) (given : List ℕ) {a b : L} → Stops talk since fault downs (map text (before_writes meeting)) a b
      → Stops talk since fault downs (map text (before_commit meeting given)) a b
  writes_stop meeting given stops = stops_lead (writes_lead meeting given) stops

  -- ---- both sides meet

  module _ {marks : List Marks} {wish : UserWish} {old : L} (meeting : Meeting) (rests : IsAtRest meeting.device) (tells : Tells meeting.device (talk old)) where
    -- they met
    pub met_reaches : {met : Met L} → Meets talk since fault downs marks wish old (Ok met)
        → Reached talk since fault downs (greeting ++ listing_all meeting) old met.linked.link
    met_reaches meets = rw (← (meets_join meeting rests tells meets).acts) (record { does = meets.does; stops = meets.stops })

    -- they met, or not
    pub meets_stop : {answer : Result (Met L) (Halted L)} → Meets talk since fault downs marks wish old answer
        → Stops talk since fault downs (map text (before_writes meeting)) old (link_met answer)
    meets_stop meets = stops_lead (lists_lead meeting) (stops_lead (meets_lead meeting rests tells meets) meets.stops)

  -- ---- all is read

  -- what is told where both sides met
  met_tells : (meeting : Meeting) {old now : L} → Tells meeting.device (talk old)
      → Reached talk since fault downs (greeting ++ listing_all meeting) old now → Tells meeting.device (talk now)
  met_tells meeting {old} tells met =
      rw met.does.said (tells_on meeting.device meeting.device (greeting ++ listing_all meeting) (talk old) tells (meeting_leaves meeting))

  module _ (since_more : (a b c : L) → since a b → since b c → since a c) where
    reached_then : {xs ys all : List Act} {a b c : L} → Reached talk since fault downs xs a b → Does talk ys b c
        → Stops talk since fault downs (map text ys) b c → xs ++ ys ≡ all → Reached talk since fault downs all a c
    reached_then {xs} {ys} {a} {b} {c} first does stops is = rw (← is) (record {
      does = does_then talk xs ys a b c first.does does;
      stops = rw (map-append text xs ys) (stops_then talk since fault downs since_more xs (map text ys) a b c first.does first.stops stops);
    })

    -- and then a beginning of these
    stopped_then : {xs : List Act} {some : List (List ℕ)} (more : List (List ℕ)) {all : List (List ℕ)} {a b c : L}
        → Reached talk since fault downs xs a b → Stops talk since fault downs some b c → (map text xs ++ some) ++ more ≡ all
        → Stops talk since fault downs all a c
    stopped_then {xs} {some} more {a} {b} {c} first stops is =
        rw (← is) (stops_more talk since fault downs (map text xs ++ some) more a c
        (stops_then talk since fault downs since_more xs some a b c first.does first.stops stops))

    module _ {B : Type 0} (meeting : Meeting) (rests : IsAtRest meeting.device) {shelves : ShelvesValue} {jobs : List Job} {each : B → List View} {old : L}
        {now new : SessionValue L} (tells : Tells meeting.device (talk old)) (own : shelves ≡ (slot_of meeting).shelves) (are : jobs ≡ jobs_for meeting)
        (met : Reached talk since fault downs (greeting ++ listing_all meeting) old now.link) where
      pub reads_reach : {views : B} → SpansEach talk since fault downs (reads_under shelves) (shows_under shelves) jobs each now new (Ok views)
          → ReadsReach talk since fault downs meeting (each views) old new.link
      unfolding before_writes
      reads_reach {views} spans =
          let here = rw (own, are) at spans in
          let joined = reads_join meeting rests (talk now.link) here.stretches (met_tells meeting tells met) here.firsts (each views) here.said in
          let does = rw joined.acts at here.does in
          record {
            reached = reached_then met does (rw joined.acts at here.stops)
                (append_assoc greeting (listing_all meeting) (flat_map (read_acts meeting) (active meeting)));
            tells = rw does.said joined.tells;
            seen = joined.seen;
          }

      -- they are read, or the reading stopped
      pub reads_stop : {answer : Result B SessionFault}
          → SpansEach talk since fault downs (reads_under shelves) (shows_under shelves) jobs each now new answer
          → Stops talk since fault downs (map text (before_writes meeting)) old new.link
      unfolding before_writes
      reads_stop spans =
          let here = rw (own, are) at spans in
          let some : List Act = each_acts (reads_under (slot_of meeting).shelves) (talk now.link) (jobs_for meeting) here.stretches in
          let leads = reads_lead meeting rests (talk now.link) here.stretches (met_tells meeting tells met) here.firsts in
          let first : List Act = greeting ++ listing_all meeting in
          let reading : List Act = flat_map (read_acts meeting) (active meeting) in
          stopped_then (map text leads.rest) met here.stops
          (append_assoc (map text first) (map text some) (map text leads.rest)
          ∙ ap (λ ts. map text first ++ ts) (sym (map-append text some leads.rest) ∙ ap (map text) leads.is) ∙ sym (map-append text first reading)
          ∙ ap (map text) (append_assoc greeting (listing_all meeting) reading))

    -- ---- the news are sent

    module _ {B V : Type 0} (meeting : Meeting) (rests : IsAtRest meeting.device) {user : UserInfo} {shelves : ShelvesValue} {planned : List Planned}
        (items : V → List ℕ) (own : shelves ≡ (slot_of meeting).shelves) {each : B → List V} {old : L} {now new : SessionValue L} (known : user ≡ meeting.device.user) (are : ArePlannedFor meeting planned)
        (read : Reached talk since fault downs (before_writes meeting) old now.link) (tells : Tells meeting.device (talk now.link)) where
      pub news_reach : {ids : B} → SpansBehind talk since fault downs (marking (users.begun_user user) 0x40)
          (news_under shelves) (λ told one handle given got. gained shelves told one handle given (items got)) planned each now new (Ok ids)
          → NewsReach talk since fault downs meeting (flat_map items (each ids)) (map items (each ids)) old new.link
      unfolding before_commit adds_of active
      news_reach {ids} spans =
          let here = rw (own, ap (λ u. marking (users.begun_user u) 0x40) known) at spans in
          let told : Option Talk = saying (begin_mark meeting ∷ []) (talk now.link) in
          let given : List ℕ = flat_map items (each ids) in
          let news : List Act = each_acts (news_under (slot_of meeting).shelves) told planned here.stretches in
          let joined = news_join items meeting told planned here.stretches (each ids) are (begun_tells meeting (talk now.link) rests tells) here.firsts
          here.said in
          let first : List Act = before_writes meeting in
          let is : first ++ begin_mark meeting ∷ news ≡ first ++ begin_mark meeting ∷ all_news meeting (active meeting) given
          = ap (λ zs. first ++ begin_mark meeting ∷ zs) joined.acts in
          record {
            reached = reached_then read here.does here.stops is;
            closed = subst TellsClosed (saying_then (begin_mark meeting ∷ []) news (talk now.link) ∙ sym here.does.said) joined.closed;
            free = subst (λ zs. GetFreeIds zs meeting.device) is
                (free-append first (begin_mark meeting ∷ news) meeting.device (none_free first meeting.device (writes-none meeting))
                (subst (GetFreeIds (begin_mark meeting ∷ news)) (sym (writes_leave meeting rests))
                (commit_free meeting (talk now.link) news tells joined.free)));
            count = joined.count;
            dealt = joined.dealt;
          }

      -- they are sent, or the sending stopped
      pub news_stop : (given : List ℕ) {answer : Result B SessionFault} → SpansBehind talk since fault downs (marking (users.begun_user user) 0x40)
          (news_under shelves) (λ told one handle given got. gained shelves told one handle given (items got)) planned each now new answer
          → Stops talk since fault downs (map text (before_commit meeting given)) old new.link
      unfolding before_commit
      news_stop given spans =
          let here = rw (own, ap (λ u. marking (users.begun_user u) 0x40) known) at spans in
          let told : Option Talk = saying (begin_mark meeting ∷ []) (talk now.link) in
          let news : List Act = each_acts (news_under (slot_of meeting).shelves) told planned here.stretches in
          let leads = news_lead meeting told planned here.stretches given are (begun_tells meeting (talk now.link) rests tells) here.firsts in
          let first : List Act = before_writes meeting in
          let all : List Act = begin_mark meeting ∷ all_news meeting (active meeting) given in
          stopped_then leads.rest read here.stops
          (append_assoc (map text first) (text (begin_mark meeting) ∷ map text news) leads.rest
          ∙ ap (λ ts. map text first ++ text (begin_mark meeting) ∷ ts) leads.is ∙ sym (map-append text first all))

  -- ---- the end

  module _ (meeting : Meeting) {user : UserInfo} {done : Marks} {planned : List Planned} {given : List ℕ} {dealt : List (List ℕ)} {old : L}
      {between : SessionValue L} (known : user ≡ meeting.device.user) (ends_so : done ≡ users.done_of meeting)
      (are : ArePlannedFor meeting planned) (news : NewsReach talk since fault downs meeting given dealt old between.link) where
    ends_known : {answer : Result (Ended L) (Halted L)}
        → Ends talk since fault downs planned (marking (users.done_user user done) 0xF0 ∷ ending ∷ []) between answer
        → Ends talk since fault downs planned (end_mark meeting ∷ ending ∷ []) between answer
    ends_known {answer} ends =
        let same : marking (users.done_user user done) 0xF0 ≡ end_mark meeting
        = ap (λ u. marking (users.done_user u done) 0xF0) known ∙ ap (λ d. marking (users.done_user meeting.device.user d) 0xF0) ends_so in
        subst (λ (last : Act). Ends talk since fault downs planned (last ∷ ending ∷ []) between answer) same ends

    pub end_reach : (since_more : (a b c : L) → since a b → since b c → since a c) {ended : Ended L}
        → Ends talk since fault downs planned (marking (users.done_user user done) 0xF0 ∷ ending ∷ []) between (Ok ended)
        → Reached talk since fault downs (session meeting given) old ended.link
    unfolding session after_commit
    end_reach since_more ends =
        let here = ends_known ends in
        let joined = purge_join meeting (talk between.link) planned here.stretches are news.closed here.firsts here.all in
        reached_then since_more news.reached (rw joined.acts at here.does) (rw joined.acts at here.stops) refl

    -- it ended, or stopped
    pub end_stop : {answer : Result (Ended L) (Halted L)}
        → Ends talk since fault downs planned (marking (users.done_user user done) 0xF0 ∷ ending ∷ []) between answer
        → Stops talk since fault downs (map text (after_commit meeting)) between.link (link_ended answer)
    unfolding after_commit
    end_stop ends =
        let here = ends_known ends in
        rw (← (purge_join meeting (talk between.link) planned here.stretches are news.closed here.firsts here.all).acts) here.stops
