-- A whole session makes the merged handheld.
use Rattle.std.proofs.Common.{arith, ◌≡◌, ◌∙◌, ◌≤◌, ◌==◌, refl, ap, subst, ℕ, Bool, true, false, List, [], ◌∷◌, ◌++◌, length, drop, if◌then◌else◌}
use Rattle.std.specs.Prelude.{None, flat_map, max}
use Rattle.std.specs.List.{AllByRecursion, list_any}
use Rattle.pdb_values.specs.Databases.{DatabaseValue}
use Rattle.pdb_values.specs.declared.user.UserInfo.{UserInfo}
use Rattle.palm_device.specs.Devices.{Device}
use Rattle.dlp_commands.specs.DeviceSteps.{tried}
use Rattle.conduit_rules.specs.States.{SideState}
use Rattle.conduit_rules.specs.Views.{fast_view, slow_view, view_held}
use Rattle.record_merge.specs.Merging.{merged_records}
use Rattle.record_merge.specs.Writes.{GotFreeIds, after, whole}
use Rattle.record_merge.proofs.ShownLaws.{after-all_fast, after-all_slow}
use Rattle.desktop_session.specs.Acts.{Act, acted}
use Rattle.desktop_session.specs.Orders.{IsMark}
use Rattle.desktop_session.specs.Requests.{ending}
use Rattle.desktop_session.specs.Tellings.{device_after}
use Rattle.desktop_session.proofs.ChangeRows.{marked_does}
use Rattle.session_plan.specs.Choosing.{base_rows, choice, is_fast, seen_held, sides, view, add_count}
use Rattle.session_plan.specs.Limits.{first_over}
use Rattle.session_plan.specs.Merges.{merged_databases, merged_device}
use Rattle.sync_session.specs.News.{all_news, purge_acts}
use Rattle.sync_session.specs.Reads.{read_acts}
use Rattle.sync_session.specs.Sessions.{after_commit, before_commit, before_writes, listing_all, session, begin_mark, end_mark}
use Rattle.session_plan.specs.Skips.{active}
use Rattle.session_plan.specs.Tasks.{Meeting, Task, records_of, slot_of}
use Rattle.session_plan.specs.Users.{begun_user, done_of, done_user, is_named_first, slots_user_stays}
use Rattle.front_laws.specs.Given.{GetFreeIds}
use Rattle.front_laws.specs.Sound.{IsSoundMeeting}
use Rattle.front_laws.proofs.EachLaws.{changed-each, others-each, put_each, rise-each, same-each}
use Rattle.front_laws.proofs.OpenActs.{all_closed, begin_same, lists_same, user_same}
use Rattle.front_laws.proofs.PhaseActs.{AreAhead, AreDealt, MakeMerge, all-keep, all-merged, news-keep, news_all, purges_all, reads_all, with_all}
use Rattle.front_laws.proofs.PutActs.{free-append, free-front}
use Rattle.front_laws.proofs.ReadyLaws.{AreSound, IsKept, are-kept, handheld-sound, have-names, ready-all, show-all, stand-all}
use Rattle.front_laws.proofs.TaskActs.{AreGiven, with_news}
use Rattle.desktop_session.proofs.ListLaws.{after_append}

-- ---- before the first write

abbrev IsName : List ℕ → Type 0
IsName name = (length name ≤ 40) × (list_any (λ byte. byte == 0) name ≡ false)

module _ {m : Meeting} (sound : IsSoundMeeting m) where
  pub closed_device : m.device ≡ all_closed m.device.databases m.device.user
  closed_device = grind arith

  pub before-same : device_after (before_writes m) m.device ≡ m.device
  unfolding before_writes listing_all
  before-same =
      grind (
        arith,
        closed_device,
        user_same m.device,
        begin_same m.device,
        after_append (listing_all m) (flat_map (read_acts m) (active m)) m.device,
        lists_same m.device (max 1 (length m.device.databases)),
        reads_all m (active m) m.device.databases m.device.user (ready-all sound) (stand-all m),
      )

  -- ---- the marks

  pub begin_is : IsMark (begun_user m.device.user)
  begin_is = grind arith

  pub begun : (databases : List DatabaseValue)
      → (acted (begin_mark m) (all_closed databases m.device.user)).1 ≡ all_closed databases (begun_user m.device.user)
  begun databases = marked_does (all_closed databases m.device.user) (begun_user m.device.user) 0x40 begin_is

  pub name_of_both : (length (done_of m).name ≤ 40) × (list_any (λ byte. byte == 0) (done_of m).name ≡ false)
  name_of_both = by (is_named_first m.wishes.user.name m.device.user (slot_of m).marks) (slots_user_stays m.device.user (slot_of m).marks)
    where
      by : (first stays : Bool)
          → IsName (if first then m.wishes.user.name else if stays then (slot_of m).marks.name else m.device.user.name)
      by true stays = (sound.asked.short, sound.asked.no_zero)
      by false true = (sound.slot.short, sound.slot.no_zero)
      by false false = (sound.device.bounded.user.short, sound.device.bounded.user.no_zero)

  pub end_is : IsMark (done_user m.device.user (done_of m))
  end_is = grind (arith, name_of_both)

  pub done : (databases : List DatabaseValue)
      → (acted (end_mark m) (all_closed databases (begun_user m.device.user))).1 ≡ all_closed databases
      (done_user m.device.user (done_of m))
  done databases =
      marked_does (all_closed databases (begun_user m.device.user)) (done_user m.device.user (done_of m)) 0xF0 end_is

pub ended : (databases : List DatabaseValue) (user : UserInfo) → (acted ending (all_closed databases user)).1 ≡ all_closed databases user
unfolding acted tried
ended databases user = refl

-- ---- up to the desktop's commit

pub record IsCommitted (m : Meeting) (given : List ℕ) : Type 0 where
  pub does : device_after (before_commit m given) m.device ≡ all_closed (put_each m (with_news m) (active m) given m.device.databases)
      (begun_user m.device.user)
  pub dealt : AreDealt m (active m) given

-- all databases of a session are ahead when it begins
pub all_ahead : {m : Meeting} → IsSoundMeeting m → first_over m ≡ None → AreAhead m (active m) m.device.databases
unfolding first_over
all_ahead {m} sound none = grind (arith, have-names m, show-all m sound, stand-all m)

pub committed : {m : Meeting} (given : List ℕ) → IsSoundMeeting m → first_over m ≡ None → GetFreeIds (before_commit m given) m.device
    → IsCommitted m given
unfolding before_commit
committed {m} given sound none free =
    let news = all_news m (active m) given in
    let begin : List Act = begin_mark m ∷ news in
    let free_begin : GetFreeIds begin m.device =
    subst (GetFreeIds begin) (before-same sound) (free-append (before_writes m) begin m.device free) in
    let marked : (acted (begin_mark m) m.device).1 ≡ all_closed m.device.databases (begun_user m.device.user) =
    ap (λ (d : Device). (acted (begin_mark m) d).1) (closed_device sound) ∙ begun sound m.device.databases in
    let all = news_all (active m) given (begun_user m.device.user) (ready-all sound) (all_ahead sound none)
    (subst (GetFreeIds news) marked free_begin.1) in
    record {
      does = after_append (before_writes m) begin m.device ∙ ap (device_after begin) (before-same sound) ∙ ap (device_after news) marked ∙ all.does;
      dealt = all.dealt;
    }

-- ---- all of it

make_one : (m : Meeting) (t : Task) {ids : List ℕ} → AreSound (records_of t.handheld) → AreGiven m t ids (records_of t.handheld)
    → after (whole (choice m t) (seen_held m t) ids) (records_of t.handheld) ≡ merged_records (choice m t) (seen_held m t) ids (records_of t.handheld)
unfolding view sides
make_one m t {ids} own given = by (is_fast m t) given.free
  where
    shown : Bool → ℕ → SideState
    shown fast = view_held (if fast then fast_view (base_rows t) (records_of t.handheld) else slow_view (records_of t.handheld))

    by : (fast : Bool) → GotFreeIds (choice m t) (shown fast) ids (records_of t.handheld)
        → after (whole (choice m t) (shown fast) ids) (records_of t.handheld) ≡ merged_records (choice m t) (shown fast) ids (records_of t.handheld)
    by true free = after-all_fast (choice m t) ids (base_rows t) (records_of t.handheld) own.ids own.bounded free
    by false free = after-all_slow (choice m t) ids (records_of t.handheld) own.ids own.bounded free

make_all : {m : Meeting} (ts : List Task) (given : List ℕ) → IsSoundMeeting m → AllByRecursion (IsKept m) ts → AreDealt m ts given
    → MakeMerge m ts given
make_all [] given sound kept dealt = tt
make_all {m} (t ∷ ts) given sound kept dealt = (
  make_one m t (handheld-sound sound t kept.0.is) dealt.0,
  make_all ts (drop (add_count m t) given) sound kept.1 dealt.1,
)

-- news and then all writes are all writes
pub both : (m : Meeting) (given : List ℕ) → IsSoundMeeting m → AreDealt m (active m) given
    → put_each m (with_all m) (active m) given (put_each m (with_news m) (active m) given m.device.databases) ≡ merged_databases m
    (active m) given m.device.databases
both m given sound dealt =
    let ready = ready-all sound in
    let rise = sound.device.sound.names in
    same-each m (with_all m) (all-keep m) (active m) ready given (put_each m (with_news m) (active m) given m.device.databases) m.device.databases
    (rise-each m (with_news m) (active m) given m.device.databases ready rise) rise
    (λ name unnamed. others-each m (with_news m) (news-keep m) (active m) given m.device.databases name ready unnamed)
    ∙ all-merged m (active m) ready given m.device.databases (make_all (active m) given sound (are-kept m) dealt)

pub merged : (m : Meeting) (given : List ℕ) → IsSoundMeeting m → first_over m ≡ None → GetFreeIds (session m given) m.device
    → device_after (session m given) m.device ≡ merged_device m given
unfolding session after_commit merged_device
merged m given sound none free =
    let user = begun_user m.device.user in
    let ready = ready-all sound in
    let news = put_each m (with_news m) (active m) given m.device.databases in
    let purges = flat_map (purge_acts m) (active m) in
    let last : List Act = end_mark m ∷ ending ∷ [] in
    let first = committed given sound none (free-front (before_commit m given) (purges ++ last) m.device free) in
    let gone = purges_all m (active m) ready given news user (have-names m)
    (changed-each m (with_news m) (news-keep m) (active m) ready given m.device.databases (have-names m)) in
    let whole = put_each m (with_all m) (active m) given news in
    after_append (before_commit m given) (purges ++ last) m.device
    ∙ ap (device_after (purges ++ last)) first.does
    ∙ after_append purges last (all_closed news user)
    ∙ ap (device_after last) gone
    ∙ ap (λ (d : Device). (acted ending d).1) (done sound whole)
    ∙ ended whole (done_user m.device.user (done_of m))
    ∙ ap (λ (ds : List DatabaseValue). all_closed ds (done_user m.device.user (done_of m))) (both m given sound first.dealt)
