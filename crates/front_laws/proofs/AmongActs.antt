-- What holds of a handheld after any beginning of a session up to the desktop's commit.
use Rattle.std.proofs.Common.{◌≡◌, ◌⊎◌, inl, inr, ◌∙◌, refl, ap, sym, subst, ℕ, false, List, [], ◌∷◌, ◌++◌, length, map, take, drop, arith, append-nil}
use Rattle.std.proofs.Common.{append_assoc}
use Rattle.std.specs.Prelude.{Option, Some, None}
use Rattle.std.proofs.lemmas.List.{length-append}
use Rattle.std.specs.List.{flat_map}
use Rattle.std.specs.Str.{bytes_eq}
use Rattle.pdb_values.specs.Databases.{DatabaseValue}
use Rattle.pdb_values.specs.NamedDatabases.{database_of}
use Rattle.pdb_values.specs.declared.user.UserInfo.{UserInfo}
use Rattle.palm_device.specs.Devices.{Device}
use Rattle.desktop_session.specs.Acts.{acted}
use Rattle.session_plan.specs.Limits.{first_over}
use Rattle.session_plan.specs.Choosing.{add_count}
use Rattle.sync_session.specs.News.{all_news, news_acts}
use Rattle.sync_session.specs.Sessions.{before_commit, before_writes, begin_mark}
use Rattle.session_plan.specs.Skips.{active}
use Rattle.session_plan.specs.Tasks.{Meeting, Task}
use Rattle.session_plan.specs.Users.{begun_user}
use Rattle.sync_session.proofs.QuietLaws.{quiet-before_writes}
use Rattle.front_laws.proofs.MergedLaws.{NotNamed}
use Rattle.front_laws.specs.Given.{ids_in}
use Rattle.front_laws.specs.Sound.{IsSoundMeeting}
use Rattle.front_laws.proofs.AlongLaws.{Along, along-append, along-last, along-map, along-quiet, none-told, quiet-after, quiet-all}
use Rattle.front_laws.proofs.EachLaws.{AreReady, put_at_task}
use Rattle.front_laws.proofs.MergeActs.{all_ahead, before-same, begun, closed_device}
use Rattle.front_laws.proofs.OpenActs.{all_closed}
use Rattle.front_laws.proofs.PartActs.{HasSome, IsPart, Respects, TaskPart, both_of, news_along}
use Rattle.front_laws.proofs.PhaseActs.{AreAhead, Stand, ahead_does, ahead_few, ahead_next, ahead_room}
use Rattle.front_laws.proofs.ReadyLaws.{ready-all, stand-all}
use Rattle.front_laws.proofs.RelabelLaws.{ids-length, news-count}
use Rattle.front_laws.proofs.TaskActs.{with_news}
use Rattle.sync_session.proofs.OnceLaws.{bytes_eq-swap}

-- how much of its news a database has, and the ids that these got
pub record Share : Type 0 where
  pub count : ℕ
  pub used : List ℕ

abbrev pub no_share : Share
no_share = record { count = 0; used = [] }

pub record IsShare (m : Meeting) (t : Task) (b : DatabaseValue) (s : Share) (o : Option DatabaseValue) : Type 0 where
  pub stands : IsPart m t b s.count s.used o
  pub has : HasSome m t b.records s.count s.used

abbrev pub AreShared : (m : Meeting) (ts : List Task) → AreReady m ts → List Share → List DatabaseValue → Type 0
AreShared m [] ready [] databases = Unit {0}
AreShared m [] ready (s ∷ ss) databases = ⊥
AreShared m (t ∷ ts) ready [] databases = ⊥
AreShared m (t ∷ ts) ready (s ∷ ss) databases = IsShare m t ready.0.b s (database_of t.name databases) × AreShared m ts ready.1 ss databases

abbrev pub all_used : List Share → List ℕ
all_used ss = flat_map (λ (s : Share). s.used) ss

abbrev no_shares : List Task → List Share
no_shares ts = map (λ (t : Task). no_share) ts

none_used : (ts : List Task) → all_used (no_shares ts) ≡ []
none_used [] = refl
none_used (t ∷ ts) = none_used ts

none_shared : (m : Meeting) (ts : List Task) (ready : AreReady m ts) (databases : List DatabaseValue) → Stand ts databases
    → AreShared m ts ready (no_shares ts) databases
none_shared m [] ready databases stand = tt
none_shared m (t ∷ ts) ready databases stand = (
  record { stands = inr (inl stand.0, refl); has = record { own = refl; free = tt; few = omega arith } },
  none_shared m ts ready.1 databases stand.1,
)

-- each database has all of its ids before a later one has any
abbrev pub AreInTurn : Meeting → List Task → List Share → Type 0
AreInTurn m [] ss = Unit {0}
AreInTurn m (t ∷ ts) [] = Unit {0}
AreInTurn m (t ∷ ts) (s ∷ ss) = ((length s.used ≡ add_count m t) ⊎ (all_used ss ≡ [])) × AreInTurn m ts ss

none_in_turn : (m : Meeting) (ts : List Task) → AreInTurn m ts (no_shares ts)
none_in_turn m [] = tt
none_in_turn m (t ∷ ts) = (inr (none_used ts), none_in_turn m ts)

-- so much of the news of all
record PhasePart (m : Meeting) (ts : List Task) (ready : AreReady m ts) (databases : List DatabaseValue) (user : UserInfo) (ids : List ℕ) (is : List ℕ)
    (x : Device) : Type 0 where
  shares : List Share
  shared : AreShared m ts ready shares x.databases
  all : is ≡ ids ++ all_used shares
  in_turn : AreInTurn m ts shares
  others : (name : List ℕ) → NotNamed name ts → database_of name x.databases ≡ database_of name databases
  known : x.user ≡ user

-- those that weren't reached stand as they did
stand_others : (ts : List Task) (name : List ℕ) (databases now : List DatabaseValue) → NotNamed name ts → Stand ts databases
    → ((other : List ℕ) → bytes_eq name other ≡ false → database_of other now ≡ database_of other databases) → Stand ts now
stand_others [] name databases now unnamed stand same = tt
stand_others (t ∷ ts) name databases now unnamed stand same = (
  same t.name (bytes_eq-swap t.name name unnamed.0) ∙ stand.0,
  stand_others ts name databases now unnamed.1 stand.1 same,
)

first_part : (m : Meeting) (t : Task) (ts : List Task) (ready : AreReady m (t ∷ ts)) (databases : List DatabaseValue) (user : UserInfo) (ids : List ℕ)
    → NotNamed t.name ts → Stand ts databases → (is : List ℕ) (x : Device) → TaskPart m t ready.0.b databases user ids is x
    → PhasePart m (t ∷ ts) ready databases user ids is x
first_part m t ts ready databases user ids unnamed stand is x part =
    let s : Share = record { count = part.count; used = part.used } in
    record {
      shares = s ∷ no_shares ts;
      shared = (
        record { stands = part.stands; has = part.has },
        none_shared m ts ready.1 x.databases (stand_others ts t.name databases x.databases unnamed stand part.others),
      );
      all = part.all ∙ ap (λ more. ids ++ more) (sym (append-nil part.used) ∙ ap (λ more. part.used ++ more) (sym (none_used ts)));
      in_turn = (inr (none_used ts), none_in_turn m ts);
      others = λ name apart. part.others name apart.0;
      known = part.known;
    }

later_part : (m : Meeting) (t : Task) (ts : List Task) (ready : AreReady m (t ∷ ts)) {databases now : List DatabaseValue} {user : UserInfo} (ids : List ℕ)
    {then_ids : List ℕ} {between : Device}
    → between.databases ≡ now → NotNamed t.name ts → (part : TaskPart m t ready.0.b databases user ids then_ids between)
    → length part.used ≡ add_count m t → (is : List ℕ) (x : Device) → PhasePart m ts ready.1 now user then_ids is x
    → PhasePart m (t ∷ ts) ready databases user ids is x
later_part m t ts ready ids same unnamed part whole is x rest =
    let s : Share = record { count = part.count; used = part.used } in
    record {
      shares = s ∷ rest.shares;
      shared = (
        record {
          stands = subst (IsPart m t ready.0.b part.count part.used)
              (ap (database_of t.name) same ∙ sym (rest.others t.name unnamed)) part.stands;
          has = part.has;
        },
        rest.shared,
      );
      all = rest.all ∙ ap (λ front. front ++ all_used rest.shares) part.all ∙ append_assoc ids part.used (all_used rest.shares);
      in_turn = (inl whole, rest.in_turn);
      others = λ name apart. rest.others name apart.1 ∙ sym (ap (database_of name) same) ∙ part.others name apart.0;
      known = rest.known;
    }

same_length : (ids xs ys : List ℕ) → ids ++ xs ≡ ids ++ ys → length xs ≡ length ys
same_length ids xs ys same = grind (arith, length-append ids xs, length-append ids ys)

phase_along : {m : Meeting} (ts : List Task) (ready : AreReady m ts) (given : List ℕ) {databases : List DatabaseValue} (user : UserInfo) (ids : List ℕ)
    → AreAhead m ts databases → Along (PhasePart m ts ready databases user ids) ids (all_news m ts given) (all_closed databases user)
unfolding all_news
phase_along [] ready given user ids ahead = grind (arith, [], append-nil ids)
phase_along {m} (t ∷ ts) ready given {databases} user ids ahead =
    let is = ready.0 in
    let own = take (add_count m t) given in
    let later = drop (add_count m t) given in
    let first = news_acts m t own in
    let second = all_news m ts later in
    let device = all_closed databases user in
    let now = put_at_task (with_news m) t own databases in
    let P = PhasePart m (t ∷ ts) ready databases user ids in
    let one = news_along m t is databases user own ids ahead.stand.0 (ahead_few is ahead) (ahead_room is ahead) in
    along-append P ids first second device
    (along-map (TaskPart m t is.b databases user ids) P ids first device (first_part m t ts ready databases user ids ahead.names.0 ahead.stand.1) one)
    (λ free.
    let does = ahead_does is ahead user own free in
    let part = along-last (TaskPart m t is.b databases user ids) ids first device one free in
    let whole : length part.used ≡ add_count m t =
    sym (same_length ids (ids_in first) part.used part.all) ∙ ids-length first ∙ news-count m t is own in
    subst (Along P (ids ++ ids_in first) second) (sym does)
    (along-map (PhasePart m ts ready.1 now user (ids ++ ids_in first)) P (ids ++ ids_in first) second (all_closed now user) (later_part m t ts ready ids
    (ap (λ (d : Device). d.databases) does) ahead.names.0 part whole)
    (phase_along ts ready.1 later user (ids ++ ids_in first) (ahead_next is ahead own))))

-- ---- from the start

-- each database has so much of its news, all others are as before, and so is all before the first mark
pub record AmongPart (m : Meeting) (ready : AreReady m (active m)) (is : List ℕ) (x : Device) : Type 0 where
  pub shares : List Share
  pub shared : AreShared m (active m) ready shares x.databases
  pub all : is ≡ all_used shares
  pub in_turn : AreInTurn m (active m) shares
  pub others : (name : List ℕ) → NotNamed name (active m) → database_of name x.databases ≡ database_of name m.device.databases
  pub marked : (x.user ≡ begun_user m.device.user) ⊎ ((x.user ≡ m.device.user) × (x.databases ≡ m.device.databases))

pub respects-among : (m : Meeting) (ready : AreReady m (active m)) → Respects (AmongPart m ready)
respects-among m ready is d e holds part = grind (arith, AreShared m (active m) ready part.shares)

start_among : (m : Meeting) (ready : AreReady m (active m)) → AmongPart m ready [] m.device
start_among m ready =
    grind (arith, no_shares (active m), none_shared m (active m) ready m.device.databases (stand-all m), none_used (active m), none_in_turn m (active m))

phase_among : (m : Meeting) (ready : AreReady m (active m)) (is : List ℕ) (x : Device)
    → PhasePart m (active m) ready m.device.databases (begun_user m.device.user) [] is x → AmongPart m ready is x
phase_among m ready is x part = grind arith

pub among-along : {m : Meeting} (given : List ℕ) (sound : IsSoundMeeting m) → first_over m ≡ None
    → Along (AmongPart m (ready-all sound)) [] (before_commit m given) m.device
unfolding before_commit
among-along {m} given sound none =
    let ready = ready-all sound in
    let P = AmongPart m ready in
    let reading = before_writes m in
    let news = all_news m (active m) given in
    let quiet = quiet-all reading (quiet-before_writes m) in
    let databases = m.device.databases in
    let user = begun_user m.device.user in
    let marked : (acted (begin_mark m) m.device).1 ≡ all_closed databases user =
    ap (λ (d : Device). (acted (begin_mark m) d).1) (closed_device sound) ∙ begun sound databases in
    along-append P [] reading (begin_mark m ∷ news) m.device
    (along-quiet P [] reading m.device quiet (λ d holds. respects-among m ready [] m.device d holds (start_among m ready)))
    (λ free. both_of P (begin_mark m ∷ news) (quiet-after reading m.device quiet).2 (before-same sound) (
      start_among m ready,
      λ may. (
        none-told (begin_mark m) m.device refl,
        subst (Along P [] news) (sym marked)
            (along-map (PhasePart m (active m) ready databases user []) P [] news (all_closed databases user) (phase_among m ready)
            (phase_along (active m) ready given user [] (all_ahead sound none))),
      ),
    ))
