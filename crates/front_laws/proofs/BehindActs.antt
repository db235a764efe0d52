-- What holds of a handheld after any beginning of a session behind the desktop's commit.
use Rattle.std.proofs.Common.{arith, ◌≡◌, ◌⊎◌, inl, inr, ◌∙◌, refl, ap, sym, subst, cond, ℕ, suc, true, false, List, [], ◌∷◌, ◌++◌, map, take, drop, append-nil}
use Rattle.std.specs.Prelude.{Some, flat_map}
use Rattle.std.specs.Str.{bytes_eq}
use Rattle.pdb_values.specs.Databases.{DatabaseValue}
use Rattle.pdb_values.specs.NamedDatabases.{database_of, with_put}
use Rattle.pdb_values.specs.declared.record.Record.{Record}
use Rattle.pdb_values.specs.declared.user.UserInfo.{UserInfo}
use Rattle.pdb_values.proofs.NamedLaws.{bytes_eq-own, database_of-replaced}
use Rattle.palm_device.specs.Devices.{Device}
use Rattle.palm_device.specs.Handles.{just_opened}
use Rattle.palm_device.specs.Records.{cleaned_up, reset_flags, with_records, without_record}
use Rattle.palm_device.specs.declared.opened.Opened.{Opened}
use Rattle.conduit_rules.specs.Plans.{purged_ids}
use Rattle.record_merge.specs.Writes.{Write, after, clean_up, clearing, giving, purges, reset}
use Rattle.desktop_session.specs.Requests.{cleaning, ending, opening, removing, resetting}
use Rattle.desktop_session.specs.Tellings.{device_after}
use Rattle.mirrors.specs.News.{purge_writes}
use Rattle.session_plan.specs.Choosing.{choice, seen_held, add_count}
use Rattle.session_plan.specs.Merges.{merged_databases}
use Rattle.sync_session.specs.News.{purge_acts}
use Rattle.sync_session.specs.Sessions.{after_commit, end_mark}
use Rattle.session_plan.specs.Skips.{active}
use Rattle.session_plan.specs.Tasks.{Meeting, Task}
use Rattle.session_plan.specs.Users.{begun_user, done_of, done_user}
use Rattle.front_laws.proofs.MergedLaws.{NotNamed}
use Rattle.front_laws.specs.Given.{ids_in}
use Rattle.front_laws.specs.Sound.{IsSoundMeeting}
use Rattle.front_laws.proofs.AlongLaws.{Along, along-append, along-last, along-map, none-told}
use Rattle.front_laws.proofs.EachLaws.{AreChanged, AreReady, HaveNames, changed-each, others-each, put_each}
use Rattle.front_laws.proofs.MergeActs.{both, done, ended}
use Rattle.front_laws.proofs.OpenActs.{all_closed, open_does}
use Rattle.front_laws.proofs.PartActs.{Respects, around_along, both_of}
use Rattle.front_laws.proofs.PhaseActs.{AreDealt, news-keep, purges_all, with_all}
use Rattle.front_laws.proofs.ReadyLaws.{have-names, ready-all}
use Rattle.front_laws.proofs.TaskActs.{IsReady, purged_does, with_news}
use Rattle.front_laws.proofs.WriteActs.{MayWrite, clean_does, holding, holding_own, remove_does, reset_does}
use Rattle.sync_session.proofs.OnceLaws.{bytes_eq-swap}

-- ---- the purges of one database

abbrev last_writes : List Write
last_writes = clean_up ∷ reset ∷ []

record ClearedSome (o : Opened) (d : DatabaseValue) (databases : List DatabaseValue) (user : UserInfo) (rs : List Record) (gone ids : List ℕ)
    (is : List ℕ) (x : Device) : Type 0 where
  same : is ≡ ids
  count : ℕ
  are : x ≡ holding o d databases user (after (take count (purges gone ++ last_writes)) rs)

purges_along : (o : Opened) (d : DatabaseValue) {databases : List DatabaseValue} (user : UserInfo) (rs : List Record) (gone ids : List ℕ)
    → MayWrite o d databases → Along (ClearedSome o d databases user rs gone ids) ids (purge_writes 1 gone) (holding o d databases user rs)
purges_along o d {databases} user rs [] ids may =
    let P = ClearedSome o d databases user rs [] ids in
    let clean = holding o d databases user (cleaned_up rs) in
    let reset_all = holding o d databases user (reset_flags (cleaned_up rs)) in (
      record { same = refl; count = 0; are = refl },
      λ first. (
        none-told (cleaning 1) (holding o d databases user rs) refl,
        both_of P (resetting 1 ∷ []) (append-nil ids) (clean_does user may rs) (
          record { same = refl; count = 1; are = refl },
          λ second. (
            none-told (resetting 1) clean refl,
            both_of P [] (append-nil ids) (reset_does user may (cleaned_up rs)) (record { same = refl; count = 2; are = refl }),
          ),
        ),
      ),
    )
purges_along o d {databases} user rs (i ∷ gone) ids may = (
  record { same = refl; count = 0; are = refl },
  λ free. (
    none-told (removing 1 i) (holding o d databases user rs) refl,
    both_of (ClearedSome o d databases user rs (i ∷ gone) ids) (purge_writes 1 gone) (append-nil ids) (remove_does user may rs i)
        (along-map (ClearedSome o d databases user (without_record i rs) gone ids) (ClearedSome o d databases user rs (i ∷ gone) ids) ids (purge_writes 1 gone)
        (holding o d databases user (without_record i rs)) (λ is x some. record { same = some.same; count = suc some.count; are = some.are })
        (purges_along o d user (without_record i rs) gone ids may)),
  ),
)

-- a database with so many of its purges behind its news
abbrev pub with_cleared : Meeting → Task → ℕ → List Record → DatabaseValue → DatabaseValue
with_cleared m t count rs b = with_records (after (take count (clearing (choice m t) (seen_held m t))) rs) b

record ClearedPart (m : Meeting) (t : Task) (b : DatabaseValue) (rs : List Record) (databases : List DatabaseValue) (user : UserInfo) (ids : List ℕ)
    (is : List ℕ) (x : Device) : Type 0 where
  same : is ≡ ids
  count : ℕ
  stands : database_of t.name x.databases ≡ Some (with_cleared m t count rs b)
  others : (name : List ℕ) → bytes_eq t.name name ≡ false → database_of name x.databases ≡ database_of name databases
  known : x.user ≡ user

respects_cleared : (m : Meeting) (t : Task) (b : DatabaseValue) (rs : List Record) (databases : List DatabaseValue) (user : UserInfo) (ids : List ℕ)
    → Respects (ClearedPart m t b rs databases user ids)
respects_cleared m t b rs databases user ids is d e holds part = grind arith

cleared_part : (m : Meeting) (t : Task) (is : IsReady m t) (rs : List Record) (o : Opened) (databases : List DatabaseValue) (user : UserInfo) (ids : List ℕ)
    → database_of t.name databases ≡ Some (with_records rs is.b) → (js : List ℕ) (x : Device)
    → ClearedSome o (with_records rs is.b) databases user rs (purged_ids (choice m t).keep (seen_held m t)) ids js x
    → ClearedPart m t is.b rs databases user ids js x
cleared_part m t is rs o databases user ids here js x some =
    let was = with_records rs is.b in
    let new = with_cleared m t some.count rs is.b in
    let found : database_of new.head.name databases ≡ Some was = ap (λ n. database_of n databases) is.own ∙ here in
    let own : bytes_eq is.b.head.name t.name ≡ true = ap (λ n. bytes_eq n t.name) is.own ∙ bytes_eq-own t.name in
    record {
      same = some.same;
      count = some.count;
      stands = ap (λ (d : Device). database_of t.name d.databases) some.are ∙ database_of-replaced t.name new was databases found
          ∙ ap (λ c. cond c (Some new) (database_of t.name databases)) own;
      others = λ name apart. ap (λ (d : Device). database_of name d.databases) some.are ∙ database_of-replaced name new was databases found
          ∙ ap (λ n. cond (bytes_eq n name) (Some new) (database_of name databases)) is.own
          ∙ ap (λ c. cond c (Some new) (database_of name databases)) apart;
      known = ap (λ (d : Device). d.user) some.are;
    }

clear_along : (m : Meeting) (t : Task) (is : IsReady m t) (rs : List Record) (databases : List DatabaseValue) (user : UserInfo) (ids : List ℕ)
    → database_of t.name databases ≡ Some (with_records rs is.b)
    → Along (ClearedPart m t is.b rs databases user ids) ids (purge_acts m t) (all_closed databases user)
unfolding purge_acts
clear_along m t is rs databases user ids here =
    let now = with_records rs is.b in
    let o = just_opened t.name 0xD0 in
    let gone = purged_ids (choice m t).keep (seen_held m t) in
    let may : MayWrite o now databases = record { here = here; mode = refl; writable = is.writable; records = is.records } in
    let P = ClearedPart m t is.b rs databases user ids in
    around_along P (respects_cleared m t is.b rs databases user ids) (opening t.name) (purge_writes 1 gone) (all_closed databases user) o databases user ids
    (record { same = refl; count = 0; stands = here; others = λ name apart. refl; known = refl }) refl
    (open_does databases user is.named here is.writable) (subst (Along P ids (purge_writes 1 gone)) (holding_own may user)
    (along-map (ClearedSome o now databases user rs gone ids) P ids (purge_writes 1 gone) (holding o now databases user rs)
    (cleared_part m t is rs o databases user ids here) (purges_along o now user rs gone ids may)))

-- ---- those of all

-- the records of a database with all of its news
abbrev pub news_records : (m : Meeting) (t : Task) → IsReady m t → List ℕ → List Record
news_records m t is given = after (giving (choice m t) (seen_held m t) (take (add_count m t) given)) is.b.records

-- each database has so many of its purges behind its news
abbrev pub AreCleared : (m : Meeting) (ts : List Task) → AreReady m ts → List ℕ → List ℕ → List DatabaseValue → Type 0
AreCleared m [] ready given [] databases = Unit {0}
AreCleared m [] ready given (c ∷ cs) databases = ⊥
AreCleared m (t ∷ ts) ready given [] databases = ⊥
AreCleared m (t ∷ ts) ready given (c ∷ cs) databases =
    (database_of t.name databases ≡ Some (with_cleared m t c (news_records m t ready.0 given) ready.0.b))
    × AreCleared m ts ready.1 (drop (add_count m t) given) cs databases

none_cleared : (m : Meeting) (ts : List Task) (ready : AreReady m ts) (given : List ℕ) (databases : List DatabaseValue)
    → AreChanged m (with_news m) ts ready given databases → AreCleared m ts ready given (map (λ (t : Task). 0) ts) databases
none_cleared m [] ready given databases changed = tt
none_cleared m (t ∷ ts) ready given databases changed = (changed.0, none_cleared m ts ready.1 (drop (add_count m t) given) databases changed.1)

changed_others : (m : Meeting) (ts : List Task) (ready : AreReady m ts) (given name : List ℕ) (databases now : List DatabaseValue) → NotNamed name ts
    → AreChanged m (with_news m) ts ready given databases
    → ((other : List ℕ) → bytes_eq name other ≡ false → database_of other now ≡ database_of other databases)
    → AreChanged m (with_news m) ts ready given now
changed_others m [] ready given name databases now unnamed changed same = tt
changed_others m (t ∷ ts) ready given name databases now unnamed changed same = (
  same t.name (bytes_eq-swap t.name name unnamed.0) ∙ changed.0,
  changed_others m ts ready.1 (drop (add_count m t) given) name databases now unnamed.1 changed.1 same,
)

record ClearedAll (m : Meeting) (ts : List Task) (ready : AreReady m ts) (given : List ℕ) (databases : List DatabaseValue) (user : UserInfo) (ids : List ℕ)
    (is : List ℕ) (x : Device) : Type 0 where
  same : is ≡ ids
  counts : List ℕ
  cleared : AreCleared m ts ready given counts x.databases
  others : (name : List ℕ) → NotNamed name ts → database_of name x.databases ≡ database_of name databases
  known : x.user ≡ user

all_along : (m : Meeting) (ts : List Task) (ready : AreReady m ts) (given : List ℕ) (databases : List DatabaseValue) (user : UserInfo) (ids : List ℕ)
    → HaveNames ts → AreChanged m (with_news m) ts ready given databases
    → Along (ClearedAll m ts ready given databases user ids) ids (flat_map (purge_acts m) ts) (all_closed databases user)
all_along m [] ready given databases user ids names changed = grind (arith, [])
all_along m (t ∷ ts) ready given databases user ids names changed =
    let is = ready.0 in
    let rs = news_records m t is given in
    let first = purge_acts m t in
    let second = flat_map (purge_acts m) ts in
    let later = drop (add_count m t) given in
    let device = all_closed databases user in
    let P = ClearedAll m (t ∷ ts) ready given databases user ids in
    let Q = ClearedPart m t is.b rs databases user ids in
    let one = clear_along m t is rs databases user ids changed.0 in
    let now = with_put (with_records (after (clearing (choice m t) (seen_held m t)) rs) is.b) databases in
    let does = purged_does m t is rs databases user changed.0 in
    along-append P ids first second device (along-map Q P ids first device (λ js x part. record {
      same = part.same;
      counts = part.count ∷ map (λ (u : Task). 0) ts;
      cleared = (
        part.stands,
        none_cleared m ts ready.1 later x.databases (changed_others m ts ready.1 later t.name databases x.databases names.0 changed.1 part.others),
      );
      others = λ name apart. part.others name apart.0;
      known = part.known;
    }) one) (λ free.
    let last = along-last Q ids first device one free in
    let same_now : (device_after first device).databases ≡ now = ap (λ (d : Device). d.databases) does in
    let unchanged : (name : List ℕ) → bytes_eq t.name name ≡ false → database_of name now ≡ database_of name databases =
    λ name apart. sym (ap (database_of name) same_now) ∙ last.others name apart in
    subst (Along P (ids ++ ids_in first) second) (sym does)
    (along-map (ClearedAll m ts ready.1 later now user (ids ++ ids_in first)) P (ids ++ ids_in first) second (all_closed now user)
    (λ js x rest. record {
      same = rest.same ∙ last.same;
      counts = last.count ∷ rest.counts;
      cleared = (rest.others t.name names.0 ∙ sym (ap (database_of t.name) same_now) ∙ last.stands, rest.cleared);
      others = λ name apart. rest.others name apart.1 ∙ unchanged name apart.0;
      known = rest.known;
    }) (all_along m ts ready.1 later now user (ids ++ ids_in first) names.1
    (changed_others m ts ready.1 later t.name databases now names.0 changed.1 unchanged))))

-- ---- behind the commit

-- each database has its news and so many of its purges, all others are as before, and with the last mark all is merged
pub record BehindPart (m : Meeting) (given : List ℕ) (ready : AreReady m (active m)) (ids : List ℕ) (is : List ℕ) (x : Device) : Type 0 where
  pub same : is ≡ ids
  pub counts : List ℕ
  pub cleared : AreCleared m (active m) ready given counts x.databases
  pub others : (name : List ℕ) → NotNamed name (active m) → database_of name x.databases ≡ database_of name m.device.databases
  pub marked : (x.user ≡ begun_user m.device.user) ⊎ ((x.user ≡ done_user m.device.user (done_of m))
      × (x.databases ≡ merged_databases m (active m) given m.device.databases))

pub respects-behind : (m : Meeting) (given : List ℕ) (ready : AreReady m (active m)) (ids : List ℕ) → Respects (BehindPart m given ready ids)
respects-behind m given ready ids is d e holds part = grind (arith, AreCleared m (active m) ready given part.counts)

pub behind-along : {m : Meeting} (given : List ℕ) (sound : IsSoundMeeting m) (ids : List ℕ) → AreDealt m (active m) given
    → Along (BehindPart m given (ready-all sound) ids) ids (after_commit m)
    (all_closed (put_each m (with_news m) (active m) given m.device.databases) (begun_user m.device.user))
unfolding after_commit
behind-along {m} given sound ids dealt =
    let ready = ready-all sound in
    let user = begun_user m.device.user in
    let news = put_each m (with_news m) (active m) given m.device.databases in
    let purging = flat_map (purge_acts m) (active m) in
    let changed = changed-each m (with_news m) (news-keep m) (active m) ready given m.device.databases (have-names m) in
    let whole = put_each m (with_all m) (active m) given news in
    let P = BehindPart m given ready ids in
    let purged = along-map (ClearedAll m (active m) ready given news user ids) P ids purging (all_closed news user) (λ js x all. record {
      same = all.same;
      counts = all.counts;
      cleared = all.cleared;
      others = λ name apart. all.others name apart ∙ others-each m (with_news m) (news-keep m) (active m) given m.device.databases name ready apart;
      marked = inl all.known;
    }) (all_along m (active m) ready given news user ids (have-names m) changed) in
    along-append P ids purging (end_mark m ∷ ending ∷ []) (all_closed news user) purged (λ free.
    let then_ids : List ℕ = ids ++ ids_in purging in
    let does = purges_all m (active m) ready given news user (have-names m) changed in
    let last : P then_ids (all_closed whole user) = subst (P then_ids) does (along-last P ids purging (all_closed news user) purged free) in
    let end = done_user m.device.user (done_of m) in
    let over : P then_ids (all_closed whole end) =
    record { same = last.same; counts = last.counts; cleared = last.cleared; others = last.others; marked = inr (refl, both m given sound dealt) } in
    subst (Along P then_ids (end_mark m ∷ ending ∷ [])) (sym does) (
      last,
      λ first. (
        none-told (end_mark m) (all_closed whole user) refl,
        both_of P (ending ∷ []) (append-nil then_ids) (done sound whole) (
          over,
          λ second. (
            none-told ending (all_closed whole end) refl,
            both_of P [] (append-nil then_ids) (ended whole end) over,
          ),
        ),
      ),
    ))
