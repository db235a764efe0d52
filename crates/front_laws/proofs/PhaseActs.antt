-- What each phase of a session makes of a handheld.
use Rattle.std.proofs.Common.{◌≡◌, ◌∙◌, ◌≤◌, ◌<◌, ◌+◌, refl, ap, sym, subst, ℕ, false, List, [], ◌∷◌, length, take, drop, if◌then◌else◌, arith}
use Rattle.std.specs.Prelude.{◌||◌, nat_lt, Option, Some, None, flat_map, is_none}
use Rattle.std.specs.List.{AllByRecursion}
use Rattle.pdb_values.specs.Bounds.{most_databases, most_entries}
use Rattle.pdb_values.specs.Databases.{DatabaseValue}
use Rattle.pdb_values.specs.NamedDatabases.{NamesRise, database_of}
use Rattle.pdb_values.specs.declared.user.UserInfo.{UserInfo}
use Rattle.pdb_values.proofs.NamedLaws.{length-replaced, length-with_new, with_put-cases}
use Rattle.palm_device.specs.Heads.{is_read_only}
use Rattle.palm_device.specs.Records.{with_records}
use Rattle.conduit_rules.specs.ById.{each_id}
use Rattle.conduit_rules.specs.States.{first}
use Rattle.record_merge.specs.Merging.{ShowsNoOther, merged_records, new_under}
use Rattle.record_merge.specs.Writes.{after, clearing, giving, whole}
use Rattle.record_merge.proofs.AfterLaws.{after-append}
use Rattle.desktop_session.specs.Tellings.{device_after}
use Rattle.session_plan.specs.Choosing.{choice, seen_held, add_count}
use Rattle.session_plan.specs.Limits.{first_behind, sizes_of, with_one}
use Rattle.session_plan.specs.Merges.{handheld_before, merged_databases, put_merged}
use Rattle.sync_session.specs.News.{all_news, news_acts, purge_acts}
use Rattle.sync_session.specs.Reads.{opened, read_acts, reads}
use Rattle.session_plan.specs.Sizes.{is_over}
use Rattle.session_plan.specs.Tasks.{Meeting, Task, records_of}
use Rattle.session_plan.specs.declared.sizes.Sizes.{Sizes}
use Rattle.front_laws.proofs.MergedLaws.{NotNamed}
use Rattle.front_laws.specs.Given.{GetFreeIds}
use Rattle.front_laws.proofs.CountLaws.{appended-count}
use Rattle.front_laws.proofs.EachLaws.{AreChanged, AreReady, Change, HaveNames, KeepsName, changed-other, look-other, put_at_task, put_each, put-is}
use Rattle.front_laws.proofs.EachLaws.{rise-put}
use Rattle.front_laws.proofs.OpenActs.{all_closed}
use Rattle.front_laws.proofs.ReadActs.{reads_same}
use Rattle.front_laws.proofs.PutActs.{free-append, free-front}
use Rattle.front_laws.proofs.TaskActs.{AreGiven, HasNews, HasRoom, IsReady, bare-writable, bare_old, news_do, purged_does, with_news}
use Rattle.front_laws.proofs.SkipLaws.{right_false}
use Rattle.sync_session.proofs.OnceLaws.{bytes_eq-swap}
use Rattle.sync_session.proofs.PlannedLaws.{at_most}
use Rattle.folder_files.proofs.ValueLaws.{or_first}
use Rattle.desktop_session.proofs.ListLaws.{after_append}

-- ---- the reading

-- the handheld has the databases that a meeting found
abbrev pub Stand : List Task → List DatabaseValue → Type 0
Stand ts databases = AllByRecursion (λ (t : Task). database_of t.name databases ≡ t.handheld) ts

pub read_one : (m : Meeting) (t : Task) → IsReady m t → (databases : List DatabaseValue) (user : UserInfo) → database_of t.name databases ≡ t.handheld
    → device_after (read_acts m t) (all_closed databases user) ≡ all_closed databases user
unfolding read_acts
read_one m t is databases user here = by t.handheld refl
  where
    by : (h : Option DatabaseValue) → t.handheld ≡ h
        → device_after (if is_none h then [] else opened t.name (reads m t)) (all_closed databases user) ≡ all_closed databases user
    by None none = refl
    by (Some d) old =
        reads_same m t databases user t.name d is.named (here ∙ old) (bare-writable is (bare_old is old))

pub reads_all : (m : Meeting) (ts : List Task) (databases : List DatabaseValue) (user : UserInfo) → AreReady m ts → Stand ts databases
    → device_after (flat_map (read_acts m) ts) (all_closed databases user) ≡ all_closed databases user
reads_all m [] databases user ready stand = refl
reads_all m (t ∷ ts) databases user ready stand =
    grind (
      arith,
      after_append (read_acts m t) (flat_map (read_acts m) ts) (all_closed databases user),
      read_one m t ready.0 databases user stand.0,
      reads_all m ts databases user ready.1 stand.1,
    )

-- ---- the news

pub news-keep : (m : Meeting) → KeepsName (with_news m)
news-keep m t ids b = refl

-- each new record of each database got an id that was free
abbrev pub AreDealt : Meeting → List Task → List ℕ → Type 0
AreDealt m [] given = Unit {0}
AreDealt m (t ∷ ts) given = AreGiven m t (take (add_count m t) given) (records_of t.handheld) × AreDealt m ts (drop (add_count m t) given)

pub before_records : {m : Meeting} {t : Task} (is : IsReady m t) → is.b.records ≡ records_of t.handheld
before_records is = grind arith

-- what a limit says of a database
pub record IsWithin (m : Meeting) (t : Task) (handhelds : ℕ) : Type 0 where
  pub few : t.handheld ≡ None → handhelds < most_databases
  pub room : length (records_of t.handheld) +
      (add_count m t + length (each_id (λ i. new_under i (first i (records_of t.handheld)) ((choice m t).keep i)))) ≤ 65535

within_by : (sizes : Sizes) → is_over sizes ≡ false → (sizes.handhelds ≤ 200) × (sizes.records ≤ 65535)
within_by sizes is =
    let a = nat_lt most_databases sizes.handhelds in
    let b = nat_lt most_databases sizes.desktops in
    let c = nat_lt most_entries sizes.records in
    let d = nat_lt most_entries sizes.rows || (nat_lt most_entries sizes.base || nat_lt most_entries sizes.archive) in (
      at_most most_databases sizes.handhelds (or_first a (b || (c || d)) is),
      at_most most_entries sizes.records (or_first c d (right_false b (c || d) (right_false a (b || (c || d)) is))),
    )

pub within : (m : Meeting) (t : Task) (handhelds desktops : ℕ) → is_over (sizes_of m handhelds desktops t) ≡ false → IsWithin m t handhelds
within m t handhelds desktops is = grind (arith, within_by (sizes_of m handhelds desktops t) is)

pub first_not : (m : Meeting) (t : Task) (ts : List Task) (handhelds desktops : ℕ) → first_behind m handhelds desktops (t ∷ ts) ≡ None
    → (is_over (sizes_of m handhelds desktops t) ≡ false) × (first_behind m (with_one t.handheld handhelds) (with_one t.rows desktops) ts ≡ None)
unfolding first_behind
first_not m t ts handhelds desktops none = grind arith

pub has_room : (m : Meeting) (t : Task) (is : IsReady m t) {handhelds : ℕ} → ShowsNoOther (seen_held m t) (records_of t.handheld)
    → IsWithin m t handhelds → HasRoom m t is.b.records
has_room m t is shown within =
    grind (arith, appended-count (choice m t).keep (seen_held m t) (records_of t.handheld) shown, before_records is)

-- how many databases there are then
module _ {m : Meeting} (f : Change) (keeps : KeepsName f) {t : Task} (is : IsReady m t) (ids : List ℕ) (databases : List DatabaseValue) where
  pub length_put : database_of t.name databases ≡ t.handheld → length (put_at_task f t ids databases) ≡ with_one t.handheld (length databases)
  length_put here =
      ap length (put-is f is ids databases)
      ∙ with_put-cases (λ ds. length ds ≡ with_one t.handheld (length databases)) (f t ids is.b) databases
      (λ none. length-with_new (f t ids is.b) databases ∙ ap (λ (o : Option DatabaseValue). with_one o (length databases)) (sym none ∙ look))
      (λ was there. length-replaced (f t ids is.b) databases ∙ ap (λ (o : Option DatabaseValue). with_one o (length databases)) (sym there ∙ look))
    where
      look : database_of (f t ids is.b).head.name databases ≡ t.handheld
      look = ap (λ n. database_of n databases) (keeps t ids is.b ∙ is.own) ∙ here

  pub stand-put : (ts : List Task) → NotNamed t.name ts → Stand ts databases → Stand ts (put_at_task f t ids databases)
  stand-put [] unnamed stand = tt
  stand-put (u ∷ ts) unnamed stand = (
    look-other f is ids databases keeps u.name (bytes_eq-swap u.name t.name unnamed.0) ∙ stand.0,
    stand-put ts unnamed.1 stand.1,
  )

-- the records of a database are those that its view shows
abbrev pub ShowAll : Meeting → List Task → Type 0
ShowAll m ts = AllByRecursion (λ (t : Task). ShowsNoOther (seen_held m t) (records_of t.handheld)) ts

-- the databases that are still to get their news: each stands as the meeting found it, and none passes a limit
pub record AreAhead (m : Meeting) (ts : List Task) (databases : List DatabaseValue) : Type 0 where
  pub names : HaveNames ts
  pub show : ShowAll m ts
  pub desktops : ℕ
  pub none : first_behind m (length databases) desktops ts ≡ None
  pub rise : NamesRise databases
  pub stand : Stand ts databases

-- the first of them, and those behind it
module _ {m : Meeting} {t : Task} {ts : List Task} {databases : List DatabaseValue} (is : IsReady m t) (ahead : AreAhead m (t ∷ ts) databases) where
  ahead_parts : (is_over (sizes_of m (length databases) ahead.desktops t) ≡ false) ×
      (first_behind m (with_one t.handheld (length databases)) (with_one t.rows ahead.desktops) ts ≡ None)
  ahead_parts = first_not m t ts (length databases) ahead.desktops ahead.none

  pub ahead_few : t.handheld ≡ None → length databases < most_databases
  ahead_few = (within m t (length databases) ahead.desktops ahead_parts.0).few

  pub ahead_room : HasRoom m t is.b.records
  ahead_room = has_room m t is ahead.show.0 (within m t (length databases) ahead.desktops ahead_parts.0)

  pub ahead_news : (user : UserInfo) (ids : List ℕ) → GetFreeIds (news_acts m t ids) (all_closed databases user) → HasNews m t is.b databases user ids
  ahead_news user ids free = news_do m t is databases user ids ahead.stand.0 ahead_few ahead.rise ahead_room free

  pub ahead_does : (user : UserInfo) (ids : List ℕ) → GetFreeIds (news_acts m t ids) (all_closed databases user)
      → device_after (news_acts m t ids) (all_closed databases user) ≡ all_closed (put_at_task (with_news m) t ids databases) user
  ahead_does user ids free =
      (ahead_news user ids free).does ∙ ap (λ (ds : List DatabaseValue). all_closed ds user) (sym (put-is (with_news m) is ids databases))

  pub ahead_next : (ids : List ℕ) → AreAhead m ts (put_at_task (with_news m) t ids databases)
  ahead_next ids = record {
    names = ahead.names.1;
    show = ahead.show.1;
    desktops = with_one t.rows ahead.desktops;
    none = subst (λ n. first_behind m n (with_one t.rows ahead.desktops) ts ≡ None)
        (sym (length_put (with_news m) (news-keep m) is ids databases ahead.stand.0)) ahead_parts.1;
    rise = rise-put (with_news m) is ids databases ahead.rise;
    stand = stand-put (with_news m) (news-keep m) is ids databases ts ahead.names.0 ahead.stand.1;
  }

-- the news of all
pub record HaveNews (m : Meeting) (ts : List Task) (given : List ℕ) (databases : List DatabaseValue) (user : UserInfo) : Type 0 where
  pub does : device_after (all_news m ts given) (all_closed databases user) ≡ all_closed (put_each m (with_news m) ts given databases) user
  pub dealt : AreDealt m ts given

pub news_all : {m : Meeting} (ts : List Task) (given : List ℕ) {databases : List DatabaseValue} (user : UserInfo) → AreReady m ts
    → AreAhead m ts databases → GetFreeIds (all_news m ts given) (all_closed databases user) → HaveNews m ts given databases user
unfolding all_news
news_all [] given user ready ahead free = record { does = refl; dealt = tt }
news_all {m} (t ∷ ts) given {databases} user ready ahead free =
    let ids = take (add_count m t) given in
    let later = drop (add_count m t) given in
    let first = news_acts m t ids in
    let second = all_news m ts later in
    let device = all_closed databases user in
    let free_first = free-front first second device free in
    let does = ahead_does ready.0 ahead user ids free_first in
    let rest = news_all ts later user ready.1 (ahead_next ready.0 ahead ids) (subst (GetFreeIds second) does (free-append first second device free)) in
    record {
      does = after_append first second device ∙ ap (device_after second) does ∙ rest.does;
      dealt = (subst (AreGiven m t ids) (before_records ready.0) (ahead_news ready.0 ahead user ids free_first).given, rest.dealt);
    }

-- ---- the purges

-- with all writes of a session
abbrev pub with_all : Meeting → Task → List ℕ → DatabaseValue → DatabaseValue
with_all m t ids b = with_records (after (whole (choice m t) (seen_held m t) ids) b.records) b

pub all-keep : (m : Meeting) → KeepsName (with_all m)
all-keep m t ids b = refl

-- those of one database behind its news
pub purge_one : (m : Meeting) (t : Task) (is : IsReady m t) (ids : List ℕ) (databases : List DatabaseValue) (user : UserInfo)
    → database_of t.name databases ≡ Some (with_news m t ids is.b)
    → device_after (purge_acts m t) (all_closed databases user) ≡ all_closed (put_at_task (with_all m) t ids databases) user
purge_one m t is ids databases user here =
    grind (
      arith,
      purged_does m t is (after (giving (choice m t) (seen_held m t) ids) is.b.records) databases user here,
      after-append (giving (choice m t) (seen_held m t) ids) (clearing (choice m t) (seen_held m t)) is.b.records,
      put-is (with_all m) is ids databases,
    )

pub purges_all : (m : Meeting) (ts : List Task) (ready : AreReady m ts) (given : List ℕ) (databases : List DatabaseValue) (user : UserInfo)
    → HaveNames ts → AreChanged m (with_news m) ts ready given databases
    → device_after (flat_map (purge_acts m) ts) (all_closed databases user) ≡ all_closed (put_each m (with_all m) ts given databases) user
purges_all m [] ready given databases user names changed = refl
purges_all m (t ∷ ts) ready given databases user names changed =
    let is = ready.0 in
    let ids = take (add_count m t) given in
    let later = drop (add_count m t) given in
    let now = put_at_task (with_all m) t ids databases in
    after_append (purge_acts m t) (flat_map (purge_acts m) ts) (all_closed databases user)
    ∙ ap (device_after (flat_map (purge_acts m) ts)) (purge_one m t is ids databases user changed.0)
    ∙ purges_all m ts ready.1 later now user names.1
    (changed-other (with_news m) (with_all m) (all-keep m) ts ready.1 later databases is ids names.0 changed.1)

-- ---- the merge

-- all writes of a session make the merge
abbrev pub MakeMerge : Meeting → List Task → List ℕ → Type 0
MakeMerge m [] given = Unit {0}
MakeMerge m (t ∷ ts) given =
    (after (whole (choice m t) (seen_held m t) (take (add_count m t) given)) (records_of t.handheld)
    ≡ merged_records (choice m t) (seen_held m t) (take (add_count m t) given) (records_of t.handheld)) × MakeMerge m ts (drop (add_count m t) given)

pub all-merged : (m : Meeting) (ts : List Task) (ready : AreReady m ts) (given : List ℕ) (databases : List DatabaseValue) → MakeMerge m ts given
    → put_each m (with_all m) ts given databases ≡ merged_databases m ts given databases
unfolding merged_databases
all-merged m [] ready given databases make = refl
all-merged m (t ∷ ts) ready given databases make =
    grind (
      arith,
      take (add_count m t) given,
      drop (add_count m t) given,
      before_records ready.0,
      put_at_task (with_all m) t (take (add_count m t) given) databases,
      put-is (with_all m) ready.0 (take (add_count m t) given) databases,
      put_each m (with_all m) ts (drop (add_count m t) given),
      all-merged m ts ready.1 (drop (add_count m t) given) (put_merged m t (take (add_count m t) given) (handheld_before t.handheld t.rows) databases) make.1,
    )
