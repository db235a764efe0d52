-- A front is a stop, and the session that is run again ends as the one that stopped would have ended.
use Rattle.std.proofs.lemmas.Grind.{common_steps}
use Rattle.std.proofs.Common.{◌≡◌, ◌⊎◌, inl, inr, ◌∙◌, ◌<◌, ◌||◌, not, refl, ap, sym, subst, ℕ, Bool, true, List, [], ◌∷◌, ◌++◌, length, take, if◌then◌else◌, false}
use Rattle.std.proofs.Common.{arith, is_none, is_some}
use Rattle.std.specs.Prelude.{Option, None}
use Rattle.std.specs.List.{AllByRecursion}
use Rattle.pdb_values.specs.Databases.{DatabaseValue}
use Rattle.pdb_values.specs.NamedDatabases.{database_of}
use Rattle.pdb_values.specs.declared.head.DbHead.{DbHead}
use Rattle.pdb_values.specs.declared.record.Record.{Record}
use Rattle.pdb_values.specs.declared.user.UserInfo.{UserInfo}
use Rattle.conduit_rules.specs.States.{base_at}
use Rattle.conduit_rules.specs.Views.{fast_view, slow_view}
use Rattle.conduit_rules.specs.declared.action.Action.{Action}
use Rattle.conduit_rules.specs.declared.action.Action.TheVariants.{Sync, Handheld, Desktop, Both}
use Rattle.conduit_rules.specs.declared.view.Seen.{Seen}
use Rattle.conduit_rules.proofs.ActionLaws.{handheld-is}
use Rattle.record_merge.specs.Stops.{NoBase}
use Rattle.record_merge.specs.Writes.{Write, clearing}
use Rattle.record_merge.proofs.CountLaws.{honest-merged}
use Rattle.record_merge.proofs.PutLaws.{differ-ids}
use Rattle.record_merge.proofs.StopLaws.{handheld-given}
use Rattle.desk_store.specs.Shelves.{SlotValue}
use Rattle.mirrors.specs.Agreements.{agreed}
use Rattle.run_words.specs.Actions.{action_for}
use Rattle.run_words.specs.declared.action.NamedAction.{NamedAction}
use Rattle.session_plan.specs.Archives.{entries_of}
use Rattle.session_plan.specs.Choosing.{action_or_sync, agrees, base_rows_by, is_fast, is_fast_by, view}
use Rattle.session_plan.specs.Limits.{first_over}
use Rattle.session_plan.specs.Merges.{merged_device, merged_slot}
use Rattle.session_plan.specs.Skips.{active, head_of, reason_by, skip_of}
use Rattle.session_plan.specs.Tasks.{Meeting, Task, action_of_word, records_of, slot_of, task_of}
use Rattle.session_plan.specs.Users.{begun_user}
use Rattle.session_plan.specs.Partings.{agrees_with}
use Rattle.front_laws.specs.Meetings.{AsksTheSame, Follows, IsActive, IsLikeFirst, LeftAmongNews, LeftAtEnd, LeftBehindCommit, LeftMerged, StandsLike}
use Rattle.front_laws.specs.Meetings.{action_at, found_of, holding_after, ids_at}
use Rattle.front_laws.specs.Renaming.{AreUnknown, SameEnds}
use Rattle.front_laws.specs.Repeats.{Finding, GotAllIds, GotIds, IsRead, MayStop, NoneUnderGone, Place, among_news, at_end, before_mark, behind_commit, chosen}
use Rattle.front_laws.specs.Repeats.{given_by, ids_given, ids_with, left_behind_commit, news_done, shown, sides}
use Rattle.front_laws.proofs.BaselessLaws.{baseless-commit_adds}
use Rattle.front_laws.proofs.CommitLaws.{commit-adds, end-adds}
use Rattle.front_laws.proofs.MeetingLaws.{among-news, at-the_end, behind-the_commit, reading-shows, same_action}
use Rattle.front_laws.proofs.MergedLaws.{handheld-merged}
use Rattle.front_laws.proofs.NewsLaws.{whole-is}
use Rattle.front_laws.proofs.SkipLaws.{bare-like, handheld-like, kept-stays}
use Rattle.front_laws.proofs.SoundLaws.{read-commit}
use Rattle.front_laws.proofs.TaskLaws.{are-active, device-name, is-active, on_a_side, rows-name}
use Rattle.front_laws.proofs.WholeLaws.{active-again, device_databases, meetings-hold, merged-at, whole-found}
use Rattle.front_laws.specs.Again.{IsFresh, RunsAgain}
use Rattle.front_laws.specs.Sound.{IsSoundMeeting}
use Rattle.front_laws.specs.Stops.{StandsAmongNews, StandsBehindCommit, StandsWith, news_at}
use Rattle.front_laws.proofs.FrontLaws.{front-among, front-behind}
use Rattle.front_laws.proofs.PartActs.{take-all}
use Rattle.front_laws.proofs.ReadyLaws.{handheld-sound}
use Rattle.front_laws.proofs.UnwrittenLaws.{stands-records, unwritten-ids, written-records}
use Rattle.front_laws.proofs.UnknownLaws.{IsNewIn, all-new, news-back, news-new, none-back, none-front, unknown-both, unknown-of}
use Rattle.front_laws.proofs.HandheldLaws.{take_none}

-- ---- what the next meeting finds

pub left-among : {meeting next : Meeting} {given : List ℕ} (stands : StandsAmongNews meeting given next.device) → AsksTheSame meeting next
    → next.device.user ≡ begun_user meeting.device.user → slot_of next ≡ slot_of meeting → 0 < (slot_of meeting).marks.pc
    → LeftAmongNews meeting next (ids_at meeting given) stands.count
left-among {meeting} {next} {given} stands asks begun slot number = record {
  asks = asks;
  marks = record { handheld = ap (λ (u : UserInfo). u.pc) begun; desktop = subst (λ n. 0 < n) (sym (ap (λ (s : SlotValue). s.marks.pc) slot)) number };
  slot = slot;
  records = λ name. stands-records (task_of meeting name) (news_at meeting name (ids_at meeting given name) (stands.count name))
      (database_of name next.device.databases) (stands.each name);
}

pub slot_pc : (meeting : Meeting) (given : List ℕ) → (merged_slot meeting given).marks.pc ≡ (slot_of meeting).marks.pc
unfolding merged_slot
slot_pc meeting given = refl

pub left-behind : {meeting : Meeting} (next : Meeting) {given : List ℕ} (stands : StandsBehindCommit meeting given next.device) (name : List ℕ)
    → IsActive meeting name → AsksTheSame meeting next → next.device.user ≡ begun_user meeting.device.user → slot_of next ≡ merged_slot meeting given
    → 0 < (slot_of meeting).marks.pc → LeftBehindCommit meeting next (ids_at meeting given) stands.count name
left-behind {meeting} next {given} stands name is asks begun slot number =
    grind (arith, slot_pc meeting given, merged-at meeting next given name slot is, written-records (stands.each name is))

-- ---- where a session may stop

unknown-back : (x : Finding) (xs ys : List ℕ) → AreUnknown x (xs ++ ys) → AreUnknown x ys
unknown-back x [] ys un = un
unknown-back x (g ∷ xs) ys un = unknown-back x xs ys un.1

may-among : (a : Action) {x : Finding} {given : List ℕ} (n : ℕ) → IsRead x → given_by (news_done a x given n) ≡ given → GotIds a x given
    → NoBase (base_at x.base true) given → NoneUnderGone x.gone_counts x.base x.records → MayStop a x (among_news given n)
may-among Sync n read all free fresh gone = record { read = read; all = all; got = free; fresh = fresh; gone = gone }
may-among Handheld {x} {given} n read all free fresh gone = grind (arith, take_none n (handheld-given (sides x) given))
may-among Desktop n read all free fresh gone = free
may-among Both n read all free fresh gone = record { read = read; all = all; got = free; fresh = fresh; gone = gone }

-- ids that stand in the end are among those that were given
module _ (x : Finding) (given later : List ℕ) (un : AreUnknown x (given ++ later)) where
  ids-among : (a : Action) (n : ℕ) → AreUnknown x (ids_with a (among_news given n) later)
  ids-among Sync n = un
  ids-among Handheld n = un
  ids-among Desktop n = unknown-back x given later un
  ids-among Both n = un

  ids-before : (a : Action) → AreUnknown x (ids_with a before_mark later)
  ids-before Sync = unknown-back x given later un
  ids-before Handheld = unknown-back x given later un
  ids-before Desktop = unknown-back x given later un
  ids-before Both = unknown-back x given later un

  ids-behind : (a : Action) (n : ℕ) → AreUnknown x (ids_with a (behind_commit given n) later)
  ids-behind a n = grind (arith, common_steps)

  ids-end : (a : Action) (v : List Seen) (g : Bool) → AreUnknown x (ids_with a (at_end given v g) later)
  ids-end a v g = grind (arith, common_steps)

-- ---- no database is skipped then

own-like : (o other : Option DbHead) → IsLikeFirst o other o
own-like o other = grind (arith, common_steps)

stands-like : (t : Task) (ws : List Write) (o : Option DatabaseValue) → StandsWith t ws o
    → IsLikeFirst (head_of t.handheld) (head_of t.rows) (head_of o)
stands-like t ws o (inl (same, none)) = grind (arith, own-like (head_of t.handheld) (head_of t.rows))
stands-like t ws o (inr (inl (way, none))) = elim way.stands [
  | inl there ↦ subst (λ x. IsLikeFirst (head_of t.handheld) (head_of t.rows) (head_of x)) (sym there) (bare-like t.handheld t.rows way.bare way.is)
  | inr there ↦ subst (λ x. IsLikeFirst (head_of t.handheld) (head_of t.rows) (head_of x)) (sym there) (bare-like t.handheld t.rows way.bare way.is)
]
stands-like t ws o (inr (inr is)) = grind (arith, handheld-like t.handheld t.rows is.before is.is)

stands-there : (t : Task) (ws : List Write) (o : Option DatabaseValue) → StandsWith t ws o → is_none (head_of o) ≡ true
    → is_none (head_of t.handheld) ≡ true
stands-there t ws o (inl (same, none)) f = sym (ap (λ x. is_none (head_of x)) same) ∙ f
stands-there t ws o (inr (inl (way, none))) f = elim way.stands [
  | inl there ↦ absurd (let no : false ≡ true = sym (ap (λ x. is_none (head_of x)) there) ∙ f in cc)
  | inr there ↦ absurd (let no : false ≡ true = sym (ap (λ x. is_none (head_of x)) there) ∙ f in cc)
]
stands-there t ws o (inr (inr is)) f = absurd (let no : false ≡ true = sym (ap (λ x. is_none (head_of x)) is.stands) ∙ f in cc)

pub like-among : {meeting : Meeting} (next : Meeting) {given : List ℕ} (stands : StandsAmongNews meeting given next.device) (name : List ℕ)
    → AsksTheSame meeting next → slot_of next ≡ slot_of meeting → StandsLike meeting next name
like-among {meeting} next {given} stands name asks slot =
    grind (
      arith,
      stands-like (task_of meeting name) (news_at meeting name (ids_at meeting given name) (stands.count name))
          (database_of name next.device.databases) (stands.each name),
      own-like (head_of (task_of meeting name).rows) (head_of (task_of meeting name).handheld),
      stands-there (task_of meeting name) (news_at meeting name (ids_at meeting given name) (stands.count name))
          (database_of name next.device.databases) (stands.each name),
      is_none (head_of (database_of name next.device.databases)),
      is_some (task_of next name).base,
    )

-- a side that had it has it
side_then : (h : Option DatabaseValue) {r : Option DatabaseValue} (now : Option DatabaseValue) {now_rows : Option DatabaseValue}
    → (is_none (head_of now) ≡ true → is_none (head_of h) ≡ true) → now_rows ≡ r → (is_some h || is_some r) ≡ true
    → (is_some now ≡ true) ⊎ (is_some now_rows ≡ true)
side_then h now has same side = grind (arith, common_steps)

pub active-among : (meeting next : Meeting) (given : List ℕ) → StandsAmongNews meeting given next.device → (name : List ℕ) → IsActive meeting name
    → AsksTheSame meeting next → slot_of next ≡ slot_of meeting → IsActive next name
active-among meeting next given stands name is asks slot =
    let t = task_of meeting name in
    let like = like-among next stands name asks slot in
    record {
      there = elim (side_then t.handheld (task_of next name).handheld like.has_handheld
          (ap (λ (s : SlotValue). database_of name s.shelves.rows) slot) (on_a_side meeting name is.there)) [
            | inl there ↦ device-name next name there
            | inr there ↦ rows-name next name there
          ];
      kept = kept-stays meeting next name like is.kept;
    }

-- the same with the merged handheld in place of one behind the commit: heads are the same
pub active-behind : (meeting next : Meeting) (given : List ℕ) → StandsBehindCommit meeting given next.device → (name : List ℕ) → IsActive meeting name
    → AsksTheSame meeting next → slot_of next ≡ merged_slot meeting given → IsActive next name
unfolding skip_of
active-behind meeting next given stands name is asks slot =
    let ended : Meeting = record next { device = merged_device meeting given } in
    let again = active-again meeting ended given name
    (record { asks = record { actions = asks.actions; slow = asks.slow }; databases = refl; slot = slot }) is in
    let written = stands.each name is in
    let merged = ap (database_of name) (device_databases meeting given)
    ∙ handheld-merged meeting (active meeting) given (task_of meeting name) written.before (are-active meeting)
    (is-active meeting name is.there is.kept) written.is in
    let heads : head_of (database_of name next.device.databases) ≡ head_of (database_of name (merged_device meeting given).databases) =
    ap head_of written.stands ∙ sym (ap head_of merged) in
    record {
      there = rows-name next name (merged-at meeting next given name slot is).there;
      kept = ap (λ h. is_none (reason_by (task_of next name).action h (head_of (task_of next name).rows) (is_some (task_of next name).base))) heads
          ∙ again.kept;
    }

-- ---- a step

-- where the session stopped, as the next one finds it
pub record IsStep (meeting next : Meeting) (name ids : List ℕ) : Type 0 where
  pub place : Place
  pub follows : Follows meeting next name place
  pub may : MayStop (action_at meeting name) (found_of meeting name) place
  pub own : AllByRecursion (IsNewIn (found_of meeting name).records) ids
  pub back : (later : List ℕ) → GotAllIds (action_at meeting name) (found_of next name) later
      → AllByRecursion (IsNewIn (found_of meeting name).records) later
  pub gives : ids_given place ≡ ids
  pub stay : (x : Finding) (later : List ℕ) → AreUnknown x (ids ++ later) → AreUnknown x (ids_with (action_at meeting name) place later)
  pub active : IsActive next name

-- what a meeting finds of a database depends on no more than this
abbrev found_from : UserInfo → List DatabaseValue → SlotValue → Bool → List NamedAction → List ℕ → Finding
found_from user databases slot slow items name =
    let handheld = database_of name databases in
    let rows = database_of name slot.shelves.rows in
    let base = database_of name slot.shelves.bases in
    let fast = is_fast_by (agrees_with (agreed user slot.marks) slot.parted name) slow (action_or_sync (action_of_word (action_for name items))) (is_some handheld) (is_some rows)
    (is_some base) in
    record {
      view = if fast then fast_view (base_rows_by rows base) (records_of handheld) else slow_view (records_of handheld);
      records = records_of handheld;
      rows = records_of rows;
      base = base_rows_by rows base;
      archive = entries_of (records_of (database_of name slot.shelves.archives));
      gone_counts = not (agrees_with (agreed user slot.marks) slot.parted name);
    }

found-is : (m : Meeting) (name : List ℕ)
    → found_of m name ≡ found_from m.device.user m.device.databases (slot_of m) m.wishes.slow m.wishes.actions.items name
unfolding view is_fast agrees
found-is m name = refl

-- nothing was written
pub found-before : {meeting : Meeting} (next : Meeting) (name : List ℕ) → AsksTheSame meeting next → next.device.user ≡ meeting.device.user
    → next.device.databases ≡ meeting.device.databases → slot_of next ≡ slot_of meeting → found_of next name ≡ found_of meeting name
found-before {meeting} next name asks user databases slot = grind (arith, found-is next name, found-is meeting name)

pub step-among : {meeting next : Meeting} {given : List ℕ} {name : List ℕ} → StandsAmongNews meeting given next.device → IsActive meeting name
    → AsksTheSame meeting next → slot_of next ≡ slot_of meeting → 0 < (slot_of meeting).marks.pc → IsRead (found_of meeting name)
    → NoBase (base_at (found_of meeting name).base true) (ids_at meeting given name)
    → NoneUnderGone (found_of meeting name).gone_counts (found_of meeting name).base (found_of meeting name).records
    → IsStep meeting next name (ids_at meeting given name)
step-among {meeting} {next} {given} {name} stands is asks slot number read fresh gone =
    let a = action_at meeting name in
    let x = found_of meeting name in
    let ids = ids_at meeting given name in
    let count = stands.count name in
    let own = news-new a x ids count (stands.free name) (stands.all name) in
    let active = active-among meeting next given stands name is asks slot in
    elim stands.begun [
      | inl begun ↦
          let follows = among-news meeting next (ids_at meeting given) stands.count name (left-among stands asks begun slot number) in
          record {
            place = among_news ids count;
            follows = follows;
            may = may-among a count read (stands.all name) (stands.free name) fresh gone;
            own = own;
            back = λ later got. news-back a x ids count later (subst (λ (rs : List Record). AllByRecursion (IsNewIn rs) later)
                (ap (λ (y : Finding). y.records) follows.finds) (all-new got));
            gives = refl;
            stay = λ z later un. ids-among z ids later un a count;
            active = active;
          }
      | inr (user, databases) ↦
          let finds = found-before next name asks user databases slot in
          record {
            place = before_mark;
            follows = record { action = same_action name asks; finds = finds };
            may = tt;
            own = own;
            back = λ later got. subst (λ (y : Finding). AllByRecursion (IsNewIn y.records) later) finds (all-new got);
            gives = unwritten-ids a x (task_of meeting name) ids count refl
                (subst (λ (now : Option DatabaseValue). StandsWith (task_of meeting name) (news_at meeting name ids count) now)
                (ap (λ (ds : List DatabaseValue). database_of name ds) databases) (stands.each name)) (stands.free name) (stands.all name);
            stay = λ z later un. ids-before z ids later un a;
            active = active;
          }
    ]

-- behind a whole session the handheld is honest against the new base
pub honest-then : {meeting : Meeting} (next : Meeting) (given : List ℕ) (name : List ℕ) → IsRead (found_of meeting name)
    → GotIds (action_at meeting name) (found_of meeting name) (ids_at meeting given name) → LeftAtEnd meeting next (ids_at meeting given) name
    → IsRead (found_of next name)
honest-then {meeting} next given name read got left =
    grind (
      arith,
      differ-ids (found_of meeting name).records read.ids,
      whole-is (chosen (action_at meeting name) (found_of meeting name)) (shown (found_of meeting name)) (ids_at meeting given name)
          (found_of meeting name).records (differ-ids (found_of meeting name).records read.ids) read.bounded read.shows got,
      [],
      read-commit (action_at meeting name) (found_of meeting name) (ids_at meeting given name)
          (length (clearing (chosen (action_at meeting name) (found_of meeting name)) (shown (found_of meeting name)))) read got,
      take (length (clearing (chosen (action_at meeting name) (found_of meeting name)) (shown (found_of meeting name))))
          (clearing (chosen (action_at meeting name) (found_of meeting name)) (shown (found_of meeting name))),
      take-all (clearing (chosen (action_at meeting name) (found_of meeting name)) (shown (found_of meeting name))),
      reading-shows next (task_of next name),
      honest-merged (chosen (action_at meeting name) (found_of meeting name)) (shown (found_of meeting name))
          (ids_at meeting given name) (found_of meeting name).records (differ-ids (found_of meeting name).records read.ids) read.bounded read.shows got,
    )

-- behind the commit there are no more adds
pub adds-behind : (a : Action) (x : Finding) (given : List ℕ) (n : ℕ) → IsRead x → GotIds a x given
    → (chosen a (left_behind_commit a x given n)).adds ≡ []
adds-behind Sync x given n read got = commit-adds Sync x given n tt read got (read-commit Sync x given n read got)
adds-behind Handheld x given n read got = grind (arith, handheld-is (sides (left_behind_commit Handheld x given n)))
adds-behind Desktop x given n read got = commit-adds Desktop x given n tt read got (read-commit Desktop x given n read got)
adds-behind Both x given n read got = baseless-commit_adds x given n read got (read-commit Both x given n read got)

pub none-later : {a : Action} {y : Finding} {later : List ℕ} (records : List Record) → (chosen a y).adds ≡ [] → GotAllIds a y later
    → AllByRecursion (IsNewIn records) later
none-later records none got = grind (arith, common_steps)

pub step-behind : {meeting next : Meeting} {given : List ℕ} {name : List ℕ} → StandsBehindCommit meeting given next.device → IsActive meeting name
    → AsksTheSame meeting next → slot_of next ≡ merged_slot meeting given → 0 < (slot_of meeting).marks.pc → IsRead (found_of meeting name)
    → IsStep meeting next name (ids_at meeting given name)
step-behind {meeting} {next} {given} {name} stands is asks slot number read =
    let a = action_at meeting name in
    let x = found_of meeting name in
    let ids = ids_at meeting given name in
    let free = stands.free name is in
    elim stands.ended [
      | inl begun ↦
          let follows = behind-the_commit meeting next (ids_at meeting given) stands.count name
          (left-behind next stands name is asks begun slot number) in
          record {
            place = behind_commit ids (stands.count name);
            follows = follows;
            may = free;
            own = all-new free;
            back = λ later got. none-later x.records
                (ap (λ (y : Finding). (chosen a y).adds) follows.finds ∙ adds-behind a x ids (stands.count name) read free.got) got;
            gives = refl;
            stay = λ z later un. ids-behind z ids later un a (stands.count name);
            active = active-behind meeting next given stands name is asks slot;
          }
      | inr (user, databases) ↦
          let merged : LeftMerged meeting next given = record { asks = asks; databases = databases; slot = slot } in
          let left = whole-found meeting next given name merged is in
          let seen = view next (task_of next name) in
          let follows = at-the_end meeting next (ids_at meeting given) name left in
          let then_read = subst IsRead follows.finds (honest-then next given name read free.got left) in
          record {
            place = at_end ids seen (not (agrees next name));
            follows = follows;
            may = (free, then_read);
            own = all-new free;
            back = λ later got. none-later x.records
                (ap (λ (y : Finding). (chosen a y).adds) follows.finds ∙ end-adds a x ids seen (not (agrees next name)) read free.got then_read) got;
            gives = refl;
            stay = λ z later un. ids-end z ids later un a seen (not (agrees next name));
            active = active-again meeting next given name merged is;
          }
    ]

-- ---- the session that is run again

step-taken : {meeting : Meeting} (next : Meeting) {writes : ℕ} {given later : List ℕ} (name : List ℕ) → IsSoundMeeting meeting
    → first_over meeting ≡ None → RunsAgain meeting next writes given → IsFresh meeting next given later name → IsActive meeting name
    → IsRead (found_of meeting name) → IsStep meeting next name (ids_at meeting given name)
step-taken {meeting} next {writes} {given} {later} name sound none runs fresh is read = elim runs.slot [
  | inl (slot, few) ↦
      step-among (front-among meeting writes given next.device sound none runs.front few) is runs.asks slot runs.number read
      (none-front (base_at (found_of meeting name).base true) (ids_at meeting given name) (ids_at next later name) fresh.fresh) fresh.gone
  | inr (slot, most) ↦
      step-behind (front-behind meeting writes given next.device sound none runs.front most) is runs.asks slot runs.number read
]

pub runs-again : (meeting next : Meeting) (writes : ℕ) (given later new : List ℕ) (name : List ℕ) → IsSoundMeeting meeting → first_over meeting ≡ None
    → RunsAgain meeting next writes given → IsActive meeting name → IsFresh meeting next given later name
    → GotAllIds (action_at meeting name) (found_of next name) (ids_at next later name)
    → GotAllIds (action_at meeting name) (found_of meeting name) (ids_at meeting new name)
    → AreUnknown (found_of meeting name) (ids_at meeting new name)
    → IsActive next name × SameEnds (found_of meeting name) (holding_after next later name) (holding_after meeting new name)
runs-again meeting next writes given later new name sound none runs is fresh got new_got new_un =
    let own = handheld-sound sound (task_of meeting name) refl in
    let read = reading-shows meeting (task_of meeting name) own.ids own.bounded fresh.honest in
    let step = step-taken next name sound none runs fresh is read in
    let x = found_of meeting name in
    let first = ids_at meeting given name in
    let second = ids_at next later name in
    let unknown = unknown-both x first second (unknown-of x first step.own (none-front (base_at x.base true) first second fresh.fresh))
    (unknown-of x second (step.back second got) (none-back (base_at x.base true) first second fresh.fresh)) in (
      step.active,
      meetings-hold meeting name ((next, step.place) ∷ []) later new is step.active (step.follows, tt) read (step.may, tt) got
          (step.stay x second unknown) new_got new_un,
    )
