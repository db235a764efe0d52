-- Where each database stands, by its name.
use Rattle.std.proofs.lemmas.Grind.{common_steps}
use Rattle.std.proofs.Common.{◌≡◌, ◌⊎◌, inl, inr, ◌∙◌, refl, ap, sym, subst, ℕ, Bool, true, false, List, [], ◌∷◌, ◌++◌, length, map, filter, take, drop}
use Rattle.std.proofs.Common.{if◌then◌else◌, arith, is_none, ◌≤◌}
use Rattle.std.specs.Prelude.{Option, Some}
use Rattle.std.specs.List.{AllByRecursion, flat_map}
use Rattle.std.specs.Str.{bytes_eq}
use Rattle.std.proofs.lemmas.List.{length-take}
use Rattle.pdb_values.specs.Databases.{DatabaseValue}
use Rattle.pdb_values.specs.NamedDatabases.{database_of}
use Rattle.pdb_values.specs.declared.record.Record.{Record}
use Rattle.pdb_values.proofs.NamedLaws.{bytes_eq-is, bytes_eq-own}
use Rattle.palm_device.specs.Devices.{Device}
use Rattle.palm_device.specs.Records.{with_records}
use Rattle.conduit_rules.specs.Choices.{Choice}
use Rattle.conduit_rules.specs.States.{SideState}
use Rattle.record_merge.specs.Writes.{GotFreeIds, Write, after, clearing, giving}
use Rattle.record_merge.proofs.AfterLaws.{after-append}
use Rattle.session_plan.specs.Choosing.{action_or_sync, choice, seen_held, add_count}
use Rattle.session_plan.specs.Merges.{merged_device}
use Rattle.session_plan.specs.Skips.{active, skip_of}
use Rattle.session_plan.specs.Tasks.{Meeting, Task, names, records_of, task_of, tasks}
use Rattle.front_laws.specs.Meetings.{IsActive, found, ids_at, ids_dealt}
use Rattle.front_laws.specs.Repeats.{GotAllIds, GotIds, chosen, clearing_done, given_by, news_done, shown}
use Rattle.front_laws.proofs.MergedLaws.{AreTasks, IsTask, NotNamed}
use Rattle.front_laws.proofs.TaskLaws.{are-active, is-active}
use Rattle.front_laws.proofs.WholeLaws.{chosen-is, shown-is}
use Rattle.front_laws.specs.Sound.{IsSoundMeeting}
use Rattle.front_laws.specs.Stops.{IsWritten, StandsAmongNews, StandsBehindCommit, StandsWith}
use Rattle.front_laws.proofs.AmongActs.{AmongPart, AreInTurn, AreShared, IsShare, Share, all_used, no_share}
use Rattle.front_laws.proofs.BehindActs.{AreCleared, BehindPart, news_records, with_cleared}
use Rattle.front_laws.proofs.EachLaws.{AreReady, HaveNames}
use Rattle.front_laws.proofs.PartActs.{IsPart}
use Rattle.front_laws.proofs.PhaseActs.{AreDealt, before_records}
use Rattle.front_laws.proofs.ReadyLaws.{IsIn, are_in, have-names, ready-all}
use Rattle.front_laws.proofs.RelabelLaws.{drop-none, take-none}
use Rattle.front_laws.proofs.TaskActs.{AreGiven, IsReady}
use Rattle.sync_session.proofs.OnceLaws.{bytes_eq-swap}
use Rattle.handheld_files.proofs.ChangeLaws.{take_front}

-- ---- the names of a session

active_in : (m : Meeting) (ns : List (List ℕ)) → AllByRecursion (IsIn (names m)) ns
    → AllByRecursion (λ (t : Task). IsActive m t.name) (filter (λ t. is_none (skip_of t)) (map (task_of m) ns))
active_in m [] all = tt
active_in m (n ∷ ns) all = grind (arith, is_none (skip_of (task_of m n)), active_in m ns all.1)

pub active_names : (m : Meeting) → AllByRecursion (λ (t : Task). IsActive m t.name) (active m)
unfolding active tasks
active_names m = active_in m (names m) (are_in (names m))

not_named : (m : Meeting) (ts : List Task) (name : List ℕ) → AllByRecursion (λ (t : Task). IsActive m t.name) ts → (IsActive m name → ⊥)
    → NotNamed name ts
not_named m [] name all none = tt
not_named m (t ∷ ts) name all none = by (bytes_eq t.name name) refl (not_named m ts name all.1 none)
  where
    by : (b : Bool) → bytes_eq t.name name ≡ b → NotNamed name ts → (bytes_eq t.name name ≡ false) × NotNamed name ts
    by true is rest = absurd (none (subst (IsActive m) (bytes_eq-is t.name name is) all.0))
    by false is rest = (is, rest)

pub not-active : (m : Meeting) (name : List ℕ) → (IsActive m name → ⊥) → NotNamed name (active m)
not-active m name none = not_named m (active m) name (active_names m) none

-- ---- among the news

abbrev share_at : List Task → List Share → List ℕ → Share
share_at [] ss name = no_share
share_at (t ∷ ts) [] name = no_share
share_at (t ∷ ts) (s ∷ ss) name = if bytes_eq t.name name then s else share_at ts ss name

-- a task has so much of its news, in the words of stops
record HasShare (m : Meeting) (t : Task) (s : Share) (o : Option DatabaseValue) : Type 0 where
  stands : StandsWith t (news_done (action_or_sync t.action) (found m t) s.used s.count) o
  all : given_by (news_done (action_or_sync t.action) (found m t) s.used s.count) ≡ s.used
  free : GotIds (action_or_sync t.action) (found m t) s.used

has_share : (m : Meeting) (t : Task) (is : IsReady m t) (s : Share) {o : Option DatabaseValue} → IsShare m t is.b s o → HasShare m t s o
has_share m t is s {o} share =
    let writes = take s.count (giving (choice m t) (seen_held m t) s.used) in
    let same : writes ≡ news_done (action_or_sync t.action) (found m t) s.used s.count =
    ap {A = Choice × (ℕ → SideState)} (λ p. take s.count (giving p.0 p.1 s.used)) (λ k. (chosen-is m t k, shown-is m t k)) in
    record {
      stands = subst (λ (ws : List Write). StandsWith t ws o) same (stands share.stands);
      all = ap given_by (sym same) ∙ share.has.own;
      free = subst (λ (rs : List Record). GotFreeIds (chosen (action_or_sync t.action) (found m t)) (shown (found m t)) s.used rs) (before_records is)
          (subst (λ (p : Choice × (ℕ → SideState)). GotFreeIds p.0 p.1 s.used is.b.records) (λ k. (chosen-is m t k, shown-is m t k)) share.has.free);
    }
  where
    none_taken : s.count ≡ 0 → take s.count (giving (choice m t) (seen_held m t) s.used) ≡ []
    none_taken none = ap (λ n. take n (giving (choice m t) (seen_held m t) s.used)) none

    stands : IsPart m t is.b s.count s.used o → StandsWith t (take s.count (giving (choice m t) (seen_held m t) s.used)) o
    stands (inl there) = inr (inr (record { before = is.b; is = is.before; stands = there }))
    stands (inr (inl same, none)) = inl (same, none_taken none)
    stands (inr (inr way, none)) = inr (inl (way, none_taken none))

no_news : (m : Meeting) (t : Task) {o : Option DatabaseValue} → o ≡ t.handheld → HasShare m t no_share o
no_news m t same = record { stands = inl (same, refl); all = refl; free = tt }

named_share : (m : Meeting) (ts : List Task) (ready : AreReady m ts) (ss : List Share) (databases : List DatabaseValue) (name : List ℕ) → AreTasks m ts
    → AreShared m ts ready ss databases → (NotNamed name ts → database_of name databases ≡ database_of name m.device.databases)
    → HasShare m (task_of m name) (share_at ts ss name) (database_of name databases)
named_share m [] ready [] databases name are shared others = no_news m (task_of m name) (others tt)
named_share m [] ready (s ∷ ss) databases name are shared others = absurd shared
named_share m (t ∷ ts) ready [] databases name are shared others = absurd shared
named_share m (t ∷ ts) ready (s ∷ ss) databases name are shared others =
    by (bytes_eq t.name name) refl (λ apart. named_share m ts ready.1 ss databases name are.2 shared.1 (λ unnamed. others (apart, unnamed)))
  where
    by : (b : Bool) → bytes_eq t.name name ≡ b
        → (bytes_eq t.name name ≡ false → HasShare m (task_of m name) (share_at ts ss name) (database_of name databases))
        → HasShare m (task_of m name) (if b then s else share_at ts ss name) (database_of name databases)
    by true is rest =
        let same = bytes_eq-is t.name name is in
        subst (λ n. HasShare m (task_of m n) s (database_of n databases)) same
        (subst (λ (u : Task). HasShare m u s (database_of t.name databases)) are.0 (has_share m t ready.0 s shared.0))
    by false is rest = rest is

-- the ids of all, in the order of the databases
used_apart : (t : Task) (s : Share) (ts us : List Task) (ss : List Share) → NotNamed t.name us
    → flat_map (λ (u : Task). (share_at (t ∷ ts) (s ∷ ss) u.name).used) us ≡ flat_map (λ (u : Task). (share_at ts ss u.name).used) us
used_apart t s ts [] ss unnamed = refl
used_apart t s ts (u ∷ us) ss unnamed = grind (arith, share_at ts ss u.name, bytes_eq-swap u.name t.name unnamed.0, used_apart t s ts us ss unnamed.1)

used_all : (m : Meeting) (ts : List Task) (ready : AreReady m ts) (ss : List Share) (databases : List DatabaseValue) → HaveNames ts
    → AreShared m ts ready ss databases → flat_map (λ (t : Task). (share_at ts ss t.name).used) ts ≡ all_used ss
used_all m [] ready [] databases names shared = refl
used_all m [] ready (s ∷ ss) databases names shared = absurd shared
used_all m (t ∷ ts) ready [] databases names shared = absurd shared
used_all m (t ∷ ts) ready (s ∷ ss) databases names shared =
    grind (arith, share_at ts ss t.name, bytes_eq-own t.name, used_apart t s ts ts ss names.0, used_all m ts ready.1 ss databases names.1 shared.1)

flat_same : {A B : Type 0} (xs : List A) (f g : A → List B) → ((x : A) → f x ≡ g x) → flat_map f xs ≡ flat_map g xs
flat_same [] f g same = refl
flat_same {A} {B} (x ∷ xs) f g same = ap {A = List B × List B} (λ p. p.0 ++ p.1) (λ k. (same x k, flat_same xs f g same k))

-- the ids of a name are those that are dealt out to it

-- the first ones are those of the first database
first_dealt : (m : Meeting) (t : Task) (s : Share) (ss : List Share) → length s.used ≤ add_count m t
    → (length s.used ≡ add_count m t) ⊎ (all_used ss ≡ [])
    → (take (add_count m t) (s.used ++ all_used ss) ≡ s.used) × (drop (add_count m t) (s.used ++ all_used ss) ≡ all_used ss)
first_dealt m t s ss few e = grind (arith, common_steps)

none_dealt : (m : Meeting) (ts : List Task) (name : List ℕ) → ids_dealt m ts [] name ≡ []
none_dealt m [] name = refl
none_dealt m (t ∷ ts) name = by (bytes_eq t.name name) (ap (λ is. ids_dealt m ts is name) (drop-none (add_count m t)) ∙ none_dealt m ts name)
  where
    by : (b : Bool) → ids_dealt m ts (drop (add_count m t) []) name ≡ []
        → (if b then take (add_count m t) [] else ids_dealt m ts (drop (add_count m t) []) name) ≡ []
    by true rest = take-none (add_count m t)
    by false rest = rest

used_dealt : (m : Meeting) (ts : List Task) (ready : AreReady m ts) (ss : List Share) (databases : List DatabaseValue) (name : List ℕ)
    → AreShared m ts ready ss databases → AreInTurn m ts ss → ids_dealt m ts (all_used ss) name ≡ (share_at ts ss name).used
used_dealt m [] ready ss databases name shared turn = refl
used_dealt m (t ∷ ts) ready [] databases name shared turn = none_dealt m (t ∷ ts) name
used_dealt m (t ∷ ts) ready (s ∷ ss) databases name shared turn =
    grind (arith, first_dealt m t s ss shared.0.has.few turn.0, used_dealt m ts ready.1 ss databases name shared.1 turn.1)

pub stands-among : (m : Meeting) (sound : IsSoundMeeting m) {is : List ℕ} {x : Device} → AmongPart m (ready-all sound) is x → StandsAmongNews m is x
stands-among m sound {is} {x} part =
    let ready = ready-all sound in
    let count : List ℕ → ℕ = λ name. (share_at (active m) part.shares name).count in
    let dealt : (name : List ℕ) → (share_at (active m) part.shares name).used ≡ ids_at m is name =
    λ name. sym (ap (λ js. ids_dealt m (active m) js name) part.all ∙ used_dealt m (active m) ready part.shares x.databases name part.shared part.in_turn) in
    let share : (name : List ℕ)
    → HasShare m (task_of m name) (record { count = count name; used = ids_at m is name }) (database_of name x.databases) =
    λ name. subst (λ js. HasShare m (task_of m name) (record { count = count name; used = js }) (database_of name x.databases)) (dealt name)
    (named_share m (active m) ready part.shares x.databases name (are-active m) part.shared (part.others name)) in
    record {
      count = count;
      each = λ name. (share name).stands;
      all = λ name. (share name).all;
      free = λ name. (share name).free;
      dealt = flat_same (active m) (λ (t : Task). ids_at m is t.name) (λ (t : Task). (share_at (active m) part.shares t.name).used) (λ t. sym (dealt t.name))
          ∙ used_all m (active m) ready part.shares x.databases (have-names m) part.shared ∙ sym part.all;
      others = λ name none. part.others name (not-active m name none);
      begun = part.marked;
    }

-- ---- behind the commit

abbrev count_at : List Task → List ℕ → List ℕ → ℕ
count_at [] cs name = 0
count_at (t ∷ ts) [] name = 0
count_at (t ∷ ts) (c ∷ cs) name = if bytes_eq t.name name then c else count_at ts cs name

-- a task has its news and so many of its purges, in the words of stops
record HasCleared (m : Meeting) (t : Task) (ids : List ℕ) (count : ℕ) (o : Option DatabaseValue) : Type 0 where
  stands : IsWritten t (giving (chosen (action_or_sync t.action) (found m t)) (shown (found m t)) ids ++ clearing_done (action_or_sync t.action)
      (found m t) count) o
  free : GotAllIds (action_or_sync t.action) (found m t) ids

has_cleared : (m : Meeting) (t : Task) (is : IsReady m t) (given : List ℕ) (count : ℕ) {o : Option DatabaseValue}
    → o ≡ Some (with_cleared m t count (news_records m t is given) is.b) → AreGiven m t (take (add_count m t) given) (records_of t.handheld)
    → HasCleared m t (take (add_count m t) given) count o
has_cleared m t is given count there free =
    let ids = take (add_count m t) given in
    let x = found m t in
    let a = action_or_sync t.action in
    let pair : ◌≡◌ {A = Choice × (ℕ → SideState)} (choice m t, seen_held m t) (chosen a x, shown x) = λ k. (chosen-is m t k, shown-is m t k) in
    let few = length-take (add_count m t) given in
    record {
      stands = record {
        before = is.b;
        is = is.before;
        stands = there
            ∙ ap (λ (rs : List Record). Some (with_records rs is.b))
            (sym (after-append (giving (choice m t) (seen_held m t) ids) (take count (clearing (choice m t) (seen_held m t))) is.b.records)
            ∙ ap (λ p. after (giving p.0 p.1 ids ++ take count (clearing p.0 p.1)) is.b.records) pair);
      };
      free = record {
        got = subst (λ (p : Choice × (ℕ → SideState)). GotFreeIds p.0 p.1 ids (records_of t.handheld)) pair free.free;
        each = (let most = free.each in omega (arith, few, most)) ∙ ap (λ (c : Choice). length c.adds) (chosen-is m t);
      };
    }

named_cleared : (m : Meeting) (ts : List Task) (ready : AreReady m ts) (given cs : List ℕ) (databases : List DatabaseValue) (name : List ℕ)
    → AreTasks m ts → AreCleared m ts ready given cs databases → AreDealt m ts given → IsTask (task_of m name) ts
    → HasCleared m (task_of m name) (ids_dealt m ts given name) (count_at ts cs name) (database_of name databases)
named_cleared m [] ready given cs databases name are cleared dealt there = absurd there
named_cleared m (t ∷ ts) ready given [] databases name are cleared dealt there = absurd cleared
named_cleared m (t ∷ ts) ready given (c ∷ cs) databases name are cleared dealt there =
    by (bytes_eq t.name name) refl (λ later. named_cleared m ts ready.1 (drop (add_count m t) given) cs databases name are.2 cleared.1 dealt.1 later)
  where
    ids : List ℕ
    ids = take (add_count m t) given

    rest : List ℕ
    rest = drop (add_count m t) given

    elsewhere : bytes_eq t.name name ≡ false → (t ≡ task_of m name) ⊎ IsTask (task_of m name) ts → IsTask (task_of m name) ts
    elsewhere apart (inl same) = absurd (let no : true ≡ false = sym (bytes_eq-own name) ∙ ap (λ (u : Task). bytes_eq u.name name) (sym same) ∙ apart in cc)
    elsewhere apart (inr later) = later

    by : (b : Bool) → bytes_eq t.name name ≡ b
        → (IsTask (task_of m name) ts → HasCleared m (task_of m name) (ids_dealt m ts rest name) (count_at ts cs name) (database_of name databases))
        → HasCleared m (task_of m name) (if b then ids else ids_dealt m ts rest name) (if b then c else count_at ts cs name) (database_of name databases)
    by true is later =
        subst (λ n. HasCleared m (task_of m n) ids c (database_of n databases)) (bytes_eq-is t.name name is)
        (subst (λ (u : Task). HasCleared m u ids c (database_of t.name databases)) are.0 (has_cleared m t ready.0 given c cleared.0 dealt.0))
    by false is later = later (elsewhere is there)

pub stands-behind : (m : Meeting) (sound : IsSoundMeeting m) {given ids is : List ℕ} {x : Device} → BehindPart m given (ready-all sound) ids is x
    → AreDealt m (active m) given → StandsBehindCommit m given x
unfolding merged_device
stands-behind m sound {given} {x} part dealt =
    let cleared : (name : List ℕ) → IsActive m name
    → HasCleared m (task_of m name) (ids_at m given name) (count_at (active m) part.counts name) (database_of name x.databases) =
    λ name is_active. named_cleared m (active m) (ready-all sound) given part.counts x.databases name (are-active m) part.cleared dealt
    (is-active m name is_active.there is_active.kept) in
    record {
      count = count_at (active m) part.counts;
      each = λ name is_active. (cleared name is_active).stands;
      free = λ name is_active. (cleared name is_active).free;
      others = λ name none. part.others name (not-active m name none);
      ended = part.marked;
    }
