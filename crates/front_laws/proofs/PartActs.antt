-- What holds of a handheld after any beginning of what one database gets.
use Rattle.std.proofs.lemmas.Grind.{common_steps}
use Rattle.std.proofs.Common.{◌≡◌, ◌⊎◌, inl, inr, ◌∙◌, ◌≤◌, ◌<◌, ◌+◌, ◌==◌, refl, ap, sym, subst, cond, ℕ, zero, suc, true, false, List, [], ◌∷◌, ◌++◌, length}
use Rattle.std.proofs.Common.{take, arith, append-nil, append_assoc}
use Rattle.std.specs.Prelude.{Option, Some, None, replicate}
use Rattle.std.specs.List.{AllByRecursion}
use Rattle.std.specs.Str.{bytes_eq}
use Rattle.std.proofs.lemmas.Bool.Decides.{nat_tests}
use Rattle.pdb_values.specs.Contents.{ContentValue}
use Rattle.pdb_values.specs.Databases.{DatabaseValue}
use Rattle.pdb_values.specs.NamedDatabases.{database_of, replaced, with_new}
use Rattle.pdb_values.specs.Names.{IsName}
use Rattle.pdb_values.specs.declared.record.Record.{Record}
use Rattle.pdb_values.specs.declared.user.UserInfo.{UserInfo}
use Rattle.pdb_values.proofs.NamedLaws.{bytes_eq-own, database_of-replaced, database_of-with_new, replaced-own}
use Rattle.palm_device.specs.Devices.{Device, most_databases}
use Rattle.palm_device.specs.Handles.{just_opened}
use Rattle.palm_device.specs.Records.{put_record, with_records}
use Rattle.palm_device.specs.declared.opened.Opened.{Opened}
use Rattle.dlp_commands.specs.Changes.{asks_by}
use Rattle.record_merge.specs.Writes.{AreFree, GotFreeIds, Write, adding, after, giving, numbered, replaces}
use Rattle.record_merge.proofs.AfterLaws.{after-append, place-first}
use Rattle.record_merge.proofs.PutLaws.{Apart, appended}
use Rattle.desktop_session.specs.Acts.{Act, acted}
use Rattle.desktop_session.specs.Requests.{closing, making, opening, putting}
use Rattle.desktop_session.specs.Tellings.{device_after}
use Rattle.mirrors.specs.News.{as_new, puts}
use Rattle.session_plan.specs.Choosing.{choice, seen_held, add_count}
use Rattle.session_plan.specs.Heads.{made_head}
use Rattle.sync_session.specs.News.{news_acts, news_by, opened_for, task_blocks, writes, replaced as replacements}
use Rattle.sync_session.specs.Reads.{opened}
use Rattle.session_plan.specs.Tasks.{Meeting, Task}
use Rattle.front_laws.specs.Repeats.{given_by}
use Rattle.front_laws.specs.Given.{id_in, ids_in}
use Rattle.front_laws.proofs.AlongLaws.{Along, Holds, along-append, along-last, along-map, along-quiet, none-in, none-told}
use Rattle.front_laws.proofs.OpenActs.{all_closed, one_open, open_does}
use Rattle.front_laws.proofs.PutActs.{IsReplacement, add_room, is_free, own_id, put-length, puts-append, replaces_do, replaces-length, room_now, room_then}
use Rattle.front_laws.proofs.TaskActs.{Before, HasRoom, IsBare, IsReady, bare-name, bare-writable, before_is, filled_do, filled_may, fills, made_opens, may_new, may_old}
use Rattle.front_laws.proofs.BlockActs.{blocks_along, blocks_ids}
use Rattle.front_laws.specs.Stops.{IsUnfilled, app_alone}
use Rattle.session_plan.specs.Blocks.{blocks_for, with_blocks}
use Rattle.session_plan.specs.Merges.{bare_before, new_database}
use Rattle.front_laws.proofs.WriteActs.{IsSorted, MayWrite, holding, holding_own, put_does, put_tells}

-- ---- what goes on from a step

pub both_of : (P : List ℕ → Device → Type 0) {ids is : List ℕ} (acts : List Act) {device other : Device} → is ≡ ids → device ≡ other
    → Along P ids acts other → Along P is acts device
both_of P acts same step along = grind arith

-- ---- replacements

record ReplacedSome (o : Opened) (d : DatabaseValue) (databases : List DatabaseValue) (user : UserInfo) (rs : List Record) (es : List (ℕ × ContentValue))
    (ids : List ℕ) (is : List ℕ) (x : Device) : Type 0 where
  same : is ≡ ids
  count : ℕ
  are : x ≡ holding o d databases user (after (take count (replaces es)) rs)

pub not_zero : (i : ℕ) → 0 < i → (i == 0) ≡ false
not_zero i some = grind (arith, nat_tests, some)

no_id : (i : ℕ) (c : ContentValue) → 0 < i → id_in (putting 0 1 i c) ≡ []
no_id i c some = none-in (putting 0 1 i c) (not_zero i some)

replaces_along : {o : Opened} {d : DatabaseValue} {databases : List DatabaseValue} (user : UserInfo) (rs : List Record) (es : List (ℕ × ContentValue))
    (ids : List ℕ) → MayWrite o d databases → AllByRecursion IsReplacement es → Apart es → length rs + length (appended rs es) ≤ 65535
    → Along (ReplacedSome o d databases user rs es ids) ids (puts 1 (replicate (length es) 0) es) (holding o d databases user rs)
unfolding puts
replaces_along user rs [] ids may each apart few = record { same = refl; count = 0; are = refl }
replaces_along {o} {d} {databases} user rs (e ∷ es) ids may each apart few = (
  record { same = refl; count = 0; are = refl },
  λ free. (
    none-told (putting 0 1 e.0 e.1) (holding o d databases user rs) (not_zero e.0 each.0.some),
    both_of (ReplacedSome o d databases user rs (e ∷ es) ids) (puts 1 (replicate (length es) 0) es)
        (ap (λ more. ids ++ more) (no_id e.0 e.1 each.0.some) ∙ append-nil ids)
        (put_does user rs 0 e.0 e.1 may each.0.can (room_now e es rs each.0.some few)
        ∙ ap (λ i. holding o d databases user (put_record i e.1 rs)) (own_id e.0))
        (along-map (ReplacedSome o d databases user (put_record e.0 e.1 rs) es ids) (ReplacedSome o d databases user rs (e ∷ es) ids) ids
        (puts 1 (replicate (length es) 0) es) (holding o d databases user (put_record e.0 e.1 rs))
        (λ is x some. record { same = some.same; count = suc some.count; are = some.are })
        (replaces_along user (put_record e.0 e.1 rs) es ids may each.1 apart.1 (room_then e es rs apart.0 few))),
  ),
)

no_ids : (es : List (ℕ × ContentValue)) → AllByRecursion IsReplacement es → ids_in (puts 1 (replicate (length es) 0) es) ≡ []
unfolding puts
no_ids [] each = refl
no_ids (e ∷ es) each = grind (arith, no_id e.0 e.1 each.0.some, no_ids es each.1)

-- ---- new records

record AddedSome (o : Opened) (d : DatabaseValue) (databases : List DatabaseValue) (user : UserInfo) (rs : List Record) (cs : List ContentValue)
    (ids : List ℕ) (is : List ℕ) (x : Device) : Type 0 where
  used : List ℕ
  are : x ≡ holding o d databases user (after (adding (numbered used cs)) rs)
  free : AreFree (numbered used cs) rs
  few : length used ≤ length cs
  all : is ≡ ids ++ used

adds_along : {o : Opened} {d : DatabaseValue} {databases : List DatabaseValue} (user : UserInfo) (rs : List Record) (given : List ℕ) (cs : List ContentValue)
    (ids : List ℕ) → MayWrite o d databases → AllByRecursion IsSorted cs → length rs + length cs ≤ 65535
    → Along (AddedSome o d databases user rs cs ids) ids (puts 1 given (as_new cs)) (holding o d databases user rs)
unfolding puts
adds_along user rs [] [] ids may each few = grind (arith, [], append-nil ids)
adds_along user rs (g ∷ gs) [] ids may each few = grind (arith, [], append-nil ids)
adds_along user rs [] (c ∷ cs) ids may each few = grind (arith, [], append-nil ids, is_free user rs 0 may)
adds_along {o} {d} {databases} user rs (g ∷ gs) (c ∷ cs) ids may each few =
    grind (
      arith,
      [],
      append-nil ids,
      is_free user rs g may,
      length (put_record g c rs),
      length rs,
      put-length g c rs,
      place-first g rs,
      put_tells o d user rs g 0 c may (record { bounded = omega arith; sorted = each.0 }) (add_room rs (omega (arith, few))),
      both_of (AddedSome o d databases user rs (c ∷ cs) ids) {ids = ids ++ g ∷ []},
      put_does user rs g 0 c may (record { bounded = omega arith; sorted = each.0 }) (add_room rs (omega (arith, few))),
      along-map (AddedSome o d databases user (put_record g c rs) cs (ids ++ g ∷ [])) (AddedSome o d databases user rs (c ∷ cs) ids) (ids ++ g ∷ [])
          (puts 1 gs (as_new cs)) (holding o d databases user (put_record g c rs)),
      holding o d databases user (put_record g c rs),
      append_assoc ids (g ∷ []),
      adds_along user (put_record g c rs) gs cs (ids ++ g ∷ []) may each.1,
    )

-- ---- so many of the writes

pub take-all : {A : Type 0} (xs : List A) → take (length xs) xs ≡ xs
take-all [] = refl
take-all (x ∷ xs) = ap (λ ys. x ∷ ys) (take-all xs)

given-replaces : (c : ℕ) (es : List (ℕ × ContentValue)) → given_by (take c (replaces es)) ≡ []
given-replaces zero es = refl
given-replaces (suc c) [] = refl
given-replaces (suc c) (e ∷ es) = given-replaces c es

given-adding : (used : List ℕ) (cs : List ContentValue) → length used ≤ length cs → given_by (adding (numbered used cs)) ≡ used
given-adding [] cs few = refl
given-adding (g ∷ gs) [] few = absurd (omega (arith, few))
given-adding (g ∷ gs) (c ∷ cs) few = ap (λ is. g ∷ is) (given-adding gs cs (omega (arith, few)))

given-behind : (es : List (ℕ × ContentValue)) (ws : List Write) → given_by (replaces es ++ ws) ≡ given_by ws
given-behind [] ws = refl
given-behind (e ∷ es) ws = given-behind es ws

-- a database has so many of its replacements and adds, with the ids that these got
pub record HasSome (m : Meeting) (t : Task) (rs : List Record) (count : ℕ) (used : List ℕ) : Type 0 where
  pub own : given_by (take count (giving (choice m t) (seen_held m t) used)) ≡ used
  pub free : GotFreeIds (choice m t) (seen_held m t) used rs
  pub few : length used ≤ add_count m t

abbrev pub with_some : Meeting → Task → ℕ → List ℕ → DatabaseValue → DatabaseValue
with_some m t count used b = with_records (after (take count (giving (choice m t) (seen_held m t) used)) b.records) b

record WrittenSome (m : Meeting) (t : Task) (b : DatabaseValue) (o : Opened) (databases : List DatabaseValue) (user : UserInfo) (ids : List ℕ)
    (is : List ℕ) (x : Device) : Type 0 where
  count : ℕ
  used : List ℕ
  are : x ≡ one_open o (replaced (with_some m t count used b) databases) user
  has : HasSome m t b.records count used
  all : is ≡ ids ++ used

-- among the replacements
module _ {m : Meeting} {t : Task} {o : Opened} {databases : List DatabaseValue} (user : UserInfo) (ids : List ℕ) where
  among_replaced : (b : DatabaseValue) {is : List ℕ} {x : Device} → ReplacedSome o b databases user b.records (replacements m t) ids is x
      → WrittenSome m t b o databases user ids is x
  among_replaced b some =
      let ws = replaces (replacements m t) in
      let same : take some.count (ws ++ []) ≡ take some.count ws = ap (take some.count) (append-nil ws) in
      record {
        count = some.count;
        used = [];
        are = some.are ∙ ap (λ zs. holding o b databases user (after zs b.records)) (sym same);
        has = record { own = ap given_by same ∙ given-replaces some.count (replacements m t); free = tt; few = omega arith };
        all = some.same ∙ sym (append-nil ids);
      }

  -- among the adds
  among_added : (b : DatabaseValue) {is : List ℕ} {x : Device}
      → AddedSome o b databases user (after (replaces (replacements m t)) b.records) (choice m t).adds ids is x
      → WrittenSome m t b o databases user ids is x
  among_added b some =
      grind (
        arith,
        take (length (giving (choice m t) (seen_held m t) some.used)) (giving (choice m t) (seen_held m t) some.used),
        take-all (giving (choice m t) (seen_held m t) some.used),
        length (giving (choice m t) (seen_held m t) some.used),
        holding o b databases user,
        after-append (replaces (replacements m t)) (adding (numbered some.used (choice m t).adds)) b.records,
        given-behind (replacements m t) (adding (numbered some.used (choice m t).adds)),
        given-adding some.used (choice m t).adds some.few,
      )

  writes_along : (is : IsReady m t) (given : List ℕ) → MayWrite o is.b databases → HasRoom m t is.b.records
      → Along (WrittenSome m t is.b o databases user ids) ids (writes m t given) (one_open o databases user)
  writes_along is given may room =
      let b = is.b in
      let es = replacements m t in
      let cs = (choice m t).adds in
      let P = WrittenSome m t b o databases user ids in
      let first = puts 1 (replicate (length es) 0) es in
      let second = puts 1 given (as_new cs) in
      let start = holding_own may user in
      let between = after (replaces es) b.records in
      let few : length b.records + length (appended b.records es) ≤ 65535 = omega (arith, room) in
      let count = replaces-length es b.records is.apart in
      let one : device_after first (one_open o databases user) ≡ holding o b databases user between =
      ap (device_after first) (sym start) ∙ replaces_do user b.records es may is.replaced is.apart few in
      subst (λ acts. Along P ids acts (one_open o databases user)) (sym (puts-append es (as_new cs) given))
      (along-append P ids first second (one_open o databases user) (subst (Along P ids first) start
      (along-map (ReplacedSome o b databases user b.records es ids) P ids first (holding o b databases user b.records)
      (λ js x some. among_replaced b some) (replaces_along user b.records es ids may is.replaced is.apart few))) (λ free. both_of P second
      (ap (λ more. ids ++ more) (no_ids es is.replaced) ∙ append-nil ids) one
      (along-map (AddedSome o b databases user between cs ids) P ids second (holding o b databases user between) (λ js x some. among_added b some)
      (adds_along user between given cs ids may is.adds (omega (arith, count, room))))))

-- ---- the databases then

-- a database has some of its news, or none of them yet: it is as it was, or on the way to its blocks
abbrev pub IsPart : Meeting → Task → DatabaseValue → ℕ → List ℕ → Option DatabaseValue → Type 0
IsPart m t b count used now =
    (now ≡ Some (with_some m t count used b)) ⊎ (((now ≡ t.handheld) ⊎ IsUnfilled t now) × (count ≡ 0))

-- a database that gets its news has some of them, and all others are as before
pub record TaskPart (m : Meeting) (t : Task) (b : DatabaseValue) (databases : List DatabaseValue) (user : UserInfo) (ids : List ℕ) (is : List ℕ)
    (x : Device) : Type 0 where
  pub count : ℕ
  pub used : List ℕ
  pub stands : IsPart m t b count used (database_of t.name x.databases)
  pub has : HasSome m t b.records count used
  pub all : is ≡ ids ++ used
  pub others : (name : List ℕ) → bytes_eq t.name name ≡ false → database_of name x.databases ≡ database_of name databases
  pub known : x.user ≡ user

-- what is said of databases and user alone
abbrev pub Respects : (List ℕ → Device → Type 0) → Type 0
Respects P = (is : List ℕ) (d e : Device) → Holds e d → P is d → P is e

respects_part : (m : Meeting) (t : Task) (b : DatabaseValue) (databases : List DatabaseValue) (user : UserInfo) (ids : List ℕ)
    → Respects (TaskPart m t b databases user ids)
respects_part m t b databases user ids is d e holds part = record {
  count = part.count;
  used = part.used;
  stands = subst (IsPart m t b part.count part.used) (ap (database_of t.name) (sym holds.databases)) part.stands;
  has = part.has;
  all = part.all;
  others = λ name apart. ap (database_of name) holds.databases ∙ part.others name apart;
  known = holds.user ∙ part.known;
}

start_part : (m : Meeting) (t : Task) (b : DatabaseValue) (databases : List DatabaseValue) (user : UserInfo) (ids : List ℕ)
    → database_of t.name databases ≡ t.handheld → TaskPart m t b databases user ids ids (all_closed databases user)
start_part m t b databases user ids here = record {
  count = 0;
  used = [];
  stands = inr (inl here, refl);
  has = record { own = refl; free = tt; few = omega arith };
  all = sym (append-nil ids);
  others = λ name apart. refl;
  known = refl;
}

written_part : (m : Meeting) (t : Task) (is : IsReady m t) (o : Opened) (databases now : List DatabaseValue) (user : UserInfo) (ids : List ℕ)
    → database_of t.name now ≡ Some is.b → ((name : List ℕ) → bytes_eq t.name name ≡ false → database_of name now ≡ database_of name databases)
    → (js : List ℕ) (x : Device) → WrittenSome m t is.b o now user ids js x → TaskPart m t is.b databases user ids js x
written_part m t is o databases now user ids here others js x some =
    let new = with_some m t some.count some.used is.b in
    let found : database_of new.head.name now ≡ Some is.b = ap (λ n. database_of n now) is.own ∙ here in
    let own : bytes_eq is.b.head.name t.name ≡ true = ap (λ n. bytes_eq n t.name) is.own ∙ bytes_eq-own t.name in
    record {
      count = some.count;
      used = some.used;
      stands = inl (ap (λ (d : Device). database_of t.name d.databases) some.are ∙ database_of-replaced t.name new is.b now found
          ∙ ap (λ c. cond c (Some new) (database_of t.name now)) own);
      has = some.has;
      all = some.all;
      others = λ name apart. ap (λ (d : Device). database_of name d.databases) some.are ∙ database_of-replaced name new is.b now found
          ∙ ap (λ n. cond (bytes_eq n name) (Some new) (database_of name now)) is.own
          ∙ ap (λ c. cond c (Some new) (database_of name now)) apart ∙ others name apart;
      known = ap (λ (d : Device). d.user) some.are;
    }

-- a stretch under the handle of an open database
pub around_along : (P : List ℕ → Device → Type 0) → Respects P
    → (first : Act) (acts : List Act) (old : Device) (o : Opened) (databases : List DatabaseValue) (user : UserInfo) (ids : List ℕ) → P ids old
    → asks_by first.asks.form first.asks.fields ≡ false → (acted first old).1 ≡ one_open o databases user → Along P ids acts (one_open o databases user)
    → Along P ids (first ∷ (acts ++ closing 1 ∷ [])) old
around_along P respects first acts old o databases user ids start none opens along = (
  start,
  λ may. (
    none-told first old none,
    both_of P (acts ++ closing 1 ∷ []) (ap (λ more. ids ++ more) (none-in first none) ∙ append-nil ids) opens
        (along-append P ids acts (closing 1 ∷ []) (one_open o databases user) along
        (λ free. along-quiet P (ids ++ ids_in acts) (closing 1 ∷ []) (device_after acts (one_open o databases user)) (refl, tt)
        (λ d holds. respects (ids ++ ids_in acts) (device_after acts (one_open o databases user)) d holds
        (along-last P ids acts (one_open o databases user) along free)))),
  ),
)

opened_for_along : (P : List ℕ → Device → Type 0) (name : List ℕ) (acts : List Act) (old : Device) (ids : List ℕ) → P ids old
    → Along P ids (opened name acts) old → Along P ids (opened_for name acts) old
opened_for_along P name acts old ids start along = grind (arith, common_steps)

-- on the way to its blocks
unfilled_part : (m : Meeting) (t : Task) (b x : DatabaseValue) (o : Opened) {d : DatabaseValue} (databases now : List DatabaseValue) (user : UserInfo)
    (ids : List ℕ) → x.head.name ≡ t.name → database_of t.name now ≡ Some d
    → ((name : List ℕ) → bytes_eq t.name name ≡ false → database_of name now ≡ database_of name databases)
    → IsPart m t b 0 [] (Some x) → TaskPart m t b databases user ids ids (one_open o (replaced x now) user)
unfilled_part m t b x o {d} databases now user ids named here others stands =
    let found : database_of x.head.name now ≡ Some d = ap (λ n. database_of n now) named ∙ here in
    let own : bytes_eq x.head.name t.name ≡ true = ap (λ n. bytes_eq n t.name) named ∙ bytes_eq-own t.name in
    record {
      count = 0;
      used = [];
      stands = subst (IsPart m t b 0 []) (sym (database_of-replaced t.name x d now found ∙ ap (λ c. cond c (Some x) (database_of t.name now)) own)) stands;
      has = record { own = refl; free = tt; few = omega arith };
      all = sym (append-nil ids);
      others = λ name apart. database_of-replaced name x d now found
          ∙ ap (λ n. cond (bytes_eq n name) (Some x) (database_of name now)) named
          ∙ ap (λ c. cond c (Some x) (database_of name now)) apart ∙ others name apart;
      known = refl;
    }

-- where it stands with its blocks
module _ {m : Meeting} {t : Task} (is : IsReady m t) {d : DatabaseValue} (bare : IsBare is d) where
  replaced_own : (now : List DatabaseValue) → database_of t.name now ≡ Some d → database_of t.name (replaced is.b now) ≡ Some is.b
  replaced_own now here =
      database_of-replaced t.name is.b d now (ap (λ n. database_of n now) is.own ∙ here)
      ∙ ap (λ c. cond c (Some is.b) (database_of t.name now)) (ap (λ n. bytes_eq n t.name) is.own ∙ bytes_eq-own t.name)

  replaced_others : (databases now : List DatabaseValue) → database_of t.name now ≡ Some d
      → ((name : List ℕ) → bytes_eq t.name name ≡ false → database_of name now ≡ database_of name databases)
      → (name : List ℕ) → bytes_eq t.name name ≡ false → database_of name (replaced is.b now) ≡ database_of name databases
  replaced_others databases now here others name apart =
      database_of-replaced name is.b d now (ap (λ n. database_of n now) is.own ∙ here)
      ∙ ap (λ n. cond (bytes_eq n name) (Some is.b) (database_of name now)) is.own
      ∙ ap (λ c. cond c (Some is.b) (database_of name now)) apart ∙ others name apart

-- its blocks, and then its news
fills_along : (m : Meeting) (t : Task) (is : IsReady m t) {d : DatabaseValue} (bare : IsBare is d) (o : Opened) (databases now : List DatabaseValue)
    (user : UserInfo) (given ids : List ℕ) → bare_before t.handheld t.rows ≡ Some d → MayWrite o d now → database_of t.name now ≡ Some d
    → ((name : List ℕ) → bytes_eq t.name name ≡ false → database_of name now ≡ database_of name databases) → HasRoom m t is.b.records
    → Along (TaskPart m t is.b databases user ids) ids (fills m t given) (one_open o now user)
fills_along m t is {d} bare o databases now user given ids before may here others room =
    let P = TaskPart m t is.b databases user ids in
    let blocks = blocks_for t.handheld t.rows in
    let device = one_open o now user in
    let name = bare-name is bare in
    let at : (x : DatabaseValue) → x.head.name ≡ t.name → IsPart m t is.b 0 [] (Some x) → P ids (one_open o (replaced x now) user) =
    λ x named stands. unfilled_part m t is.b x o databases now user ids named here others stands in
    let first : P ids device =
    subst (λ (ds : List DatabaseValue). P ids (one_open o ds user)) (replaced-own d now (ap (λ n. database_of n now) name ∙ here))
    (at d name (inr (inr (record { bare = d; is = before; stands = inl refl }), refl))) in
    let second : P ids (one_open o (replaced (with_blocks (app_alone blocks) d) now) user) =
    at (with_blocks (app_alone blocks) d) name (inr (inr (record { bare = d; is = before; stands = inr refl }), refl)) in
    let last : P ids (one_open o (replaced (with_blocks blocks d) now) user) =
    at (with_blocks blocks d) name (inl (ap (λ (x : DatabaseValue). Some x) bare.same)) in
    along-append P ids (task_blocks t) (writes m t given) device (blocks_along user may blocks P ids first second last) (λ free.
    both_of P (writes m t given) (ap (λ more. ids ++ more) (blocks_ids blocks) ∙ append-nil ids) (filled_do is bare user may)
    (along-map (WrittenSome m t is.b o (replaced is.b now) user ids) P ids (writes m t given) (one_open o (replaced is.b now) user)
    (written_part m t is o databases (replaced is.b now) user ids (replaced_own is bare now here) (replaced_others is bare databases now here others))
    (writes_along user ids is given (filled_may is bare user may) room)))

-- what one database gets
pub news_along : (m : Meeting) (t : Task) (is : IsReady m t) (databases : List DatabaseValue) (user : UserInfo) (given ids : List ℕ)
    → database_of t.name databases ≡ t.handheld → (t.handheld ≡ None → length databases < most_databases) → HasRoom m t is.b.records
    → Along (TaskPart m t is.b databases user ids) ids (news_acts m t given) (all_closed databases user)
unfolding news_acts
news_along m t is databases user given ids here few room = by (before_is is)
  where
    P : List ℕ → Device → Type 0
    P = TaskPart m t is.b databases user ids

    ws : List Act
    ws = fills m t given

    start : P ids (all_closed databases user)
    start = start_part m t is.b databases user ids here

    by : Before is → Along P ids (news_by t.handheld t ws) (all_closed databases user)
    by (inl (d, old, bare)) =
        let o = just_opened t.name 0xD0 in
        let there : database_of t.name databases ≡ Some d = here ∙ old in
        subst (λ (h : Option DatabaseValue). Along P ids (news_by h t ws) (all_closed databases user)) (sym old)
        (opened_for_along P t.name ws (all_closed databases user) ids start
        (around_along P (respects_part m t is.b databases user ids) (opening t.name) ws (all_closed databases user) o databases user ids start refl
        (open_does databases user is.named there (bare-writable is bare))
        (fills_along m t is bare o databases databases user given ids (ap (λ (h : Option DatabaseValue). bare_before h t.rows) old)
        (may_old is bare databases there) there (λ name apart. refl) room)))
    by (inr (rows, no_handheld, some_rows, bare)) =
        let d = new_database (made_head rows.head) in
        let o = just_opened d.head.name 0xC0 in
        let now = with_new d databases in
        let none : database_of d.head.name databases ≡ None = ap (λ n. database_of n databases) (bare-name is bare) ∙ here ∙ no_handheld in
        let look : (name : List ℕ) → database_of name now ≡ cond (bytes_eq t.name name) (Some d) (database_of name databases) =
        λ name. database_of-with_new name d databases none ∙ ap (λ n. cond (bytes_eq n name) (Some d) (database_of name databases)) (bare-name is bare) in
        let made_before : bare_before t.handheld t.rows ≡ Some d =
        ap {A = Option DatabaseValue × Option DatabaseValue} (λ p. bare_before p.0 p.1) (λ k. (no_handheld k, some_rows k)) in
        subst (λ (p : Option DatabaseValue × Option DatabaseValue). Along P ids (news_by p.0 (record t { rows = p.1 }) ws) (all_closed databases user))
        (λ k. (sym no_handheld k, sym some_rows k))
        (around_along P (respects_part m t is.b databases user ids) (making (made_head rows.head)) ws (all_closed databases user) o now user ids start refl
        (made_opens rows databases user refl (subst IsName (sym (bare-name is bare)) is.named) none (few no_handheld))
        (fills_along m t is bare o databases now user given ids made_before (may_new is bare databases none)
        (look t.name ∙ ap (λ c. cond c (Some d) (database_of t.name databases)) (bytes_eq-own t.name))
        (λ name apart. look name ∙ ap (λ c. cond c (Some d) (database_of name databases)) apart) room))
