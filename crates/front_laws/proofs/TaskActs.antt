-- What a session makes of one database of a handheld.
use Rattle.std.proofs.lemmas.Grind.{common_steps}
use Rattle.std.proofs.Common.{◌≡◌, ◌⊎◌, inl, inr, ◌∙◌, ◌≤◌, ◌<◌, ◌+◌, refl, ap, sym, subst, cond, ℕ, Bool, true, false, List, [], ◌∷◌, ◌++◌, length, arith}
use Rattle.std.specs.Prelude.{Option, Some, None, replicate}
use Rattle.std.specs.List.{AllByRecursion}
use Rattle.std.specs.Str.{bytes_eq}
use Rattle.pdb_values.specs.Databases.{DatabaseValue}
use Rattle.pdb_values.specs.NamedDatabases.{NamesRise, database_of, replaced, with_new, with_put}
use Rattle.pdb_values.specs.Names.{IsName}
use Rattle.pdb_values.specs.declared.record.Record.{Record}
use Rattle.pdb_values.specs.declared.user.UserInfo.{UserInfo}
use Rattle.pdb_values.proofs.NamedLaws.{NamesRise-replaced, NamesRise-with_new, NamesRise-with_put, bytes_eq-own, database_of-replaced, database_of-same}
use Rattle.pdb_values.proofs.NamedLaws.{database_of-with_new, database_of-with_put, place_of-some, replaced-replaced}
use Rattle.palm_device.specs.Devices.{Device, most_databases}
use Rattle.palm_device.specs.Handles.{just_opened}
use Rattle.palm_device.specs.Heads.{is_read_only}
use Rattle.palm_device.specs.Records.{cleaned_up, reset_flags, with_records}
use Rattle.palm_device.specs.declared.opened.Opened.{Opened}
use Rattle.dlp_commands.specs.Holding.{on_records}
use Rattle.conduit_rules.specs.Plans.{purged_ids}
use Rattle.record_merge.specs.Writes.{GotFreeIds, adding, after, clean_up, clearing, giving, numbered, purges, replaces, reset}
use Rattle.record_merge.proofs.AfterLaws.{after-append}
use Rattle.record_merge.proofs.PutLaws.{Apart, appended}
use Rattle.desktop_session.specs.Acts.{Act, acted}
use Rattle.desktop_session.specs.Requests.{closing, making, opening}
use Rattle.desktop_session.specs.Tellings.{device_after}
use Rattle.desktop_session.proofs.ChangeRows.{made_does}
use Rattle.mirrors.specs.News.{as_new, purge_writes, puts}
use Rattle.session_plan.specs.Choosing.{choice, seen_held, add_count}
use Rattle.session_plan.specs.Heads.{made_head}
use Rattle.session_plan.specs.Merges.{bare_before, filled_before, handheld_before, new_database}
use Rattle.session_plan.specs.Blocks.{blocks_for, with_blocks}
use Rattle.sync_session.specs.News.{made, news_acts, news_by, opened_for, purge_acts, task_blocks, writes, replaced as replacements}
use Rattle.sync_session.specs.Reads.{opened}
use Rattle.session_plan.specs.Tasks.{Meeting, Task}
use Rattle.front_laws.specs.Given.{GetFreeIds}
use Rattle.front_laws.proofs.BlockActs.{blocks_do, may_filled}
use Rattle.front_laws.proofs.OpenActs.{all_closed, around, one_open, open_does}
use Rattle.front_laws.proofs.PutActs.{IsReplacement, adds_do, free-append, free-front, puts-append, replaces_do, replaces-length}
use Rattle.front_laws.proofs.WriteActs.{IsSorted, MayWrite, holding, holding_own, purges_do}
use Rattle.desktop_session.proofs.ListLaws.{after_append}

-- a database of a session, as it is before it: one of records that may be written, of whose news each can be put and has room
pub record IsReady (m : Meeting) (t : Task) : Type 0 where
  pub b : DatabaseValue
  pub before : handheld_before t.handheld t.rows ≡ Some b
  pub named : IsName t.name
  pub own : b.head.name ≡ t.name
  pub writable : is_read_only b.head.attributes ≡ false
  pub records : on_records b ≡ true
  pub replaced : AllByRecursion IsReplacement (replacements m t)
  pub apart : Apart (replacements m t)
  pub adds : AllByRecursion IsSorted (choice m t).adds

-- there is room for its news
abbrev pub HasRoom : Meeting → Task → List Record → Type 0
HasRoom m t rs = (length rs + length (appended rs (replacements m t))) + length (choice m t).adds ≤ 65535

-- with its news
abbrev pub with_news : Meeting → Task → List ℕ → DatabaseValue → DatabaseValue
with_news m t ids b = with_records (after (giving (choice m t) (seen_held m t) ids) b.records) b

-- each of its new records got an id that was free
pub record AreGiven (m : Meeting) (t : Task) (ids : List ℕ) (rs : List Record) : Type 0 where
  pub free : GotFreeIds (choice m t) (seen_held m t) ids rs
  pub each : add_count m t ≤ length ids

-- ---- what is written while it is open

pub record HasWritten (m : Meeting) (t : Task) (o : Opened) (b : DatabaseValue) (databases : List DatabaseValue) (user : UserInfo) (ids : List ℕ) : Type 0 where
  pub does : device_after (writes m t ids) (one_open o databases user) ≡ one_open o (replaced (with_news m t ids b) databases) user
  pub given : AreGiven m t ids b.records

pub writes_do : {m : Meeting} {t : Task} (is : IsReady m t) {o : Opened} {databases : List DatabaseValue} (user : UserInfo) (ids : List ℕ)
    → MayWrite o is.b databases → HasRoom m t is.b.records → GetFreeIds (writes m t ids) (one_open o databases user)
    → HasWritten m t o is.b databases user ids
writes_do {m} {t} is {o} {databases} user ids may room free =
    grind (
      arith,
      length (replacements m t),
      puts-append (replacements m t) (as_new ((choice m t).adds)) ids,
      one_open o databases user,
      holding o is.b databases user is.b.records,
      holding_own may user,
      holding o is.b databases user (after (replaces (replacements m t)) is.b.records),
      replaces_do user is.b.records (replacements m t) may is.replaced is.apart (omega (arith, room)),
      free-append (puts 1 (replicate (length (replacements m t)) 0) (replacements m t)) (puts 1 ids (as_new ((choice m t).adds)))
          (one_open o databases user),
      replaces-length (replacements m t) is.b.records is.apart,
      adds_do user (after (replaces (replacements m t)) is.b.records) ids ((choice m t).adds) may is.adds
          (omega (arith, (replaces-length (replacements m t) is.b.records is.apart), room)),
      after_append (puts 1 (replicate (length (replacements m t)) 0) (replacements m t)) (puts 1 ids (as_new ((choice m t).adds)))
          (one_open o databases user),
      holding o is.b databases user,
      after-append (replaces (replacements m t)) (adding (numbered ids ((choice m t).adds))) is.b.records,
    )

-- ---- the blocks, and what is written behind them

-- what a database gets
abbrev pub fills : Meeting → Task → List ℕ → List Act
fills m t ids = task_blocks t ++ writes m t ids

-- the database that is opened or made for it
pub record IsBare {m : Meeting} {t : Task} (is : IsReady m t) (d : DatabaseValue) : Type 0 where
  pub same : with_blocks (blocks_for t.handheld t.rows) d ≡ is.b

module _ {m : Meeting} {t : Task} (is : IsReady m t) {d : DatabaseValue} (bare : IsBare is d) where
  pub bare-name : d.head.name ≡ t.name
  bare-name = ap (λ (x : DatabaseValue). x.head.name) bare.same ∙ is.own

  pub bare-writable : is_read_only d.head.attributes ≡ false
  bare-writable = ap (λ (x : DatabaseValue). is_read_only x.head.attributes) bare.same ∙ is.writable

  pub bare-records : on_records d ≡ true
  bare-records = ap on_records bare.same ∙ is.records

  module _ {o : Opened} {databases : List DatabaseValue} (user : UserInfo) (may : MayWrite o d databases) where
    pub filled_do : device_after (task_blocks t) (one_open o databases user) ≡ one_open o (replaced is.b databases) user
    filled_do =
        blocks_do user may (blocks_for t.handheld t.rows)
        ∙ ap (λ (x : DatabaseValue). one_open o (replaced x databases) user) bare.same

    pub filled_may : MayWrite o is.b (replaced is.b databases)
    filled_may =
        subst (λ (x : DatabaseValue). MayWrite o x (replaced x databases)) bare.same (may_filled (blocks_for t.handheld t.rows) may)

-- while it is open
pub record HasFilled (m : Meeting) (t : Task) (o : Opened) (b : DatabaseValue) (databases : List DatabaseValue) (user : UserInfo) (ids : List ℕ) : Type 0 where
  pub does : device_after (fills m t ids) (one_open o databases user) ≡ one_open o (replaced (with_news m t ids b) databases) user
  pub given : AreGiven m t ids b.records

pub fills_do : {m : Meeting} {t : Task} (is : IsReady m t) {d : DatabaseValue} (bare : IsBare is d) {o : Opened} {databases : List DatabaseValue}
    (user : UserInfo) (ids : List ℕ)
    → MayWrite o d databases → HasRoom m t is.b.records → GetFreeIds (fills m t ids) (one_open o databases user)
    → HasFilled m t o is.b databases user ids
fills_do {m} {t} is bare {o} {databases} user ids may room free =
    let device = one_open o databases user in
    let blocks = filled_do is bare user may in
    let free_writes : GetFreeIds (writes m t ids) (one_open o (replaced is.b databases) user) =
    subst (GetFreeIds (writes m t ids)) blocks (free-append (task_blocks t) (writes m t ids) device free) in
    let written = writes_do is user ids (filled_may is bare user may) room free_writes in
    record {
      does = after_append (task_blocks t) (writes m t ids) device
          ∙ ap (device_after (writes m t ids)) blocks
          ∙ written.does
          ∙ ap (λ (ds : List DatabaseValue). one_open o ds user) (replaced-replaced is.b (with_news m t ids is.b) databases refl);
      given = written.given;
    }

-- ---- a database that the handheld has

put_there : (new : DatabaseValue) {was : DatabaseValue} (databases : List DatabaseValue) → database_of new.head.name databases ≡ Some was
    → replaced new databases ≡ with_put new databases
put_there new {was} databases here = grind (arith, place_of-some new.head.name databases was here)

-- what a database gets leaves it with its news
pub record HasNews (m : Meeting) (t : Task) (b : DatabaseValue) (databases : List DatabaseValue) (user : UserInfo) (ids : List ℕ) : Type 0 where
  pub does : device_after (news_acts m t ids) (all_closed databases user) ≡ all_closed (with_put (with_news m t ids b) databases) user
  pub given : AreGiven m t ids b.records

opened_for_does : (name : List ℕ) (acts : List Act) {old new : Device} → device_after (opened name acts) old ≡ new
    → device_after (opened name []) old ≡ old → device_after (opened_for name acts) old ≡ new
opened_for_does name acts does none = grind (arith, common_steps)

pub opened_for_free : (name : List ℕ) (acts : List Act) (old : Device) → GetFreeIds (opened_for name acts) old → GetFreeIds (opened name acts) old
opened_for_free name acts old free = grind (arith, common_steps)

pub may_old : {m : Meeting} {t : Task} (is : IsReady m t) {d : DatabaseValue} → IsBare is d → (databases : List DatabaseValue)
    → database_of t.name databases ≡ Some d → MayWrite (just_opened t.name 0xD0) d databases
may_old is bare databases here =
    record { here = here; mode = refl; writable = bare-writable is bare; records = bare-records is bare }

news_old : (m : Meeting) (t : Task) (is : IsReady m t) {d : DatabaseValue} (bare : IsBare is d) (databases : List DatabaseValue) (user : UserInfo)
    (ids : List ℕ) → database_of t.name databases ≡ Some d → HasRoom m t is.b.records
    → GetFreeIds (opened_for t.name (fills m t ids)) (all_closed databases user) → t.handheld ≡ Some d → HasNews m t is.b databases user ids
unfolding news_acts
news_old m t is bare databases user ids here room free old =
    let b = is.b in
    let o = just_opened t.name 0xD0 in
    let device = all_closed databases user in
    let ws = fills m t ids in
    let opens = open_does databases user is.named here (bare-writable is bare) in
    let free_within = (opened_for_free t.name ws device free).1 in
    let free_ws =
    free-front ws (closing 1 ∷ []) (one_open o databases user) (subst (GetFreeIds (ws ++ closing 1 ∷ [])) opens free_within) in
    let written = fills_do is bare user ids (may_old is bare databases here) room free_ws in
    let whole = around (opening t.name) ws device o o databases (replaced (with_news m t ids b) databases) user opens written.does in
    let none = around (opening t.name) [] device o o databases databases user opens refl in
    record {
      does = ap (λ (h : Option DatabaseValue). device_after (news_by h t ws) device) old
          ∙ opened_for_does t.name ws whole none
          ∙ ap (λ (ds : List DatabaseValue). all_closed ds user)
          (put_there (with_news m t ids b) databases (ap (λ n. database_of n databases) is.own ∙ here));
      given = written.given;
    }

-- ---- one that it lacks

put_new : (new b : DatabaseValue) (databases : List DatabaseValue) → new.head.name ≡ b.head.name → database_of b.head.name databases ≡ None
    → NamesRise databases → replaced new (with_new b databases) ≡ with_put new databases
put_new new b databases same none rise =
    let found : database_of new.head.name (with_new b databases) ≡ Some b = database_of-with_new new.head.name b databases none
    ∙ ap (λ n. cond (bytes_eq b.head.name n) (Some b) (database_of n databases)) same
    ∙ ap (λ c. cond c (Some b) (database_of b.head.name databases)) (bytes_eq-own b.head.name) in
    database_of-same (replaced new (with_new b databases)) (with_put new databases)
    (NamesRise-replaced new (with_new b databases) (NamesRise-with_new b databases none rise)) (NamesRise-with_put new databases rise)
    (λ name. database_of-replaced name new b (with_new b databases) found
    ∙ ap (cond (bytes_eq new.head.name name) (Some new)) (database_of-with_new name b databases none)
    ∙ ap (λ n. cond (bytes_eq new.head.name name) (Some new) (cond (bytes_eq n name) (Some b) (database_of name databases))) (sym same)
    ∙ over (bytes_eq new.head.name name) (database_of name databases) ∙ sym (database_of-with_put name new databases))
  where
    over : (c : Bool) (rest : Option DatabaseValue) → cond c (Some new) (cond c (Some b) rest) ≡ cond c (Some new) rest
    over true rest = refl
    over false rest = refl

pub may_new : {m : Meeting} {t : Task} (is : IsReady m t) {d : DatabaseValue} → IsBare is d → (databases : List DatabaseValue)
    → database_of d.head.name databases ≡ None → MayWrite (just_opened d.head.name 0xC0) d (with_new d databases)
may_new is {d} bare databases none = record {
  here = database_of-with_new d.head.name d databases none
      ∙ ap (λ c. cond c (Some d) (database_of d.head.name databases)) (bytes_eq-own d.head.name);
  mode = refl;
  writable = bare-writable is bare;
  records = bare-records is bare;
}

-- the acts that make it
pub made_opens : (rows : DatabaseValue) {d : DatabaseValue} (databases : List DatabaseValue) (user : UserInfo) → new_database (made_head rows.head) ≡ d
    → IsName d.head.name → database_of d.head.name databases ≡ None → length databases < most_databases
    → (acted (making (made_head rows.head)) (all_closed databases user)).1 ≡ one_open (just_opened d.head.name 0xC0) (with_new d databases) user
made_opens rows {d} databases user is named none room =
    grind (arith, made_does (all_closed databases user) (made_head rows.head), all_closed databases user)

news_new : (m : Meeting) (t : Task) (is : IsReady m t) (rows : DatabaseValue) {d : DatabaseValue} (bare : IsBare is d) (databases : List DatabaseValue)
    (user : UserInfo) (ids : List ℕ) → t.handheld ≡ None → t.rows ≡ Some rows → new_database (made_head rows.head) ≡ d
    → database_of d.head.name databases ≡ None → length databases < most_databases → NamesRise databases → HasRoom m t is.b.records
    → GetFreeIds (made (Some rows) (fills m t ids)) (all_closed databases user) → HasNews m t is.b databases user ids
unfolding news_acts
news_new m t is rows {d} bare databases user ids no_handheld some_rows head none few rise room free =
    let o = just_opened d.head.name 0xC0 in
    let device = all_closed databases user in
    let now = with_new d databases in
    let ws = fills m t ids in
    let opens = made_opens rows databases user head (subst IsName (sym (bare-name is bare)) is.named) none few in
    let free_ws =
    free-front ws (closing 1 ∷ []) (one_open o now user) (subst (GetFreeIds (ws ++ closing 1 ∷ [])) opens free.1) in
    let written = fills_do is bare user ids (may_new is bare databases none) room free_ws in
    let whole = around (making (made_head rows.head)) ws device o o now (replaced (with_news m t ids is.b) now) user opens written.does in
    record {
      does = ap (λ (p : Option DatabaseValue × Option DatabaseValue). device_after (news_by p.0 (record t { rows = p.1 }) ws) device)
          (λ k. (no_handheld k, some_rows k))
          ∙ whole
          ∙ ap (λ (ds : List DatabaseValue). all_closed ds user)
          (put_new (with_news m t ids is.b) d databases (sym (ap (λ (x : DatabaseValue). x.head.name) bare.same)) none rise);
      given = written.given;
    }

-- ---- either

-- what was opened or made: the handheld's database, or a new one
abbrev pub Before : {m : Meeting} {t : Task} → IsReady m t → Type 0
Before {m} {t} is =
    ((d : DatabaseValue) × (t.handheld ≡ Some d) × IsBare is d)
    ⊎ ((rows : DatabaseValue) × (t.handheld ≡ None) × (t.rows ≡ Some rows) × IsBare is (new_database (made_head rows.head)))

some_is : {x y : DatabaseValue} → Some x ≡ Some y → x ≡ y
some_is same = cc

pub bare_old : {m : Meeting} {t : Task} (is : IsReady m t) {d : DatabaseValue} → t.handheld ≡ Some d → IsBare is d
bare_old {m} {t} is old = record {
  same = some_is (ap (λ (h : Option DatabaseValue). filled_before (blocks_for t.handheld t.rows) (bare_before h t.rows)) (sym old) ∙ is.before);
}

pub before_is : {m : Meeting} {t : Task} (is : IsReady m t) → Before is
before_is {m} {t} is = by t.handheld t.rows refl refl
  where
    own : (h r : Option DatabaseValue) → t.handheld ≡ h → t.rows ≡ r
        → filled_before (blocks_for t.handheld t.rows) (bare_before h r) ≡ Some is.b
    own h r is_h is_r =
        ap {A = Option DatabaseValue × Option DatabaseValue} (λ p. filled_before (blocks_for t.handheld t.rows) (bare_before p.0 p.1))
        (λ k. (sym is_h k, sym is_r k)) ∙ is.before

    by : (h r : Option DatabaseValue) → t.handheld ≡ h → t.rows ≡ r → Before is
    by (Some d) r is_h is_r = inl (d, is_h, bare_old is is_h)
    by None (Some rows) is_h is_r = inr (rows, is_h, is_r, record { same = some_is (own None (Some rows) is_h is_r) })
    by None None is_h is_r = absurd (let no = own None None is_h is_r in cc)

pub news_do : (m : Meeting) (t : Task) (is : IsReady m t) (databases : List DatabaseValue) (user : UserInfo) (ids : List ℕ)
    → database_of t.name databases ≡ t.handheld → (t.handheld ≡ None → length databases < most_databases) → NamesRise databases
    → HasRoom m t is.b.records → GetFreeIds (news_acts m t ids) (all_closed databases user) → HasNews m t is.b databases user ids
unfolding news_acts
news_do m t is databases user ids here few rise room free = by (before_is is)
  where
    by : Before is → HasNews m t is.b databases user ids
    by (inl (d, old, bare)) =
        news_old m t is bare databases user ids (here ∙ old) room
        (subst (λ (h : Option DatabaseValue). GetFreeIds (news_by h t (fills m t ids)) (all_closed databases user)) old free) old
    by (inr (rows, no_handheld, some_rows, bare)) =
        news_new m t is rows bare databases user ids no_handheld some_rows refl
        (ap (λ n. database_of n databases) (bare-name is bare) ∙ here ∙ no_handheld) (few no_handheld) rise room
        (subst (λ (p : Option DatabaseValue × Option DatabaseValue).
        GetFreeIds (news_by p.0 (record t { rows = p.1 }) (fills m t ids)) (all_closed databases user)) (λ k. (no_handheld k, some_rows k)) free)

-- ---- what goes

-- the database with its purges behind its news
pub purged_does : (m : Meeting) (t : Task) (is : IsReady m t) (rs : List Record) (databases : List DatabaseValue) (user : UserInfo)
    → database_of t.name databases ≡ Some (with_records rs is.b) → device_after (purge_acts m t) (all_closed databases user) ≡ all_closed
    (with_put (with_records (after (clearing (choice m t) (seen_held m t)) rs) is.b) databases) user
unfolding purge_acts
purged_does m t is rs databases user here =
    let now = with_records rs is.b in
    let o = just_opened t.name 0xD0 in
    let ids = purged_ids (choice m t).keep (seen_held m t) in
    let gone = reset_flags (cleaned_up (after (purges ids) rs)) in
    let may : MayWrite o now databases = record { here = here; mode = refl; writable = is.writable; records = is.records } in
    let opens = open_does databases user is.named here is.writable in
    let does : device_after (purge_writes 1 ids) (one_open o databases user) ≡ one_open o (replaced (with_records gone now) databases) user =
    ap (device_after (purge_writes 1 ids)) (sym (holding_own may user)) ∙ purges_do user may rs ids in
    around (opening t.name) (purge_writes 1 ids) (all_closed databases user) o o databases (replaced (with_records gone now) databases) user opens does
    ∙ ap (λ (ds : List DatabaseValue). all_closed ds user)
    (put_there (with_records gone now) databases (ap (λ n. database_of n databases) is.own ∙ here)
    ∙ ap (λ (xs : List Record). with_put (with_records xs is.b) databases) (sym (after-append (purges ids) (clean_up ∷ reset ∷ []) rs)))
