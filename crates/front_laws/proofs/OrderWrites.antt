-- A session keeps its order while it writes, as long as its new records get free ids.
use Rattle.std.proofs.lemmas.Grind.{common_steps}
use Rattle.std.proofs.Common.{◌≡◌, inl, inr, ◌∙◌, ◌≤◌, ◌<◌, ◌+◌, refl, ap, sym, subst, ℕ, true, List, [], ◌∷◌, ◌++◌, length, map, take, drop, arith}
use Rattle.std.proofs.Common.{append_assoc}
use Rattle.std.specs.Prelude.{◌&&◌, ◌||◌, not, nat_lt, Option, Some, None, flat_map, replicate}
use Rattle.std.specs.List.{AllByRecursion}
use Rattle.std.proofs.lemmas.List.{length-append}
use Rattle.pdb_values.specs.Contents.{ContentValue}
use Rattle.pdb_values.specs.Databases.{DatabaseValue}
use Rattle.pdb_values.specs.NamedDatabases.{database_of, replaced, with_new}
use Rattle.pdb_values.specs.Names.{IsName}
use Rattle.pdb_values.specs.declared.record.Record.{Record}
use Rattle.pdb_values.specs.declared.user.UserInfo.{UserInfo}
use Rattle.palm_device.specs.Devices.{Device, most_databases}
use Rattle.palm_device.specs.Handles.{just_opened, no_handles}
use Rattle.palm_device.specs.Records.{cleaned_up, is_new, put_record, reset_flags, with_records, without_record, new_record}
use Rattle.palm_device.specs.declared.opened.Opened.{Opened}
use Rattle.palm_device.proofs.RecordLaws.{put_record_new}
use Rattle.conduit_rules.specs.Plans.{purged_ids}
use Rattle.record_merge.specs.Writes.{after, giving, purges, replaces}
use Rattle.record_merge.proofs.PutLaws.{Apart, appended}
use Rattle.desktop_session.specs.Acts.{Act}
use Rattle.desktop_session.specs.Orders.{AreAnswered, AreInOrder, IsPossible, TakesRecord, TakesRecords}
use Rattle.desktop_session.specs.Requests.{cleaning, ending, making, opening, putting, removing, resetting, writing_app, writing_sort}
use Rattle.desktop_session.specs.Tellings.{device_after}
use Rattle.desktop_session.proofs.ChangeRows.{mark_possible}
use Rattle.desktop_session.proofs.OrderLaws.{order_answered}
use Rattle.mirrors.specs.News.{as_new, purge_writes, puts}
use Rattle.session_plan.specs.Choosing.{choice, seen_held, add_count}
use Rattle.session_plan.specs.Heads.{made_head}
use Rattle.session_plan.specs.Limits.{first_over}
use Rattle.session_plan.specs.Merges.{new_database}
use Rattle.sync_session.specs.News.{all_news, block_act, block_acts, made, news_acts, news_by, opened_for, purge_acts, task_blocks, writes, replaced as replacements}
use Rattle.sync_session.specs.Reads.{opened}
use Rattle.sync_session.specs.Sessions.{after_commit, before_commit, before_writes, session, begin_mark, end_mark}
use Rattle.session_plan.specs.Skips.{active}
use Rattle.session_plan.specs.Tasks.{Meeting, Task}
use Rattle.session_plan.specs.Users.{begun_user, done_of, done_user}
use Rattle.front_laws.specs.Given.{GetFreeIds}
use Rattle.front_laws.specs.Sound.{IsSoundMeeting}
use Rattle.front_laws.proofs.EachLaws.{AreChanged, AreReady, HaveNames, changed-each, changed-other, put_at_task, put_each}
use Rattle.front_laws.proofs.MergeActs.{all_ahead, before-same, begin_is, begun, closed_device, committed, done, end_is}
use Rattle.front_laws.proofs.OpenActs.{all_closed, one_open, open_does}
use Rattle.front_laws.proofs.OrderActs.{Orderly, and_some, before_orderly, is_base, open_possible, orderly-append, orderly-around, orderly-take}
use Rattle.front_laws.proofs.PhaseActs.{AreAhead, ahead_does, ahead_few, ahead_next, ahead_room, all-keep, news-keep, purge_one, purges_all, with_all}
use Rattle.front_laws.proofs.PutActs.{IsReplacement, add_room, free-front, is_free, own_id, puts-append, replaces_do, replaces-length, room_now, room_then}
use Rattle.front_laws.proofs.ReadyLaws.{have-names, ready-all}
use Rattle.front_laws.proofs.TaskActs.{Before, HasRoom, IsBare, IsReady, bare-name, bare-writable, before_is, filled_do, filled_may, fills, fills_do, made_opens}
use Rattle.front_laws.proofs.TaskActs.{may_new, may_old, with_news}
use Rattle.front_laws.proofs.BlockActs.{app_step, may_filled, open_base, open_writable}
use Rattle.front_laws.specs.Stops.{app_alone}
use Rattle.session_plan.specs.Blocks.{GivenBlocks, blocks_for}
use Rattle.front_laws.proofs.WriteActs.{CanPut, IsSorted, MayWrite, clean_does, holding, holding_base, holding_own, purges_do, put_does, remove_does}
use Rattle.front_laws.proofs.WriteActs.{removes_do}
use Rattle.dlp_commands.proofs.WriteLaws.{room_of}
use Rattle.desktop_session.proofs.ListLaws.{after_append}

-- ---- one write

takes : (o : Opened) (d : DatabaseValue) (databases : List DatabaseValue) (rs : List Record) → MayWrite o d databases
    → TakesRecords (is_base o (with_records rs d))
takes o d databases rs may = record { writable = λ k. may.mode k && not (may.writable k); records = may.records }

module _ {o : Opened} {d : DatabaseValue} {databases : List DatabaseValue} (user : UserInfo) (may : MayWrite o d databases) where
  put_possible : (rs : List Record) (free id : ℕ) (content : ContentValue) → CanPut id content → (not (is_new id rs) || nat_lt (length rs) 65535) ≡ true
      → IsPossible (putting free 1 id content) (holding o d databases user rs)
  unfolding IsPossible
  put_possible rs free id content can room =
      and_some (TakesRecord id content.category) (holding_base may user rs) (record {
        takes = takes o d databases rs may;
        bounded = can.bounded;
        sorted = can.sorted.category;
        room = room_of (is_new id rs) (length rs) room;
      })

  -- of an open database of records that may be written
  may_take : (rs : List Record)
      → IsPossible (cleaning 1) (holding o d databases user rs) × IsPossible (resetting 1) (holding o d databases user rs) ×
      ((id : ℕ) → IsPossible (removing 1 id) (holding o d databases user rs))
  unfolding IsPossible
  may_take rs = grind (arith, and_some TakesRecords (holding_base may user rs) (takes o d databases rs may))

  -- ---- what a database gets while it is open

  replaces_orderly : (rs : List Record) (es : List (ℕ × ContentValue)) → AllByRecursion IsReplacement es → Apart es
      → length rs + length (appended rs es) ≤ 65535 → Orderly (puts 1 (replicate (length es) 0) es) (holding o d databases user rs)
  unfolding puts
  replaces_orderly rs [] each apart few = tt
  replaces_orderly rs (e ∷ es) each apart few =
      grind (
        arith,
        room_now e es rs each.0.some few,
        put_possible rs 0 e.0 e.1 each.0.can (room_now e es rs each.0.some few),
        length es,
        put_does user rs 0 e.0 e.1 may each.0.can (room_now e es rs each.0.some few),
        own_id e.0,
        replaces_orderly (put_record e.0 e.1 rs) es each.1 apart.1 (room_then e es rs apart.0 few),
      )

  adds_orderly : (rs : List Record) (given : List ℕ) (cs : List ContentValue) → AllByRecursion IsSorted cs → length rs + length cs ≤ 65535
      → Orderly (puts 1 given (as_new cs)) (holding o d databases user rs)
  unfolding puts
  adds_orderly rs [] [] each few = tt
  adds_orderly rs (g ∷ gs) [] each few = tt
  adds_orderly rs [] (c ∷ cs) each few = (
    put_possible rs 0 0 c (record { bounded = omega arith; sorted = each.0 }) (add_room rs (omega (arith, few))),
    λ free.
        let zero_free = is_free user rs 0 may free in
        absurd (let l = zero_free.some in omega (arith, l)),
  )
  adds_orderly rs (g ∷ gs) (c ∷ cs) each few =
      let can : CanPut 0 c = record { bounded = omega arith; sorted = each.0 } in
      let room = add_room rs (omega (arith, few)) in (
        put_possible rs g 0 c can room,
        λ free.
            let g_free = is_free user rs g may free in
            let grown : length (put_record g c rs) ≡ length rs + 1 =
            ap length (put_record_new g c rs g_free.none) ∙ length-append rs (new_record g c ∷ []) in
            subst (Orderly (puts 1 gs (as_new cs))) (sym (put_does user rs g 0 c may can room))
            (adds_orderly (put_record g c rs) gs cs each.1 (omega (arith, grown, few))),
      )

writes_orderly : (m : Meeting) (t : Task) (is : IsReady m t) (o : Opened) {databases : List DatabaseValue} (user : UserInfo) (ids : List ℕ)
    → MayWrite o is.b databases → HasRoom m t is.b.records → Orderly (writes m t ids) (one_open o databases user)
writes_orderly m t is o {databases} user ids may room =
    let b = is.b in
    let es = replacements m t in
    let cs = (choice m t).adds in
    let first = puts 1 (replicate (length es) 0) es in
    let second = puts 1 ids (as_new cs) in
    let between = after (replaces es) b.records in
    let few : length b.records + length (appended b.records es) ≤ 65535 = omega (arith, room) in
    let count = replaces-length es b.records is.apart in
    let order =
    orderly-append first second (holding o b databases user b.records) (replaces_orderly user may b.records es is.replaced is.apart few)
    (λ free. subst (Orderly second) (sym (replaces_do user b.records es may is.replaced is.apart few))
    (adds_orderly user may between ids cs is.adds (omega (arith, count, room)))) in
    subst (λ (acts : List Act). Orderly acts (one_open o databases user)) (sym (puts-append es (as_new cs) ids))
    (subst (Orderly (first ++ second)) (holding_own may user) order)

-- ---- the blocks, and what is written behind them

module _ {o : Opened} {d : DatabaseValue} {databases : List DatabaseValue} (user : UserInfo) (may : MayWrite o d databases) where
  app_orderly : (block : Option (List ℕ)) → Orderly (block_act writing_app 1 block) (one_open o databases user)
  unfolding IsPossible
  app_orderly None = tt
  app_orderly (Some bytes) = (rw (open_base user may) (open_writable user may), λ free. tt)

  sort_orderly : (block : Option (List ℕ)) → Orderly (block_act writing_sort 1 block) (one_open o databases user)
  unfolding IsPossible
  sort_orderly None = tt
  sort_orderly (Some bytes) = (rw (open_base user may) (open_writable user may), λ free. tt)

blocks_orderly : {o : Opened} {d : DatabaseValue} {databases : List DatabaseValue} (user : UserInfo) (may : MayWrite o d databases) (blocks : GivenBlocks)
    → Orderly (block_acts 1 blocks) (one_open o databases user)
unfolding block_acts
blocks_orderly {o} {d} {databases} user may blocks =
    orderly-append (block_act writing_app 1 blocks.app) (block_act writing_sort 1 blocks.sort) (one_open o databases user)
    (app_orderly user may blocks.app) (λ free. subst (Orderly (block_act writing_sort 1 blocks.sort)) (sym (app_step user may blocks.app))
    (sort_orderly user (may_filled (app_alone blocks) may) blocks.sort))

fills_orderly : (m : Meeting) (t : Task) (is : IsReady m t) {d : DatabaseValue} (bare : IsBare is d) (o : Opened) {databases : List DatabaseValue}
    (user : UserInfo) (ids : List ℕ) → MayWrite o d databases → HasRoom m t is.b.records → Orderly (fills m t ids) (one_open o databases user)
fills_orderly m t is bare o {databases} user ids may room =
    orderly-append (task_blocks t) (writes m t ids) (one_open o databases user) (blocks_orderly user may (blocks_for t.handheld t.rows))
    (λ free. subst (Orderly (writes m t ids)) (sym (filled_do is bare user may)) (writes_orderly m t is o user ids (filled_may is bare user may) room))

-- ---- what a database gets

orderly_for : (name : List ℕ) (acts : List Act) (old : Device) → Orderly (opened name acts) old → Orderly (opened_for name acts) old
orderly_for name acts old order = grind (arith, common_steps)

old_orderly : (m : Meeting) (t : Task) (is : IsReady m t) {d : DatabaseValue} (bare : IsBare is d) (databases : List DatabaseValue) (user : UserInfo)
    (ids : List ℕ) → database_of t.name databases ≡ Some d → HasRoom m t is.b.records
    → Orderly (opened_for t.name (fills m t ids)) (all_closed databases user)
old_orderly m t is bare databases user ids here room =
    let o = just_opened t.name 0xD0 in
    let ws = fills m t ids in
    let may = may_old is bare databases here in
    orderly_for t.name ws (all_closed databases user)
    (orderly-around databases user (opening t.name) ws (all_closed databases user) o (open_does databases user is.named here (bare-writable is bare))
    (open_possible databases user is.named here (bare-writable is bare)) (fills_orderly m t is bare o user ids may room)
    (λ free. (o, replaced (with_news m t ids is.b) databases, (fills_do is bare user ids may room free).does)))

make_possible : (rows : DatabaseValue) {d : DatabaseValue} (databases : List DatabaseValue) (user : UserInfo) → new_database (made_head rows.head) ≡ d
    → IsName d.head.name → database_of d.head.name databases ≡ None → length databases < most_databases
    → IsPossible (making (made_head rows.head)) (all_closed databases user)
unfolding IsPossible
make_possible rows databases user is named none room = grind arith

new_orderly : (m : Meeting) (t : Task) (is : IsReady m t) (rows : DatabaseValue) {d : DatabaseValue} (bare : IsBare is d) (databases : List DatabaseValue)
    (user : UserInfo) (ids : List ℕ) → new_database (made_head rows.head) ≡ d → database_of d.head.name databases ≡ None
    → length databases < most_databases → HasRoom m t is.b.records → Orderly (made (Some rows) (fills m t ids)) (all_closed databases user)
new_orderly m t is rows {d} bare databases user ids head none few room =
    let o = just_opened d.head.name 0xC0 in
    let named : IsName d.head.name = subst IsName (sym (bare-name is bare)) is.named in
    let may = may_new is bare databases none in
    orderly-around (with_new d databases) user (making (made_head rows.head)) (fills m t ids) (all_closed databases user) o
    (made_opens rows databases user head named none few) (make_possible rows databases user head named none few)
    (fills_orderly m t is bare o user ids may room) (λ free. (
      o,
      replaced (with_news m t ids is.b) (with_new d databases),
      (fills_do is bare user ids may room free).does,
    ))

news_orderly : (m : Meeting) (t : Task) (is : IsReady m t) (databases : List DatabaseValue) (user : UserInfo) (ids : List ℕ)
    → database_of t.name databases ≡ t.handheld → (t.handheld ≡ None → length databases < most_databases) → HasRoom m t is.b.records
    → Orderly (news_acts m t ids) (all_closed databases user)
unfolding news_acts
news_orderly m t is databases user ids here few room = by (before_is is)
  where
    by : Before is → Orderly (news_by t.handheld t (fills m t ids)) (all_closed databases user)
    by (inl (d, old, bare)) =
        subst (λ (h : Option DatabaseValue). Orderly (news_by h t (fills m t ids)) (all_closed databases user)) (sym old)
        (old_orderly m t is bare databases user ids (here ∙ old) room)
    by (inr (rows, no_handheld, some_rows, bare)) =
        subst (λ (p : Option DatabaseValue × Option DatabaseValue).
        Orderly (news_by p.0 (record t { rows = p.1 }) (fills m t ids)) (all_closed databases user)) (λ k. (sym no_handheld k, sym some_rows k))
        (new_orderly m t is rows bare databases user ids refl (ap (λ n. database_of n databases) (bare-name is bare) ∙ here ∙ no_handheld) (few no_handheld)
        room)

all_news_orderly : {m : Meeting} (ts : List Task) (given : List ℕ) {databases : List DatabaseValue} (user : UserInfo) → AreReady m ts
    → AreAhead m ts databases → Orderly (all_news m ts given) (all_closed databases user)
unfolding all_news
all_news_orderly [] given user ready ahead = tt
all_news_orderly {m} (t ∷ ts) given {databases} user ready ahead =
    let is = ready.0 in
    let ids = take (add_count m t) given in
    let second = all_news m ts (drop (add_count m t) given) in
    orderly-append (news_acts m t ids) second (all_closed databases user)
    (news_orderly m t is databases user ids ahead.stand.0 (ahead_few is ahead) (ahead_room is ahead))
    (λ free. subst (Orderly second) (sym (ahead_does is ahead user ids free))
    (all_news_orderly ts (drop (add_count m t) given) user ready.1 (ahead_next is ahead ids)))

-- ---- what goes

module _ {o : Opened} {d : DatabaseValue} {databases : List DatabaseValue} (user : UserInfo) (may : MayWrite o d databases) where
  removes_orderly : (rs : List Record) (ids : List ℕ) → Orderly (map (removing 1) ids) (holding o d databases user rs)
  removes_orderly rs [] = tt
  removes_orderly rs (id ∷ ids) =
      grind (arith, may_take user may rs, map (removing 1) ids, remove_does user may rs id, removes_orderly (without_record id rs) ids)

  purging_orderly : (rs : List Record) (ids : List ℕ) → Orderly (purge_writes 1 ids) (holding o d databases user rs)
  purging_orderly rs ids =
      let gone = after (purges ids) rs in
      orderly-append (map (removing 1) ids) (cleaning 1 ∷ resetting 1 ∷ []) (holding o d databases user rs) (removes_orderly rs ids)
      (λ free. subst (Orderly (cleaning 1 ∷ resetting 1 ∷ [])) (sym (removes_do user may rs ids)) (
        (may_take user may gone).0,
        λ may_clean. subst (Orderly (resetting 1 ∷ [])) (sym (clean_does user may gone)) ((may_take user may (cleaned_up gone)).1, λ may_reset. tt),
      ))

purged_orderly : (m : Meeting) (t : Task) (is : IsReady m t) (rs : List Record) (databases : List DatabaseValue) (user : UserInfo)
    → database_of t.name databases ≡ Some (with_records rs is.b) → Orderly (purge_acts m t) (all_closed databases user)
unfolding purge_acts
purged_orderly m t is rs databases user here =
    let now = with_records rs is.b in
    let o = just_opened t.name 0xD0 in
    let ids = purged_ids (choice m t).keep (seen_held m t) in
    let gone = reset_flags (cleaned_up (after (purges ids) rs)) in
    let may : MayWrite o now databases = record { here = here; mode = refl; writable = is.writable; records = is.records } in
    let own = holding_own may user in
    orderly-around databases user (opening t.name) (purge_writes 1 ids) (all_closed databases user) o
    (open_does databases user is.named here is.writable) (open_possible databases user is.named here is.writable)
    (subst (Orderly (purge_writes 1 ids)) own (purging_orderly user may rs ids)) (λ free. (
      o,
      replaced (with_records gone now) databases,
      ap (device_after (purge_writes 1 ids)) (sym own) ∙ purges_do user may rs ids,
    ))

purges_orderly : (m : Meeting) (ts : List Task) (ready : AreReady m ts) (given : List ℕ) (databases : List DatabaseValue) (user : UserInfo)
    → HaveNames ts → AreChanged m (with_news m) ts ready given databases → Orderly (flat_map (purge_acts m) ts) (all_closed databases user)
purges_orderly m [] ready given databases user names changed = tt
purges_orderly m (t ∷ ts) ready given databases user names changed =
    let is = ready.0 in
    let ids = take (add_count m t) given in
    let later = drop (add_count m t) given in
    let now = put_at_task (with_all m) t ids databases in
    orderly-append (purge_acts m t) (flat_map (purge_acts m) ts) (all_closed databases user)
    (purged_orderly m t is (after (giving (choice m t) (seen_held m t) ids) is.b.records) databases user changed.0)
    (λ free. subst (Orderly (flat_map (purge_acts m) ts)) (sym (purge_one m t is ids databases user changed.0))
    (purges_orderly m ts ready.1 later now user names.1
    (changed-other (with_news m) (with_all m) (all-keep m) ts ready.1 later databases is ids names.0 changed.1)))

-- ---- all of it

commit_orderly : (m : Meeting) (given : List ℕ) → IsSoundMeeting m → first_over m ≡ None → Orderly (before_commit m given) m.device
unfolding before_commit
commit_orderly m given sound none =
    grind (
      arith,
      all_closed m.device.databases (begun_user m.device.user),
      closed_device sound,
      begun sound m.device.databases,
      orderly-append (before_writes m) (begin_mark m ∷ (all_news m (active m) given)) m.device (before_orderly m sound),
      before_orderly m sound,
      before-same sound,
      mark_possible m.device (begun_user m.device.user) 0x40 (begin_is sound),
      all_news_orderly (active m) given (begun_user m.device.user) (ready-all sound) (all_ahead sound none),
    )

end_orderly : (m : Meeting) → IsSoundMeeting m → (databases : List DatabaseValue)
    → Orderly (end_mark m ∷ ending ∷ []) (all_closed databases (begun_user m.device.user))
unfolding IsPossible
end_orderly m sound databases =
    grind (arith, mark_possible (all_closed databases (begun_user m.device.user)) (done_user m.device.user (done_of m)) 0xF0 (end_is sound))

session_orderly : (m : Meeting) (given : List ℕ) → IsSoundMeeting m → first_over m ≡ None → Orderly (session m given) m.device
unfolding session after_commit
session_orderly m given sound none =
    let user = begun_user m.device.user in
    let ready = ready-all sound in
    let news = put_each m (with_news m) (active m) given m.device.databases in
    let gone = flat_map (purge_acts m) (active m) in
    let last : List Act = end_mark m ∷ ending ∷ [] in
    let changed = changed-each m (with_news m) (news-keep m) (active m) ready given m.device.databases (have-names m) in
    orderly-append (before_commit m given) (gone ++ last) m.device (commit_orderly m given sound none)
    (λ free. subst (Orderly (gone ++ last)) (sym (committed given sound none free).does)
    (orderly-append gone last (all_closed news user) (purges_orderly m (active m) ready given news user (have-names m) changed)
    (λ free_gone. subst (Orderly last) (sym (purges_all m (active m) ready given news user (have-names m) changed))
    (end_orderly m sound (put_each m (with_all m) (active m) given news)))))

pub session-order : (m : Meeting) (given : List ℕ) (n : ℕ) → IsSoundMeeting m → first_over m ≡ None → GetFreeIds (take n (session m given)) m.device
    → AreInOrder (take n (session m given)) m.device
session-order m given n sound none free = orderly-take n (session m given) m.device (session_orderly m given sound none) free

pub session-answered : (m : Meeting) (given : List ℕ) (n : ℕ) → IsSoundMeeting m → first_over m ≡ None → GetFreeIds (take n (session m given)) m.device
    → AreAnswered (take n (session m given)) m.device
session-answered m given n sound none free = order_answered (take n (session m given)) m.device (session-order m given n sound none free)

-- nothing is open where the end of the session is asked for, which comes last
pub session-closed : (m : Meeting) (given : List ℕ) → IsSoundMeeting m → first_over m ≡ None → GetFreeIds (session m given) m.device
    → (acts : List Act) × (session m given ≡ acts ++ ending ∷ []) × ((device_after acts m.device).handles ≡ no_handles)
unfolding session after_commit
session-closed m given sound none free =
    let user = begun_user m.device.user in
    let ready = ready-all sound in
    let news = put_each m (with_news m) (active m) given m.device.databases in
    let whole = put_each m (with_all m) (active m) given news in
    let first = before_commit m given in
    let gone = flat_map (purge_acts m) (active m) in
    let last : List Act = end_mark m ∷ [] in
    let changed = changed-each m (with_news m) (news-keep m) (active m) ready given m.device.databases (have-names m) in
    let does : device_after (first ++ (gone ++ last)) m.device ≡ all_closed whole (done_user m.device.user (done_of m)) =
    after_append first (gone ++ last) m.device
    ∙ ap (device_after (gone ++ last)) (committed given sound none (free-front first (gone ++ end_mark m ∷ ending ∷ []) m.device free)).does
    ∙ after_append gone last (all_closed news user)
    ∙ ap (device_after last) (purges_all m (active m) ready given news user (have-names m) changed)
    ∙ done sound whole in (
      first ++ (gone ++ last),
      sym (append_assoc first (gone ++ last) (ending ∷ []) ∙ ap (λ (zs : List Act). first ++ zs) (append_assoc gone last (ending ∷ []))),
      ap (λ (d : Device). d.handles) does,
    )
