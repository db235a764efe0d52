-- What a session says fits into messages.
use Rattle.std.proofs.Common.{◌≡◌, ◌≤◌, ◌<◌, ◌+◌, ◌*◌, ◌^◌, ap, sym, ℕ, zero, suc, Bool, true, false, List, [], ◌∷◌, ◌++◌, length, map, take, drop}
use Rattle.std.proofs.Common.{if◌then◌else◌, arith, lit<}
use Rattle.std.specs.Prelude.{Option, Some, None, IfSome, is_none, flat_map, replicate, max, filter}
use Rattle.std.specs.List.{AllByRecursion}
use Rattle.std.proofs.lemmas.Nat.{and_le_l}
use Rattle.pdb_values.specs.Blocks.{block_length}
use Rattle.pdb_values.specs.Contents.{ContentValue}
use Rattle.pdb_values.specs.Databases.{DatabaseValue}
use Rattle.pdb_values.specs.NamedDatabases.{database_of}
use Rattle.pdb_values.specs.Names.{IsName}
use Rattle.pdb_values.specs.declared.record.Record.{Record}
use Rattle.pdb_values.proofs.NamedLaws.{AllByRecursion-database_of}
use Rattle.palm_device.specs.Bounds.{IsBoundedDatabase, IsBoundedHead, IsBoundedRecord}
use Rattle.palm_device.specs.Records.{is_changed}
use Rattle.dlp_requests.specs.RequestTexts.{IsRequest}
use Rattle.conduit_rules.specs.ById.{id_bound}
use Rattle.conduit_rules.specs.Plans.{is_purged, purged_at, purged_ids}
use Rattle.conduit_rules.specs.States.{BaseState, SideState, base_at, first, gone, no_base, row}
use Rattle.desktop_session.specs.Acts.{Act}
use Rattle.desktop_session.specs.Lists.{id_listings, id_parts, listings}
use Rattle.desktop_session.specs.Requests.{cleaning, closing, ending, listing, listing_ids, reading_at, reading_next, reading_of, removing, resetting, writing_app}
use Rattle.desktop_session.specs.Requests.{writing_sort}
use Rattle.desktop_session.proofs.RequestFits.{at_fits, begin_fits, clean_fits, close_fits, count_fits, end_fits, ids_fit, list_fits, make_fits, mark_fits}
use Rattle.desktop_session.proofs.RequestFits.{next_fits, of_fits, open_fits, putting_fits, remove_fits, reset_fits, user_fits, write_app_fits, write_sort_fits}
use Rattle.mirrors.specs.News.{as_new, purge_writes, puts}
use Rattle.mirrors.specs.Reads as slow
use Rattle.session_plan.specs.Choosing.{base_rows, choice, is_fast, seen_held, add_count}
use Rattle.session_plan.specs.Blocks.{block_with_bytes, blocks_for}
use Rattle.session_plan.specs.Heads.{plain_attributes}
use Rattle.sync_session.specs.News.{all_news, block_act, block_acts, made, news_acts, news_by, opened_for, purge_acts, task_blocks, writes, replaced as replacements}
use Rattle.mirrors.specs.FastReads.{asks_of, fast_asks, other_reads}
use Rattle.sync_session.specs.Reads.{opened, read_acts, reads}
use Rattle.sync_session.specs.Sessions.{after_commit, before_commit, before_writes, listing_all, session, begin_mark, end_mark}
use Rattle.session_plan.specs.Skips.{active}
use Rattle.session_plan.specs.Tasks.{Meeting, Task, records_of, slot_of}
use Rattle.desktop_session.specs.Seats.{numbers_of}
use Rattle.session_plan.proofs.NumberLaws.{number_is_below}
use Rattle.desk_store.specs.Shelves.{marks_of}
use Rattle.session_plan.specs.Users.{agreed_name, begun_user, done_of, done_user, gets_number, other_user, slots_user_stays}
use Rattle.front_laws.specs.Sound.{IsSoundMeeting}
use Rattle.front_laws.proofs.MergeActs.{name_of_both}
use Rattle.front_laws.proofs.PutActs.{IsReplacement}
use Rattle.front_laws.proofs.ReadyLaws.{AreSound, IsKept, are-kept, handheld-sound, ready-of}
use Rattle.front_laws.proofs.SortedLaws.{all-below, all-flat_map, below_bound, found}
use Rattle.front_laws.proofs.TaskActs.{IsReady, fills}
use Rattle.front_laws.proofs.WriteActs.{IsSorted}
use Rattle.desk_journal.proofs.StepLaws.{all_weaken, all-append}

abbrev pub FitsOne : Act → Type 0
FitsOne act = IsRequest act.asks

abbrev pub Fit : List Act → Type 0
Fit acts = AllByRecursion FitsOne acts

one : 1 < 2 ^ 8
one = lit< tt

fit-append : (xs ys : List Act) → Fit xs → Fit ys → Fit (xs ++ ys)
fit-append xs ys first second = all-append FitsOne xs ys first second

fit-replicate : (n : ℕ) (act : Act) → FitsOne act → Fit (replicate n act)
fit-replicate zero act fits = tt
fit-replicate (suc n) act fits = (fits, fit-replicate n act fits)

-- ---- the reading

fit-listings : (n : ℕ) → n ≤ 65536 → Fit (listings n)
unfolding listings
fit-listings zero few = tt
fit-listings (suc n) few = fit-append (listings n) (listing n ∷ []) (fit-listings n (omega (arith, few))) (list_fits n (omega (arith, few)), tt)

fit-ids : (n : ℕ) → n ≤ 9 → Fit (id_listings 1 n)
unfolding id_listings
fit-ids zero few = tt
fit-ids (suc n) few =
    fit-append (id_listings 1 n) (listing_ids 1 (8000 * n) ∷ []) (fit-ids n (omega (arith, few))) (ids_fit 1 (8000 * n) one (omega (arith, few)), tt)

fit-each : (n : ℕ) → n ≤ 65536 → Fit (slow.reads 1 n)
unfolding slow.reads
fit-each zero few = tt
fit-each (suc n) few = fit-append (slow.reads 1 n) (reading_at 1 n ∷ []) (fit-each n (omega (arith, few))) (at_fits 1 n one (omega (arith, few)), tt)

fit-asks_of : (base : List Record) (o : Option Record) → IfSome o IsBoundedRecord → Fit (asks_of base 1 o)
fit-asks_of base None is = tt
fit-asks_of base (Some r) is = by (is_changed r) (base_at base false r.id)
  where
    asked : Fit (reading_of 1 r.id ∷ [])
    asked = (of_fits 1 r.id one (let l = is.id in omega (arith, l)), tt)

    by : (changed : Bool) (there : BaseState) → Fit (if changed then [] else other_reads 1 r.id there)
    by true there = tt
    by false (row content) = tt
    by false no_base = asked
    by false (gone content) = asked

few_parts : (n : ℕ) → n ≤ 65535 → id_parts n ≤ 9
few_parts n few = omega (arith, few)

fit-fast : (base records : List Record) → AllByRecursion IsBoundedRecord records → length records ≤ 65535 → Fit (fast_asks base 1 records)
fit-fast base records bounded few =
    grind (
      arith,
      length records,
      length (filter is_changed records),
      count_fits 1 one,
      fit-append (id_listings 1 (id_parts (length records))),
      fit-ids (id_parts (length records)) (few_parts (length records) few),
      fit-append (replicate (suc (length (filter is_changed records))) (reading_next 1)),
      fit-replicate (suc (length (filter is_changed records))) (reading_next 1) (next_fits 1 one),
      all-below FitsOne,
      fit-asks_of base,
      found IsBoundedRecord,
    )

fit-reads : (m : Meeting) (t : Task) → AreSound (records_of t.handheld) → Fit (reads m t)
fit-reads m t own = by (is_fast m t)
  where
    by : (fast : Bool) → Fit (if fast then fast_asks (base_rows t) 1 (records_of t.handheld) else slow.slow_reads 1 (length (records_of t.handheld)))
    by true = fit-fast (base_rows t) (records_of t.handheld) own.kept own.few
    by false = (count_fits 1 one, fit-each (length (records_of t.handheld)) (let l = own.few in omega (arith, l)))

fit-opened : {name : List ℕ} (acts : List Act) → IsName name → Fit acts → Fit (opened name acts)
fit-opened {name} acts named fits = (open_fits 0xD0 name (lit< tt) named, fit-append acts (closing 1 ∷ []) fits (close_fits 1 one, tt))

fit-read_acts : (m : Meeting) (t : Task) → AreSound (records_of t.handheld) → IsName t.name → Fit (read_acts m t)
unfolding read_acts
fit-read_acts m t own named = by (is_none t.handheld)
  where
    by : (none : Bool) → Fit (if none then [] else opened t.name (reads m t))
    by true = tt
    by false = fit-opened (reads m t) named (fit-reads m t own)

-- ---- the writes

pub record Puttable (e : ℕ × ContentValue) : Type 0 where
  pub bounded : e.0 ≤ 16777215
  pub sorted : IsSorted e.1

fit-puts : (given : List ℕ) (es : List (ℕ × ContentValue)) → AllByRecursion Puttable es → Fit (puts 1 given es)
unfolding puts
fit-puts given [] all = tt
fit-puts [] (e ∷ es) all = (
  (let id = all.0.bounded in let sort = all.0.sorted.category in putting_fits 1 e.0 e.1 one (omega (arith, id)) (omega (arith, sort)) all.0.sorted.short),
  fit-puts [] es all.1,
)
fit-puts (g ∷ gs) (e ∷ es) all = (
  (let id = all.0.bounded in let sort = all.0.sorted.category in putting_fits 1 e.0 e.1 one (omega (arith, id)) (omega (arith, sort)) all.0.sorted.short),
  fit-puts gs es all.1,
)

new_puttable : (cs : List ContentValue) → AllByRecursion IsSorted cs → AllByRecursion Puttable (as_new cs)
new_puttable [] all = tt
new_puttable (c ∷ cs) all = (record { bounded = omega arith; sorted = all.0 }, new_puttable cs all.1)

fit-writes : (m : Meeting) (t : Task) → IsReady m t → (given : List ℕ) → Fit (writes m t given)
fit-writes m t is given =
    grind (
      arith,
      fit-puts (replicate (length (replacements m t)) 0 ++ given) (replacements m t ++ as_new (choice m t).adds),
      length (replacements m t),
      all-append Puttable (replacements m t) (as_new (choice m t).adds),
      all_weaken IsReplacement Puttable (replacements m t),
      new_puttable (choice m t).adds is.adds,
    )

fit-opened_for : {name : List ℕ} (acts : List Act) → IsName name → Fit acts → Fit (opened_for name acts)
fit-opened_for [] named fits = tt
fit-opened_for (act ∷ acts) named fits = fit-opened (act ∷ acts) named fits

plain_bound : (a : ℕ) → a < 2 ^ 16 → plain_attributes a < 2 ^ 16
plain_bound a l = let less = and_le_l a 0x7FFB in omega (arith, l, less)

fit-made : (o : Option DatabaseValue) (acts : List Act) → IfSome o (λ (d : DatabaseValue). IsBoundedHead d.head) → Fit acts → Fit (made o acts)
fit-made None acts bounded fits = tt
fit-made (Some d) acts bounded fits = (
  make_fits d.head.creator.0 d.head.kind.0 (plain_attributes d.head.attributes) d.head.version d.head.name bounded.creator bounded.kind
      (plain_bound d.head.attributes bounded.attributes) bounded.version bounded.name,
  fit-append acts (closing 1 ∷ []) fits (close_fits 1 one, tt),
)

fit-block : (writing : ℕ → List ℕ → Act) → ((bytes : List ℕ) → length bytes ≤ 65500 → FitsOne (writing 1 bytes)) → (block : Option (List ℕ))
    → block_length block ≤ 65500 → Fit (block_act writing 1 (block_with_bytes block))
fit-block writing fits None short = tt
fit-block writing fits (Some []) short = tt
fit-block writing fits (Some (byte ∷ bytes)) short = (fits (byte ∷ bytes) short, tt)

-- a block of a database can be written
fit-blocks : (h r : Option DatabaseValue) → IfSome r IsBoundedDatabase → Fit (block_acts 1 (blocks_for h r))
unfolding block_acts
fit-blocks (Some d) r bounded = tt
fit-blocks None None bounded = tt
fit-blocks None (Some d) bounded =
    fit-append (block_act writing_app 1 (block_with_bytes d.app)) (block_act writing_sort 1 (block_with_bytes d.sort))
    (fit-block writing_app (λ bytes short. write_app_fits 1 bytes one short) d.app bounded.whole.short_app)
    (fit-block writing_sort (λ bytes short. write_sort_fits 1 bytes one short) d.sort bounded.whole.short_sort)

fit-fills : (m : Meeting) (t : Task) → IsReady m t → IfSome t.rows IsBoundedDatabase → (given : List ℕ) → Fit (fills m t given)
fit-fills m t is bounded given =
    fit-append (task_blocks t) (writes m t given) (fit-blocks t.handheld t.rows bounded) (fit-writes m t is given)

head_bounded : (o : Option DatabaseValue) → IfSome o IsBoundedDatabase → IfSome o (λ (d : DatabaseValue). IsBoundedHead d.head)
head_bounded None bounded = tt
head_bounded (Some d) bounded = bounded.head

fit-news : (m : Meeting) (t : Task) → IsReady m t → IfSome t.rows IsBoundedDatabase → (given : List ℕ) → Fit (news_acts m t given)
unfolding news_acts
fit-news m t is bounded given = by t.handheld
  where
    by : (h : Option DatabaseValue) → Fit (news_by h t (fills m t given))
    by None = fit-made t.rows (fills m t given) (head_bounded t.rows bounded) (fit-fills m t is bounded given)
    by (Some d) = fit-opened_for (fills m t given) is.named (fit-fills m t is bounded given)

fit-removes : (ids : List ℕ) → AllByRecursion (λ (i : ℕ). i ≤ 16777215) ids → Fit (map (removing 1) ids)
fit-removes [] all = tt
fit-removes (i ∷ ids) all = (remove_fits 1 i one (let l = all.0 in omega (arith, l)), fit-removes ids all.1)

purged_bounded : (keep : ℕ → Option ContentValue) (h : ℕ → SideState) → AllByRecursion (λ (i : ℕ). i ≤ 16777215) (purged_ids keep h)
purged_bounded keep h =
    all-below (λ (i : ℕ). i ≤ 16777215) (λ i. purged_at (keep i) (h i) i) id_bound (λ i l. by i (is_purged (keep i) (h i)) (below_bound i l))
  where
    by : (i : ℕ) (b : Bool) → i ≤ 16777215 → AllByRecursion (λ (j : ℕ). j ≤ 16777215) (if b then i ∷ [] else [])
    by i true l = (l, tt)
    by i false l = tt

fit-purges : (m : Meeting) (t : Task) → IsName t.name → Fit (purge_acts m t)
unfolding purge_acts
fit-purges m t named =
    let ids = purged_ids (choice m t).keep (seen_held m t) in
    fit-opened (purge_writes 1 ids) named
    (fit-append (map (removing 1) ids) (cleaning 1 ∷ resetting 1 ∷ []) (fit-removes ids (purged_bounded (choice m t).keep (seen_held m t)))
    (clean_fits 1 one, (reset_fits 1 one, tt)))

-- ---- all of it

-- what has to be known of each database
record IsFit (m : Meeting) (t : Task) : Type 0 where
  ready : IsReady m t
  own : AreSound (records_of t.handheld)
  rows : IfSome t.rows IsBoundedDatabase

is_fit : (m : Meeting) → IsSoundMeeting m → (t : Task) → IsKept m t → IsFit m t
is_fit m sound t is =
    record { ready = ready-of m sound t is; own = handheld-sound sound t is.is; rows = by t.rows (ap (λ (x : Task). x.rows) is.is) }
  where
    by : (r : Option DatabaseValue) → r ≡ database_of t.name (slot_of m).shelves.rows → IfSome r IsBoundedDatabase
    by None there = tt
    by (Some d) there =
        AllByRecursion-database_of IsBoundedDatabase t.name (slot_of m).shelves.rows d sound.slot.rows (sym there)

all_fit : {m : Meeting} → IsSoundMeeting m → AllByRecursion (IsFit m) (active m)
all_fit {m} sound = all_weaken (IsKept m) (IsFit m) (active m) (is_fit m sound) (are-kept m)

fit-all_news : (m : Meeting) (ts : List Task) → AllByRecursion (IsFit m) ts → (given : List ℕ) → Fit (all_news m ts given)
unfolding all_news
fit-all_news m [] fit given = tt
fit-all_news m (t ∷ ts) fit given =
    fit-append (news_acts m t (take (add_count m t) given)) (all_news m ts (drop (add_count m t) given))
    (fit-news m t fit.0.ready fit.0.rows (take (add_count m t) given)) (fit-all_news m ts fit.1 (drop (add_count m t) given))

module _ {m : Meeting} (sound : IsSoundMeeting m) where
  fit-begin : FitsOne (begin_mark m)
  fit-begin =
      let user = sound.device.bounded.user in
      mark_fits (begun_user m.device.user) 0x40 user.number user.viewer (lit< tt) (lit< tt) user.short user.no_zero

  user_of_both : (done_of m).user < 2 ^ 32
  user_of_both = by (gets_number (marks_of m.slots) m.wishes.user.name m.device.user (slot_of m).marks) (slots_user_stays m.device.user (slot_of m).marks)
    where
      new : ℕ
      new = other_user m.wishes.date m.wishes.user.name (marks_of m.slots) m.device.user (slot_of m).marks

      by : (gets stays : Bool) → (if gets then new else if stays then (slot_of m).marks.user else m.device.user.user) < 2 ^ 32
      by true stays = number_is_below m.wishes.date (agreed_name m.wishes.user.name m.device.user (slot_of m).marks) (slot_of m).marks.user
          (m.device.user.user ∷ numbers_of (marks_of m.slots))
      by false true = sound.slot.number
      by false false = sound.device.bounded.user.number

  fit-end : FitsOne (end_mark m)
  fit-end =
      let name = name_of_both sound in
      mark_fits (done_user m.device.user (done_of m)) 0xF0 user_of_both sound.device.bounded.user.viewer sound.slot.pc (lit< tt)
      name.0 name.1

  pub fit-before : Fit (before_writes m)
  unfolding before_writes listing_all
  fit-before =
      let count = max 1 (length m.device.databases) in
      let few : count ≤ 65536 = (let l = sound.device.sound.few in omega (arith, l)) in
      let reading = flat_map (read_acts m) (active m) in (
        user_fits,
        (
          begin_fits,
          fit-append (listings count) reading (fit-listings count few)
              (all-flat_map (IsFit m) FitsOne (read_acts m) (active m) (λ t fit. fit-read_acts m t fit.own fit.ready.named) (all_fit sound)),
        ),
      )

  pub fit-commit : (given : List ℕ) → Fit (before_commit m given)
  unfolding before_commit
  fit-commit given =
      fit-append (before_writes m) (begin_mark m ∷ all_news m (active m) given) fit-before (fit-begin, fit-all_news m (active m) (all_fit sound) given)

  pub fit-after : Fit (after_commit m)
  unfolding after_commit
  fit-after =
      fit-append (flat_map (purge_acts m) (active m)) (end_mark m ∷ ending ∷ [])
      (all-flat_map (IsFit m) FitsOne (purge_acts m) (active m) (λ t fit. fit-purges m t fit.ready.named) (all_fit sound)) (fit-end, (end_fits, tt))

  pub fit-session : (given : List ℕ) → Fit (session m given)
  unfolding session
  fit-session given = fit-append (before_commit m given) (after_commit m) (fit-commit given) fit-after
