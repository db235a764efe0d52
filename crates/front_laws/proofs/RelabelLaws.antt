-- A session with other ids is the same but for the ids of its new records.
use Rattle.std.proofs.lemmas.Grind.{common_steps}
use Rattle.std.proofs.Common.{◌≡◌, inl, inr, ◌∙◌, ◌+◌, refl, ap, sym, subst, ℕ, Bool, true, false, List, [], ◌∷◌, ◌++◌, length, map, take, drop, arith}
use Rattle.std.specs.Prelude.{Option, Some, None, replicate, flat_map, sum_by}
use Rattle.std.specs.List.{AllByRecursion}
use Rattle.std.proofs.lemmas.List.Sums.{sum_by-cons}
use Rattle.pdb_values.specs.Contents.{ContentValue}
use Rattle.pdb_values.specs.Databases.{DatabaseValue}
use Rattle.conduit_rules.specs.Plans.{purged_ids}
use Rattle.desktop_session.specs.Acts.{Act}
use Rattle.desktop_session.specs.Requests.{cleaning, closing, ending, making, opening, removing, resetting, writing_app, writing_sort}
use Rattle.mirrors.specs.News.{as_new, purge_writes, puts}
use Rattle.session_plan.specs.Choosing.{choice, seen_held, add_count}
use Rattle.session_plan.specs.Heads.{made_head}
use Rattle.session_plan.specs.Blocks.{GivenBlocks, blocks_for}
use Rattle.sync_session.specs.News.{all_news, block_act, block_acts, news_acts, news_by, opened_for, purge_acts, task_blocks, writes, replaced as replacements}
use Rattle.sync_session.specs.Sessions.{adds_of, after_commit, before_commit, before_writes, session, begin_mark, end_mark}
use Rattle.session_plan.specs.Skips.{active}
use Rattle.session_plan.specs.Tasks.{Meeting, Task}
use Rattle.sync_session.proofs.QuietLaws.{quiet-before_writes}
use Rattle.front_laws.specs.Given.{ids_in}
use Rattle.front_laws.specs.Sound.{IsSoundMeeting}
use Rattle.front_laws.proofs.AlongLaws.{Quiet, form_asks, quiet-all}
use Rattle.front_laws.proofs.EachLaws.{AreReady}
use Rattle.front_laws.proofs.PartActs.{not_zero}
use Rattle.front_laws.proofs.PutActs.{IsReplacement, puts-append}
use Rattle.front_laws.proofs.ReadyLaws.{ready-all}
use Rattle.front_laws.proofs.RunLaws.{asks, asks_in, count_one, given_to, ids_left, relabel}
use Rattle.front_laws.proofs.TaskActs.{Before, IsReady, before_is, fills}

-- ---- lists

abbrev pub NoAsk : List Act → Type 0
NoAsk [] = Unit {0}
NoAsk (act ∷ acts) = (asks act ≡ false) × NoAsk acts

none-append : (xs ys : List Act) → NoAsk xs → NoAsk ys → NoAsk (xs ++ ys)
none-append [] ys first second = second
none-append (x ∷ xs) ys first second = (first.0, none-append xs ys first.1 second)

pub none-same : (ids : List ℕ) (acts : List Act) → NoAsk acts → relabel ids acts ≡ acts
none-same ids [] none = refl
none-same ids (act ∷ acts) none = grind (arith, none-same ids acts none.1)

pub none-count : (acts : List Act) → NoAsk acts → asks_in acts ≡ 0
none-count [] none = refl
none-count (act ∷ acts) none = ap (λ b. count_one b (asks_in acts)) none.0 ∙ none-count acts none.1

drop_left : (b : Bool) (n : ℕ) (ids : List ℕ) → drop (count_one b n) ids ≡ drop n (ids_left b ids)
drop_left b n ids = grind (arith, common_steps)

relabel-append : (ids : List ℕ) (xs ys : List Act) → relabel ids (xs ++ ys) ≡ relabel ids xs ++ relabel (drop (asks_in xs) ids) ys
relabel-append ids [] ys = refl
relabel-append ids (x ∷ xs) ys =
    grind (
      arith,
      given_to (asks x) ids x,
      relabel-append (ids_left (asks x) ids) xs ys,
      relabel (ids_left (asks x) ids) xs,
      drop_left (asks x) (asks_in xs) ids,
    )

pub count-append : (xs ys : List Act) → asks_in (xs ++ ys) ≡ asks_in xs + asks_in ys
count-append [] ys = omega arith
count-append (x ∷ xs) ys = grind (arith, count_one (asks x), count-append xs ys, asks x)

-- no more ids are looked at than are asked for
relabel-few : (ids : List ℕ) (acts : List Act) → relabel ids acts ≡ relabel (take (asks_in acts) ids) acts
relabel-few ids [] = refl
relabel-few ids (act ∷ acts) = by (asks act) ids (λ is. relabel-few is acts)
  where
    by : (b : Bool) (is : List ℕ) → ((js : List ℕ) → relabel js acts ≡ relabel (take (asks_in acts) js) acts)
        → given_to b is act ∷ relabel (ids_left b is) acts ≡ given_to b (take (count_one b (asks_in acts)) is) act ∷ relabel
        (ids_left b (take (count_one b (asks_in acts)) is)) acts
    by true [] rest = refl
    by true (i ∷ is) rest = ap (λ (zs : List Act). record act { given = i } ∷ zs) (rest is)
    by false is rest = ap (λ (zs : List Act). act ∷ zs) (rest is)

-- one list of acts is the other with these ids, of which it asks for so many
record IsLabelled (ids : List ℕ) (n : ℕ) (bare acts : List Act) : Type 0 where
  same : acts ≡ relabel ids bare
  count : asks_in bare ≡ n

-- ---- the writes of a database

adds-labelled : (ids : List ℕ) (cs : List ContentValue) → IsLabelled ids (length cs) (puts 1 [] (as_new cs)) (puts 1 ids (as_new cs))
unfolding puts
adds-labelled [] [] = record { same = refl; count = refl }
adds-labelled (i ∷ ids) [] = record { same = refl; count = refl }
adds-labelled [] (c ∷ cs) = grind (arith, adds-labelled [] cs)
adds-labelled (i ∷ ids) (c ∷ cs) = grind (arith, adds-labelled ids cs)

none-replaced : (es : List (ℕ × ContentValue)) → AllByRecursion IsReplacement es → NoAsk (puts 1 (replicate (length es) 0) es)
unfolding puts
none-replaced [] each = tt
none-replaced (e ∷ es) each = (not_zero e.0 each.0.some, none-replaced es each.1)

writes-labelled : (m : Meeting) (t : Task) → IsReady m t → (ids : List ℕ) → IsLabelled ids (add_count m t) (writes m t []) (writes m t ids)
writes-labelled m t is ids =
    let es = replacements m t in
    let cs = (choice m t).adds in
    let first = puts 1 (replicate (length es) 0) es in
    let none = none-replaced es is.replaced in
    let adds = adds-labelled ids cs in
    let bare = puts-append es (as_new cs) [] in
    record {
      same = puts-append es (as_new cs) ids
          ∙ ap (λ (zs : List Act). first ++ zs) adds.same
          ∙ sym (ap (relabel ids) bare ∙ relabel-append ids first (puts 1 [] (as_new cs))
          ∙ ap {A = List Act × ℕ} (λ p. p.0 ++ relabel (drop p.1 ids) (puts 1 [] (as_new cs))) (λ k. (none-same ids first none k, none-count first none k)));
      count = ap asks_in bare
          ∙ (let parts = count-append first (puts 1 [] (as_new cs)) in let zero_first = none-count first none in let rest = adds.count in
          omega (arith, parts, zero_first, rest));
    }

-- the blocks ask for none
block-none : (writing : ℕ → List ℕ → Act) → ((bytes : List ℕ) → asks (writing 1 bytes) ≡ false) → (block : Option (List ℕ)) → NoAsk (block_act writing 1 block)
block-none writing each None = tt
block-none writing each (Some bytes) = (each bytes, tt)

blocks-none : (blocks : GivenBlocks) → NoAsk (block_acts 1 blocks)
unfolding block_acts
blocks-none blocks =
    none-append (block_act writing_app 1 blocks.app) (block_act writing_sort 1 blocks.sort) (block-none writing_app (λ bytes. refl) blocks.app)
    (block-none writing_sort (λ bytes. refl) blocks.sort)

fills-labelled : (m : Meeting) (t : Task) → IsReady m t → (ids : List ℕ) → IsLabelled ids (add_count m t) (fills m t []) (fills m t ids)
fills-labelled m t is ids =
    let front = task_blocks t in
    let none = blocks-none (blocks_for t.handheld t.rows) in
    let behind = writes-labelled m t is ids in
    let bare = writes m t [] in
    record {
      same = ap (λ (zs : List Act). front ++ zs) behind.same
          ∙ sym (relabel-append ids front bare
          ∙ ap {A = List Act × ℕ} (λ p. p.0 ++ relabel (drop p.1 ids) bare) (λ k. (none-same ids front none k, none-count front none k)));
      count = let parts = count-append front bare in let zero_first = none-count front none in let rest = behind.count in
          omega (arith, parts, zero_first, rest);
    }

-- what is done while a database is open
around-labelled : (ids : List ℕ) (n : ℕ) (first : Act) {bare acts : List Act} → asks first ≡ false → IsLabelled ids n bare acts
    → IsLabelled ids n (first ∷ (bare ++ closing 1 ∷ [])) (first ∷ (acts ++ closing 1 ∷ []))
around-labelled ids n first {bare} none is =
    grind (arith, [], relabel-append ids bare (closing 1 ∷ []), asks_in (bare ++ closing 1 ∷ []), count-append bare (closing 1 ∷ []))

opened-labelled : (ids : List ℕ) (n : ℕ) (name : List ℕ) {bare acts : List Act} → IsLabelled ids n bare acts
    → IsLabelled ids n (opened_for name bare) (opened_for name acts)
opened-labelled ids n name {bare} is =
    subst (λ (zs : List Act). IsLabelled ids n (opened_for name bare) (opened_for name zs)) (sym is.same) (by bare is.count)
  where
    by : (zs : List Act) → asks_in zs ≡ n → IsLabelled ids n (opened_for name zs) (opened_for name (relabel ids zs))
    by [] count = record { same = refl; count = count }
    by (z ∷ zs) count = around-labelled ids n (opening name) {bare = z ∷ zs} {acts = relabel ids (z ∷ zs)} refl (record { same = refl; count = count })

news-labelled : {m : Meeting} {t : Task} → IsReady m t → (ids : List ℕ) → IsLabelled ids (add_count m t) (news_acts m t []) (news_acts m t ids)
unfolding news_acts
news-labelled {m} {t} is ids = by (before_is is)
  where
    n : ℕ
    n = add_count m t

    by : Before is → IsLabelled ids n (news_by t.handheld t (fills m t [])) (news_by t.handheld t (fills m t ids))
    by (inl (d, old, bare)) =
        subst (λ (h : Option DatabaseValue). IsLabelled ids n (news_by h t (fills m t [])) (news_by h t (fills m t ids))) (sym old)
        (opened-labelled ids n t.name (fills-labelled m t is ids))
    by (inr (r, none, rows, bare)) =
        subst (λ (p : Option DatabaseValue × Option DatabaseValue).
        IsLabelled ids n (news_by p.0 (record t { rows = p.1 }) (fills m t [])) (news_by p.0 (record t { rows = p.1 }) (fills m t ids)))
        (λ k. (sym none k, sym rows k)) (around-labelled ids n (making (made_head r.head)) refl (fills-labelled m t is ids))

-- as many ids as are asked for
pub ids-length : (acts : List Act) → length (ids_in acts) ≡ asks_in acts
ids-length [] = refl
ids-length (act ∷ acts) = grind (arith, asks act, ids-length acts)

asks_same : (ids : List ℕ) (acts : List Act) → asks_in (relabel ids acts) ≡ asks_in acts
asks_same ids [] = refl
asks_same ids (act ∷ acts) = grind (arith, count_one (asks (given_to (asks act) ids act)), asks_same (ids_left (asks act) ids) acts, asks act)

pub news-count : (m : Meeting) (t : Task) → IsReady m t → (ids : List ℕ) → asks_in (news_acts m t ids) ≡ add_count m t
news-count m t is ids = grind (arith, news-labelled is ids, asks_same ids (news_acts m t []))

-- ---- all of a session

pub take-none : (n : ℕ) → take {A = ℕ} n [] ≡ []
take-none n = grind (arith, common_steps)

pub drop-none : (n : ℕ) → drop {A = ℕ} n [] ≡ []
drop-none n = grind (arith, common_steps)

all-labelled : (m : Meeting) (ts : List Task) → AreReady m ts → (ids : List ℕ) → all_news m ts ids ≡ relabel ids (all_news m ts [])
unfolding all_news
all-labelled m [] ready ids = refl
all-labelled m (t ∷ ts) ready ids =
    let n = add_count m t in
    let one = news-labelled ready.0 (take n ids) in
    let bare = news_acts m t [] in
    let rest = all_news m ts [] in
    let start : news_acts m t (take n []) ++ all_news m ts (drop n []) ≡ bare ++ rest =
    ap {A = List ℕ × List ℕ} (λ p. news_acts m t p.0 ++ all_news m ts p.1) (λ k. (take-none n k, drop-none n k)) in
    let own : news_acts m t (take n ids) ≡ relabel ids bare =
    one.same ∙ ap (λ k. relabel (take k ids) bare) (sym one.count) ∙ sym (relabel-few ids bare) in
    let later : all_news m ts (drop n ids) ≡ relabel (drop (asks_in bare) ids) rest =
    all-labelled m ts ready.1 (drop n ids) ∙ ap (λ k. relabel (drop k ids) rest) (sym one.count) in
    ap {A = List Act × List Act} (λ p. p.0 ++ p.1) (λ k. (own k, later k)) ∙ sym (relabel-append ids bare rest) ∙ ap (relabel ids) (sym start)

pub none-quiet : (acts : List Act) → Quiet acts → NoAsk acts
none-quiet [] quiet = tt
none-quiet (act ∷ acts) quiet = (form_asks act.asks.form act.asks.fields quiet.0, none-quiet acts quiet.1)

none-removes : (ids : List ℕ) → NoAsk (map (removing 1) ids)
none-removes [] = tt
none-removes (i ∷ ids) = (refl, none-removes ids)

none-purges : (m : Meeting) (t : Task) → NoAsk (purge_acts m t)
unfolding purge_acts
none-purges m t =
    let ids = purged_ids (choice m t).keep (seen_held m t) in (
      refl,
      none-append (purge_writes 1 ids) (closing 1 ∷ [])
          (none-append (map (removing 1) ids) (cleaning 1 ∷ resetting 1 ∷ []) (none-removes ids) (refl, (refl, tt))) (refl, tt),
    )

none-all : (m : Meeting) (ts : List Task) → NoAsk (flat_map (purge_acts m) ts)
none-all m [] = tt
none-all m (t ∷ ts) = none-append (purge_acts m t) (flat_map (purge_acts m) ts) (none-purges m t) (none-all m ts)

pub none-after : (m : Meeting) → NoAsk (after_commit m)
unfolding after_commit
none-after m = none-append (flat_map (purge_acts m) (active m)) (end_mark m ∷ ending ∷ []) (none-all m (active m)) (refl, (refl, tt))

pub before-labelled : (m : Meeting) → IsSoundMeeting m → (ids : List ℕ) → before_commit m ids ≡ relabel ids (before_commit m [])
unfolding before_commit
before-labelled m sound ids =
    let reading = before_writes m in
    let none = none-quiet reading (quiet-all reading (quiet-before_writes m)) in
    let bare = all_news m (active m) [] in
    ap (λ (zs : List Act). reading ++ begin_mark m ∷ zs) (all-labelled m (active m) (ready-all sound) ids)
    ∙ sym (relabel-append ids reading (begin_mark m ∷ bare)
    ∙ ap {A = List Act × ℕ} (λ p. p.0 ++ relabel (drop p.1 ids) (begin_mark m ∷ bare)) (λ k. (none-same ids reading none k, none-count reading none k)))

pub session-labelled : (m : Meeting) → IsSoundMeeting m → (ids : List ℕ) → session m ids ≡ relabel ids (session m [])
unfolding session
session-labelled m sound ids =
    grind (
      arith,
      before-labelled m sound ids,
      relabel ids (before_commit m []),
      none-same (drop (asks_in (before_commit m [])) ids) (after_commit m) (none-after m),
      relabel-append ids (before_commit m []) (after_commit m),
    )

-- as many ids are asked for as there are adds

all-count : (m : Meeting) (ts : List Task) → AreReady m ts → asks_in (all_news m ts []) ≡ sum_by (add_count m) ts
unfolding all_news
all-count m [] ready = refl
all-count m (t ∷ ts) ready =
    let bare = news_acts m t [] in
    let rest = all_news m ts [] in
    let start : news_acts m t (take (add_count m t) []) ++ all_news m ts (drop (add_count m t) []) ≡ bare ++ rest =
    ap {A = List ℕ × List ℕ} (λ p. news_acts m t p.0 ++ all_news m ts p.1) (λ k. (take-none (add_count m t) k, drop-none (add_count m t) k)) in
    let parts = count-append bare rest in
    let one = (news-labelled ready.0 []).count in
    let more = all-count m ts ready.1 in
    let sum = sum_by-cons (add_count m) t ts in
    ap asks_in start ∙ omega (arith, parts, one, more, sum)

pub before-count : (m : Meeting) → IsSoundMeeting m → asks_in (before_commit m []) ≡ adds_of m
unfolding before_commit adds_of
before-count m sound =
    let reading = before_writes m in
    let none = none-quiet reading (quiet-all reading (quiet-before_writes m)) in
    let parts = count-append reading (begin_mark m ∷ all_news m (active m) []) in
    let zero_first = none-count reading none in
    let news = all-count m (active m) (ready-all sound) in
    omega (arith, parts, zero_first, news)
