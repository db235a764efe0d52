-- What a stopped session leaves can be read: its ids are those of records.
use Rattle.std.proofs.Common.{◌≡◌, ℕ, zero, suc, ◌<◌, ◌≤◌, ◌^◌, List, [], ◌∷◌, ◌++◌, refl, ap, ◌∙◌, sym, subst, arith, true, Option, Some, None, map}
use Rattle.std.proofs.Common.{filter, nat_lt, take}
use Rattle.std.proofs.lemmas.Bool.Decides.{nat_tests}
use Rattle.pdb_values.specs.Contents.{ContentValue}
use Rattle.pdb_values.specs.Records.{is_live}
use Rattle.pdb_values.specs.declared.record.Record.{Record}
use Rattle.palm_device.specs.Records.{clean, put_record, without_record}
use Rattle.palm_device.specs.Soundness.{ids_of, AreIds}
use Rattle.palm_device.proofs.IdLaws.{AreIds-filter, AreIds-put, AreIds-without_record}
use Rattle.conduit_rules.specs.ById.{id_bound, with_id}
use Rattle.conduit_rules.specs.Plans.{replacement, replaced_rows, purged_ids}
use Rattle.conduit_rules.specs.States.{held_where}
use Rattle.conduit_rules.specs.declared.action.Action.{Action}
use Rattle.conduit_rules.proofs.ByIdLaws.{id_bound-is, each_below-zero}
use Rattle.record_merge.specs.Merging.{AreBounded}
use Rattle.record_merge.specs.Writes.{Write, replace, add, purge, clean_up, reset, after, numbered, replaces, adding, purges, giving, clearing, AreFree}
use Rattle.record_merge.proofs.PutLaws.{without_record-nil, without_record-cons}
use Rattle.record_merge.proofs.SettledLaws.{first-zero}
use Rattle.record_merge.proofs.ShownLaws.{slow_shows}
use Rattle.front_laws.specs.Repeats.{Finding, IsRead, chosen, shown, sides, GotIds, news_done, clearing_done, left_among_news, left_behind_commit}
use Rattle.front_laws.proofs.FirstLaws.{with_ids, with_ids-suc}
use Rattle.record_merge.proofs.BoundLaws.{bounded-filter, bounded-clean, bounded-put}
use Rattle.record_merge.proofs.AgainLaws.{kept_zero}

-- each id that is written to is one that a record can have
abbrev CanWrite : List Write → Type 0
CanWrite [] = Unit {0}
CanWrite (replace i c ∷ ws) = (0 < i) × (nat_lt i id_bound ≡ true) × CanWrite ws
CanWrite (add g c ∷ ws) = (0 < g) × (nat_lt g id_bound ≡ true) × CanWrite ws
CanWrite (purge i ∷ ws) = CanWrite ws
CanWrite (clean_up ∷ ws) = CanWrite ws
CanWrite (reset ∷ ws) = CanWrite ws

can-take : (n : ℕ) (ws : List Write) → CanWrite ws → CanWrite (take n ws)
can-take zero ws can = tt
can-take (suc n) [] can = tt
can-take (suc n) (replace i c ∷ ws) can = (can.0, can.1, can-take n ws can.2)
can-take (suc n) (add g c ∷ ws) can = (can.0, can.1, can-take n ws can.2)
can-take (suc n) (purge i ∷ ws) can = can-take n ws can
can-take (suc n) (clean_up ∷ ws) can = can-take n ws can
can-take (suc n) (reset ∷ ws) can = can-take n ws can

can-append : (ws vs : List Write) → CanWrite ws → CanWrite vs → CanWrite (ws ++ vs)
can-append [] vs can more = more
can-append (replace i c ∷ ws) vs can more = (can.0, can.1, can-append ws vs can.2 more)
can-append (add g c ∷ ws) vs can more = (can.0, can.1, can-append ws vs can.2 more)
can-append (purge i ∷ ws) vs can more = can-append ws vs can more
can-append (clean_up ∷ ws) vs can more = can-append ws vs can more
can-append (reset ∷ ws) vs can more = can-append ws vs can more

-- ---- what they leave

ids-clean : (records : List Record) → ids_of (map clean records) ≡ ids_of records
ids-clean [] = refl
ids-clean (r ∷ records) = ap (λ is. r.id ∷ is) (ids-clean records)

ids-after : (ws : List Write) (records : List Record) → CanWrite ws → AreIds (ids_of records) → AreIds (ids_of (after ws records))
ids-after [] records can ids = ids
ids-after (replace i c ∷ ws) records can ids = ids-after ws (put_record i c records) can.2 (AreIds-put i c records can.0 ids)
ids-after (add g c ∷ ws) records can ids = ids-after ws (put_record g c records) can.2 (AreIds-put g c records can.0 ids)
ids-after (purge i ∷ ws) records can ids = ids-after ws (without_record i records) can (AreIds-without_record i records ids)
ids-after (clean_up ∷ ws) records can ids = ids-after ws (filter is_live records) can (AreIds-filter is_live records ids)
ids-after (reset ∷ ws) records can ids = ids-after ws (map clean records) can (subst AreIds (sym (ids-clean records)) ids)

bounded-without : (i : ℕ) (records : List Record) → AreBounded records → AreBounded (without_record i records)
bounded-without i [] bounded = subst AreBounded (sym (without_record-nil i)) tt
bounded-without i (r ∷ records) bounded = grind (arith, without_record-cons i r records, bounded-without i records bounded.1)

bounded-after : (ws : List Write) (records : List Record) → CanWrite ws → AreBounded records → AreBounded (after ws records)
bounded-after [] records can bounded = bounded
bounded-after (replace i c ∷ ws) records can bounded = bounded-after ws (put_record i c records) can.2 (bounded-put i c records can.1 bounded)
bounded-after (add g c ∷ ws) records can bounded = bounded-after ws (put_record g c records) can.2 (bounded-put g c records can.1 bounded)
bounded-after (purge i ∷ ws) records can bounded = bounded-after ws (without_record i records) can (bounded-without i records bounded)
bounded-after (clean_up ∷ ws) records can bounded = bounded-after ws (filter is_live records) can (bounded-filter is_live records bounded)
bounded-after (reset ∷ ws) records can bounded = bounded-after ws (map clean records) can (bounded-clean records bounded)

-- ---- the writes of a session

rows_append : (xs ys : List (ℕ × ContentValue)) → CanWrite (replaces xs) → CanWrite (replaces ys) → CanWrite (replaces (xs ++ ys))
rows_append [] ys can more = more
rows_append (x ∷ xs) ys can more = (can.0, can.1, rows_append xs ys can.2 more)

can-rows : (f : ℕ → Option ContentValue) (n : ℕ) → f 0 ≡ None → n ≤ id_bound → CanWrite (replaces (with_ids f n))
can-rows f zero none l = subst (λ es. CanWrite (replaces es)) (sym (each_below-zero (λ i. with_id i (f i)))) tt
can-rows f (suc n) none l = subst (λ es. CanWrite (replaces es)) (sym (with_ids-suc f n))
    (rows_append (with_ids f n) (with_id n (f n)) (can-rows f n none (omega (arith, l))) (one n (f n) refl l))
  where
    one : (m : ℕ) (o : Option ContentValue) → f m ≡ o → suc m ≤ id_bound → CanWrite (replaces (with_id m o))
    one m None is l = tt
    one zero (Some c) is l = absurd (let no_row : Some c ≡ None = sym is ∙ none in cc)
    one (suc m) (Some c) is l = (omega arith, inside (suc m) id_bound l, tt)
      where
        inside : (i n : ℕ) → suc i ≤ n → nat_lt i n ≡ true
        inside i n l = grind (arith, nat_tests, l)

can-adds : (es : List (ℕ × ContentValue)) (now : List Record) → AreFree es now → CanWrite (adding es)
can-adds [] now free = tt
can-adds (e ∷ es) now free = (
  free.0.some,
  subst (λ n. nat_lt e.0 n ≡ true) (sym id_bound-is) (below e.0 free.0.bound),
  can-adds es (put_record e.0 e.1 now) free.1,
)
  where
    below : (n : ℕ) → n ≤ 16777215 → nat_lt n (2 ^ 24) ≡ true
    below n l = grind (arith, nat_tests, l)

can-purges : (is : List ℕ) (ws : List Write) → CanWrite ws → CanWrite (purges is ++ ws)
can-purges [] ws can = can
can-purges (i ∷ is) ws can = can-purges is ws can

can-giving : (a : Action) (x : Finding) (given : List ℕ) → IsRead x → GotIds a x given → CanWrite (giving (chosen a x) (shown x) given)
can-giving a x given read got =
    let ch = chosen a x in
    let none : ch.keep 0 ≡ None = kept_zero a (sides x) refl (read.shows 0 ∙ ap held_where (first-zero x.records read.ids)) in
    can-append (replaces (replaced_rows ch.keep (shown x))) (adding (numbered given ch.adds))
    (can-rows (λ i. replacement (ch.keep i) (shown x i)) id_bound (ap (λ k. replacement k (shown x 0)) none) (omega arith))
    (can-adds (numbered given ch.adds) (after (replaces (replaced_rows ch.keep (shown x))) x.records) got)

-- ---- what is left can be read

pub read-news : (a : Action) (x : Finding) (given : List ℕ) (n : ℕ) → IsRead x → GotIds a x given → IsRead (left_among_news a x given n)
read-news a x given n read got =
    let ws = news_done a x given n in
    let can = can-take n (giving (chosen a x) (shown x) given) (can-giving a x given read got) in
    let bounded = bounded-after ws x.records can read.bounded in
    record { ids = ids-after ws x.records can read.ids; bounded = bounded; shows = slow_shows (after ws x.records) bounded }

pub read-commit : (a : Action) (x : Finding) (given : List ℕ) (n : ℕ) → IsRead x → GotIds a x given → IsRead (left_behind_commit a x given n)
read-commit a x given n read got =
    let ch = chosen a x in
    let ws = giving ch (shown x) given ++ clearing_done a x n in
    let can = can-append (giving ch (shown x) given) (clearing_done a x n) (can-giving a x given read got)
    (can-take n (clearing ch (shown x)) (can-purges (purged_ids ch.keep (shown x)) (clean_up ∷ reset ∷ []) tt)) in
    let bounded = bounded-after ws x.records can read.bounded in
    record { ids = ids-after ws x.records can read.ids; bounded = bounded; shows = slow_shows (after ws x.records) bounded }
