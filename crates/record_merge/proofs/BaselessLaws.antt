-- A database that goes by both sides without their base: merged rows are all paired, and each content is live as often as on the side that had more of it.
use Rattle.std.proofs.Common.{◌≡◌, ℕ, ◌+◌, ◌<◌, ◌≤◌, List, [], ◌∷◌, refl, ap, ◌∙◌, sym, arith, true, Bool, Option, Some, None, if◌then◌else◌, length, map, max, nat_lt}
use Rattle.std.proofs.Common.{cond, option_to_list, sum_by}
use Rattle.std.proofs.lemmas.Grind.{common_steps}
use Rattle.std.proofs.lemmas.Bool.Decides.{nat_tests}
use Rattle.std.proofs.lemmas.List.Sums.{sum_by-append, sum_by-cons}
use Rattle.pdb_values.specs.Contents.{ContentValue}
use Rattle.pdb_values.specs.declared.record.Record.{Record}
use Rattle.conduit_rules.specs.ById.{id_bound, each_below, each_id, with_id}
use Rattle.conduit_rules.specs.Choices.{Choice, Sides, choice_for, contents_of, live_held, partners_for, sides_of}
use Rattle.conduit_rules.specs.Contents.{count_of, same_content}
use Rattle.conduit_rules.specs.News.{archived_records, live_contents, unpaired}
use Rattle.conduit_rules.specs.Plans.{kept_rows}
use Rattle.conduit_rules.specs.States.{first, held, held_where, live_of, record_held}
use Rattle.conduit_rules.specs.Views.{slow_view, view_held}
use Rattle.conduit_rules.specs.declared.action.Action.TheVariants.{Both}
use Rattle.conduit_rules.proofs.AgreedLaws.{RowsDiffer}
use Rattle.conduit_rules.proofs.BothLaws.{both-counted, contents_below}
use Rattle.conduit_rules.proofs.BoundLaws.{live_or}
use Rattle.conduit_rules.proofs.ByIdLaws.{each_below-same}
use Rattle.conduit_rules.proofs.PairingLaws.{unpaired-none}
use Rattle.record_merge.specs.Merging.{AreBounded, AreNew, merged_entries, merged_rows, row_at, row_under, settled_record}
use Rattle.record_merge.specs.Whole.{IsSlowMerge}
use Rattle.record_merge.specs.Writes.{after, numbered, whole}
use Rattle.record_merge.proofs.BoundLaws.{bounded-after, differ-whole}
use Rattle.record_merge.proofs.CountLaws.{new-free, sum-rows}
use Rattle.record_merge.proofs.HeldLaws.{held-merged}
use Rattle.record_merge.proofs.PutLaws.{differ-ids}
use Rattle.record_merge.proofs.ShownLaws.{slow_shows}
use Rattle.record_merge.proofs.SumLaws.{sum-records, sum-same}

pub live-live_or : (k : Option ContentValue) → live_of (live_or k) ≡ k
live-live_or None = refl
live-live_or (Some c) = refl

-- the contents of settled rows, none of which is archived
settled_live : (es : List (ℕ × ContentValue)) → live_contents (map settled_record es) ≡ contents_of es
settled_live [] = refl
settled_live (e ∷ es) = ap (λ cs. e.1 ∷ cs) (settled_live es)

settled_archived : (es : List (ℕ × ContentValue)) → archived_records (map settled_record es) ≡ []
settled_archived [] = refl
settled_archived (e ∷ es) = settled_archived es

pub none_archived : (ch : Choice) (given : List ℕ) → archived_records (merged_rows ch given) ≡ []
none_archived ch given = settled_archived (merged_entries ch given)

inside : (b : Bool) (o : Option ContentValue) → b ≡ true → (if b then o else None) ≡ o
inside b o is = grind arith

-- what is live on the handheld is what the merged rows have
mates-are : (ch : Choice) (given : List ℕ) (t : Sides) → ((i : ℕ) → live_of (t.handheld i) ≡ row_under ch given i)
    → partners_for Both t ≡ live_contents (merged_rows ch given)
mates-are ch given t live =
    each_below-same (λ i. option_to_list (live_of (t.handheld i))) (λ i. option_to_list (row_at ch given i)) id_bound
    (λ i l. ap option_to_list (live i ∙ inside (nat_lt i id_bound) (row_at ch given i) (grind (arith, nat_tests, l))))
    ∙ sym (contents_below (row_at ch given) id_bound)
    ∙ sym (settled_live (merged_entries ch given))

-- so each of them has its partner
pub rows_paired : (ch : Choice) (given : List ℕ) (t : Sides) → ((i : ℕ) → live_of (t.handheld i) ≡ row_under ch given i)
    → t.all_live ≡ live_contents (merged_rows ch given) → unpaired (λ c. count_of c (partners_for Both t)) t.all_live ≡ []
rows_paired ch given t live all =
    let same : t.all_live ≡ partners_for Both t = all ∙ sym (mates-are ch given t live) in
    unpaired-none (partners_for Both t) t.all_live (λ c. let counts = ap (count_of c) same in omega (arith, counts))

-- ---- how often a content is live

abbrev weight : ContentValue → ContentValue → ℕ
weight c d = cond (same_content d c) 1 0

count-live : (c : ContentValue) (records : List Record)
    → count_of c (live_contents records) ≡ sum_by (λ r. count_of c (option_to_list (live_of (record_held r)))) records
count-live c [] = refl
count-live c (r ∷ records) = grind (arith, common_steps, sum_by-append, sum_by-cons, count-live c records)

one_record : (c : ContentValue) (o : Option Record)
    → sum_by (λ r. count_of c (option_to_list (live_of (record_held r)))) (option_to_list o) ≡ count_of c (option_to_list (live_of (held_where o)))
one_record c None = refl
one_record c (Some r) = grind (arith, common_steps)

-- among records with ids of their own
pub count-held : (c : ContentValue) (records : List Record) → RowsDiffer records → AreBounded records
    → count_of c (live_contents records) ≡ count_of c (each_id (λ i. option_to_list (live_of (held records i))))
count-held c records differ bounded =
    count-live c records
    ∙ sum-records (λ r. count_of c (option_to_list (live_of (record_held r)))) records differ bounded
    ∙ sum-same (λ r. count_of c (option_to_list (live_of (record_held r)))) (weight c) (λ i. option_to_list (first i records))
    (λ i. option_to_list (live_of (held records i))) id_bound (λ i l. one_record c (first i records))

counted_contents : (c : ContentValue) (es : List (ℕ × ContentValue)) → sum_by (λ e. weight c e.1) es ≡ count_of c (contents_of es)
counted_contents c [] = refl
counted_contents c (e ∷ es) = grind (arith, common_steps, counted_contents c es)

contents-numbered : (given : List ℕ) (cs : List ContentValue) → length given ≡ length cs → contents_of (numbered given cs) ≡ cs
contents-numbered [] [] is = refl
contents-numbered [] (c ∷ cs) is = absurd (omega (arith, is))
contents-numbered (g ∷ gs) [] is = absurd (omega (arith, is))
contents-numbered (g ∷ gs) (c ∷ cs) is = ap (λ xs. c ∷ xs) (contents-numbered gs cs (omega (arith, is)))

-- the merged rows have each content as often as the kept ones and the adds
count-rows : (c : ContentValue) (ch : Choice) (given : List ℕ) → AreNew ch.keep (numbered given ch.adds) id_bound → length given ≡ length ch.adds
    → count_of c (live_contents (merged_rows ch given)) ≡ count_of c (contents_of (kept_rows ch.keep)) + count_of c ch.adds
count-rows c ch given new each =
    ap (count_of c) (settled_live (merged_entries ch given))
    ∙ sym (counted_contents c (merged_entries ch given))
    ∙ sum-rows (λ e. weight c e.1) ch given new
    ∙ (λ k. counted_contents c (kept_rows ch.keep) k + counted_contents c (numbered given ch.adds) k)
    ∙ ap (λ cs. count_of c (contents_of (kept_rows ch.keep)) + count_of c cs) (contents-numbered given ch.adds each)

-- each content is live as often as on the side that has it more often
pub rows-stay : (rows base records : List Record) (counts : Bool) (given : List ℕ) (ch : Choice) → IsSlowMerge Both rows base counts given records ch
    → length given ≡ length ch.adds → (c : ContentValue)
    → count_of c (live_contents (merged_rows ch given)) ≡ max (count_of c (live_contents records)) (count_of c (live_contents rows))
rows-stay rows base records counts given ch is each c =
    let s = sides_of (slow_view records) rows base counts in
    let shows = slow_shows records is.are.bounded in
    let differ = differ-ids records is.are.ids in
    let new = new-free ch (view_held (slow_view records)) given records shows is.free in
    let held_same : live_held s ≡ each_id (λ i. option_to_list (live_of (held records i))) =
    each_below-same (λ i. option_to_list (live_of (view_held (slow_view records) i))) (λ i. option_to_list (live_of (held records i))) id_bound
    (λ i l. ap (λ h. option_to_list (live_of h)) (shows i)) in
    count-rows c ch given new each
    ∙ ap (λ (x : Choice). count_of c (contents_of (kept_rows x.keep)) + count_of c x.adds) is.chosen
    ∙ both-counted s c
    ∙ ap (λ n. max n (count_of c s.all_live)) (ap (count_of c) held_same ∙ sym (count-held c records differ is.are.bounded))

-- and so on the handheld
pub records-stay : (rows base records : List Record) (counts : Bool) (given : List ℕ) (ch : Choice) → IsSlowMerge Both rows base counts given records ch
    → (c : ContentValue)
    → count_of c (live_contents (after (whole ch (view_held (slow_view records)) given) records)) ≡ count_of c (live_contents (merged_rows ch given))
records-stay rows base records counts given ch is c =
    let h = view_held (slow_view records) in
    let then_records = after (whole ch h given) records in
    let shows = slow_shows records is.are.bounded in
    let differ = differ-ids records is.are.ids in
    let then_bounded = bounded-after ch h given records differ is.are.bounded is.free in
    let t = sides_of (slow_view then_records) (merged_rows ch given) [] counts in
    let live : (i : ℕ) → live_of (view_held (slow_view then_records) i) ≡ row_under ch given i =
    λ i. ap live_of (slow_shows then_records then_bounded i ∙ held-merged ch h given records differ is.are.bounded shows is.free i)
    ∙ live-live_or (row_under ch given i) in
    count-held c then_records (differ-whole ch h given records differ) then_bounded
    ∙ ap (count_of c) (each_below-same (λ i. option_to_list (live_of (held then_records i))) (λ i. option_to_list (live_of (view_held (slow_view then_records) i)))
    id_bound (λ i l. ap (λ x. option_to_list (live_of x)) (sym (slow_shows then_records then_bounded i))))
    ∙ ap (count_of c) (mates-are ch given t live)
