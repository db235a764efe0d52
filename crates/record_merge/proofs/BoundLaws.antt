-- Ids stay below the bound over a session.
use Rattle.std.proofs.Common.{◌≡◌, ℕ, suc, ◌≤◌, ◌^◌, List, [], ◌∷◌, ◌++◌, refl, ap, ◌∙◌, sym, subst, arith, true, Bool, None, not, map, filter, nat_lt}
use Rattle.std.proofs.lemmas.Bool.Decides.{nat_tests}
use Rattle.pdb_values.specs.Contents.{ContentValue}
use Rattle.pdb_values.specs.Records.{is_live}
use Rattle.pdb_values.specs.declared.record.Record.{Record}
use Rattle.palm_device.specs.Records.{put_record, clean}
use Rattle.conduit_rules.specs.ById.{id_bound}
use Rattle.conduit_rules.specs.States.{SideState, first}
use Rattle.conduit_rules.specs.Choices.{Choice}
use Rattle.conduit_rules.specs.Plans.{replaced_rows, purged_ids}
use Rattle.conduit_rules.proofs.ByIdLaws.{id_bound-is}
use Rattle.conduit_rules.proofs.PlanLaws.{IsRisingFrom, replaced_rise, has}
use Rattle.conduit_rules.proofs.PlanLaws.{ids_of as pair_ids}
use Rattle.conduit_rules.proofs.AgreedLaws.{RowsDiffer}
use Rattle.record_merge.specs.Writes.{after, numbered, replaces, adding, giving, clearing, AreFree}
use Rattle.record_merge.specs.Merging.{AreBounded}
use Rattle.record_merge.proofs.PutLaws.{put_all, put_record-nil, put_record-cons}
use Rattle.record_merge.proofs.AfterLaws.{finished, after-append, after-replaces, after-adding_all, after-clearing, differ-filter, differ-put_all}
use Rattle.conduit_rules.proofs.RisingLaws.{rising_end}

pub bounded-put : (i : ℕ) (c : ContentValue) (records : List Record) → nat_lt i id_bound ≡ true → AreBounded records → AreBounded (put_record i c records)
bounded-put i c [] l bounded = subst AreBounded (sym (put_record-nil i c)) (l, tt)
bounded-put i c (r ∷ records) l bounded = grind (arith, put_record-cons i c r records, bounded-put i c records l bounded.1)

-- each entry's id has at most 24 bits
abbrev pub HaveIds : List (ℕ × ContentValue) → Type 0
HaveIds [] = Unit {0}
HaveIds (e ∷ es) = (nat_lt e.0 id_bound ≡ true) × HaveIds es

-- records with such ids stay so where such entries are put
pub bounded-put_all : (es : List (ℕ × ContentValue)) (records : List Record) → HaveIds es → AreBounded records → AreBounded (put_all es records)
bounded-put_all [] records have bounded = bounded
bounded-put_all (e ∷ es) records have bounded = bounded-put_all es (put_record e.0 e.1 records) have.1 (bounded-put e.0 e.1 records have.0 bounded)

-- entries whose ids rise below the bound have such ids
pub have-rising : (low : ℕ) (es : List (ℕ × ContentValue)) → IsRisingFrom low (pair_ids es) id_bound → HaveIds es
have-rising low [] rising = tt
have-rising low (e ∷ es) rising = grind (arith, rising_end (suc e.0) id_bound (pair_ids es) rising.1, have-rising (suc e.0) es rising.1)

-- entries whose ids are free have such ids
pub have-free : (es : List (ℕ × ContentValue)) (now : List Record) → AreFree es now → HaveIds es
have-free [] now free = tt
have-free (e ∷ es) now free = (subst (λ n. nat_lt e.0 n ≡ true) (sym id_bound-is) (below e.0 free.0.bound), have-free es (put_record e.0 e.1 now) free.1)
  where
    below : (n : ℕ) → n ≤ 16777215 → nat_lt n (2 ^ 24) ≡ true
    below n l = grind (arith, nat_tests, l)

pub bounded-filter : (keep : Record → Bool) (records : List Record) → AreBounded records → AreBounded (filter keep records)
bounded-filter keep [] bounded = tt
bounded-filter keep (r ∷ records) bounded = grind (arith, bounded-filter keep records bounded.1)

pub bounded-clean : (records : List Record) → AreBounded records → AreBounded (map clean records)
bounded-clean [] bounded = tt
bounded-clean (r ∷ records) bounded = (bounded.0, bounded-clean records bounded.1)

first-clean : (records : List Record) (j : ℕ) → first j records ≡ None → first j (map clean records) ≡ None
first-clean [] j none = refl
first-clean (r ∷ records) j none = grind (arith, none, first-clean records j)

pub differ-clean : (records : List Record) → RowsDiffer records → RowsDiffer (map clean records)
differ-clean [] differ = tt
differ-clean (r ∷ records) differ = (first-clean records r.id differ.0, differ-clean records differ.1)

-- what a session leaves, by its replacements and adds
all-finished : (ch : Choice) (h : ℕ → SideState) (given : List ℕ) (records : List Record) → RowsDiffer records
    → after (giving ch h given ++ clearing ch h) records
    ≡ finished (purged_ids ch.keep h) (put_all (numbered given ch.adds) (put_all (replaced_rows ch.keep h) records))
all-finished ch h given records differ =
    let es = replaced_rows ch.keep h in
    let adds = numbered given ch.adds in
    let given_all : after (giving ch h given) records ≡ put_all adds (put_all es records) = after-append (replaces es) (adding adds) records
    ∙ ap (after (adding adds)) (after-replaces es records) ∙ after-adding_all adds (put_all es records) in
    after-append (giving ch h given) (clearing ch h) records ∙ ap (after (clearing ch h)) given_all
    ∙ after-clearing ch h (put_all adds (put_all es records)) (differ-put_all adds (put_all es records) (differ-put_all es records differ))

-- no two records have one id behind it
pub differ-whole : (ch : Choice) (h : ℕ → SideState) (given : List ℕ) (records : List Record) → RowsDiffer records
    → RowsDiffer (after (giving ch h given ++ clearing ch h) records)
differ-whole ch h given records differ =
    let es = replaced_rows ch.keep h in
    let adds = numbered given ch.adds in
    let now = put_all adds (put_all es records) in
    let left = filter (λ (r : Record). not (has r.id (purged_ids ch.keep h))) now in
    subst RowsDiffer (sym (all-finished ch h given records differ)) (differ-clean (filter is_live left)
    (differ-filter is_live left (differ-filter (λ r. not (has r.id (purged_ids ch.keep h))) now
    (differ-put_all adds (put_all es records) (differ-put_all es records differ)))))

-- ids stay those of records
pub bounded-after : (ch : Choice) (h : ℕ → SideState) (given : List ℕ) (records : List Record) → RowsDiffer records → AreBounded records
    → AreFree (numbered given ch.adds) (after (replaces (replaced_rows ch.keep h)) records)
    → AreBounded (after (giving ch h given ++ clearing ch h) records)
bounded-after ch h given records differ bounded free =
    let es = replaced_rows ch.keep h in
    let adds = numbered given ch.adds in
    let now = put_all adds (put_all es records) in
    let all = all-finished ch h given records differ in
    let now_bounded = bounded-put_all adds (put_all es records) (have-free adds (after (replaces es) records) free)
    (bounded-put_all es records (have-rising 0 es (replaced_rise ch.keep h)) bounded) in
    subst AreBounded (sym all) (bounded-clean (filter is_live (filter (λ r. not (has r.id (purged_ids ch.keep h))) now))
    (bounded-filter is_live (filter (λ r. not (has r.id (purged_ids ch.keep h))) now)
    (bounded-filter (λ r. not (has r.id (purged_ids ch.keep h))) now now_bounded)))
