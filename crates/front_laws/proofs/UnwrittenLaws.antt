-- A handheld that is as it was got no new record.
use Rattle.std.proofs.lemmas.Bool.Decides.{nat_tests}
use Rattle.std.proofs.Common.{◌≡◌, inl, inr, ◌∙◌, refl, ap, sym, subst, ℕ, zero, suc, true, false, List, [], ◌∷◌, ◌++◌, take, arith, is_some}
use Rattle.std.specs.Prelude.{Option, Some, None}
use Rattle.pdb_values.specs.Contents.{ContentValue}
use Rattle.pdb_values.specs.Databases.{DatabaseValue}
use Rattle.pdb_values.specs.declared.record.Record.{Record}
use Rattle.palm_device.specs.Records.{put_record}
use Rattle.conduit_rules.specs.Plans.{replaced_rows}
use Rattle.conduit_rules.specs.States.{first}
use Rattle.conduit_rules.specs.declared.action.Action.{Action}
use Rattle.record_merge.specs.Writes.{Write, adding, after, numbered, replaces}
use Rattle.record_merge.proofs.PutLaws.{first-put}
use Rattle.session_plan.specs.Tasks.{Task, records_of}
use Rattle.front_laws.specs.Repeats.{Finding, GotIds, chosen, given_by, news_done, shown}
use Rattle.front_laws.specs.Stops.{IsUnfilled, IsWritten, StandsWith}
use Rattle.session_plan.specs.Merges.{bare_before}
use Rattle.front_laws.proofs.UnknownLaws.{news-new}
use Rattle.front_laws.proofs.WholeLaws.{before_records}

-- ---- a database with some writes carried out

pub written-records : {t : Task} {ws : List Write} {o : Option DatabaseValue} → IsWritten t ws o → records_of o ≡ after ws (records_of t.handheld)
written-records {t} {ws} is = ap records_of is.stands ∙ ap (after ws) (before_records t.handheld t.rows is.is)

-- one that was opened or made has its records
pub bare_records : (h r : Option DatabaseValue) {b : DatabaseValue} → bare_before h r ≡ Some b → b.records ≡ records_of h
bare_records (Some d) r is = ap records_of (sym is)
bare_records None (Some d) is = ap records_of (sym is)
bare_records None None is = absurd (cc)

unfilled-records : {t : Task} {o : Option DatabaseValue} → IsUnfilled t o → records_of o ≡ records_of t.handheld
unfilled-records {t} way = elim way.stands [
  | inl there ↦ ap records_of there ∙ bare_records t.handheld t.rows way.is
  | inr there ↦ ap records_of there ∙ bare_records t.handheld t.rows way.is
]

pub stands-records : (t : Task) (ws : List Write) (o : Option DatabaseValue) → StandsWith t ws o → records_of o ≡ after ws (records_of t.handheld)
stands-records t ws o (inl (same, none)) = ap records_of same ∙ ap (λ vs. after vs (records_of t.handheld)) (sym none)
stands-records t ws o (inr (inl (way, none))) = unfilled-records way ∙ ap (λ vs. after vs (records_of t.handheld)) (sym none)
stands-records t ws o (inr (inr is)) = written-records is

-- ---- what was added is there

some-put : (i : ℕ) (c : ContentValue) (records : List Record) (g : ℕ) → is_some (first g records) ≡ true → is_some (first g (put_record i c records)) ≡ true
some-put i c records g some = grind (arith, nat_tests, first-put i c records g)

own-put : (g : ℕ) (c : ContentValue) (records : List Record) → is_some (first g (put_record g c records)) ≡ true
own-put g c records = grind (arith, nat_tests, first-put g c records g)

some-after : (n : ℕ) (es : List (ℕ × ContentValue)) (records : List Record) (g : ℕ) → is_some (first g records) ≡ true
    → is_some (first g (after (take n (adding es)) records)) ≡ true
some-after zero es records g some = some
some-after (suc n) [] records g some = some
some-after (suc n) (e ∷ es) records g some = some-after n es (put_record e.0 e.1 records) g (some-put e.0 e.1 records g some)

added-there : (n : ℕ) (es : List (ℕ × ContentValue)) (records : List Record) (g : ℕ) (ids : List ℕ) → given_by (take n (adding es)) ≡ g ∷ ids
    → is_some (first g (after (take n (adding es)) records)) ≡ true
added-there zero es records g ids is = absurd (let no : ⊥ = cc in no)
added-there (suc n) [] records g ids is = absurd (let no : ⊥ = cc in no)
added-there (suc n) (e ∷ es) records g ids is =
    let same : e.0 ≡ g = cc in
    some-after n es (put_record e.0 e.1 records) g
    (subst (λ i. is_some (first i (put_record e.0 e.1 records)) ≡ true) same (own-put e.0 e.1 records))

given-there : (n : ℕ) (rows es : List (ℕ × ContentValue)) (records : List Record) (g : ℕ) (ids : List ℕ)
    → given_by (take n (replaces rows ++ adding es)) ≡ g ∷ ids → is_some (first g (after (take n (replaces rows ++ adding es)) records)) ≡ true
given-there n [] es records g ids is = added-there n es records g ids is
given-there zero (r ∷ rows) es records g ids is = absurd (let no : ⊥ = cc in no)
given-there (suc n) (r ∷ rows) es records g ids is = given-there n rows es (put_record r.0 r.1 records) g ids is

-- ---- so nothing was added

none-given : (a : Action) (x : Finding) (ids : List ℕ) (n : ℕ) → GotIds a x ids → given_by (news_done a x ids n) ≡ ids
    → after (news_done a x ids n) x.records ≡ x.records → ids ≡ []
none-given a x [] n got all same = refl
none-given a x (g ∷ ids) n got all same =
    let new = news-new a x (g ∷ ids) n got all in
    let there = given-there n (replaced_rows (chosen a x).keep (shown x)) (numbered (g ∷ ids) (chosen a x).adds) x.records g ids all in
    let no : false ≡ true = sym (ap is_some new.0.none) ∙ ap (λ (rs : List Record). is_some (first g rs)) (sym same) ∙ there in
    absurd (cc)

pub unwritten-ids : (a : Action) (x : Finding) (t : Task) (ids : List ℕ) (n : ℕ) → x.records ≡ records_of t.handheld
    → StandsWith t (news_done a x ids n) t.handheld → GotIds a x ids → given_by (news_done a x ids n) ≡ ids → [] ≡ ids
unwritten-ids a x t ids n own stands got all =
    sym (none-given a x ids n got all
    (ap (after (news_done a x ids n)) own ∙ sym (stands-records t (news_done a x ids n) t.handheld stands) ∙ sym own))
