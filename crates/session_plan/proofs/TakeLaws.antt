-- The changes of planned databases, one after another, and what a commit makes of them.
use Rattle.std.proofs.Common.{◌≡◌, ◌∙◌, ◌<◌, ◌+◌, ap, refl, sym, subst, ℕ, false, List, [], ◌∷◌, ◌++◌, take, length}
use Rattle.std.proofs.Common.{get_or, append_assoc, arith}
use Rattle.std.specs.Prelude.{IfSome, Option, option_to_list}
use Rattle.std.specs.Global.{Vec}
use Rattle.std.proofs.lemmas.List.{length-map, length-take-le, map-append, append-nil}
use Rattle.session_plan.proofs.PlanWords.{DatabaseValue, ShelvesValue, Planned}
use Rattle.pdb_values.specs.Heads.{holds_resources}
use Rattle.pdb_values.specs.declared.record.Record.{Record}
use Rattle.palm_device.specs.Records.{with_records}
use Rattle.desk_store.specs.Changes.{IsDbChange, IsOf}
use Rattle.mirrors.proofs.NewsLaws.{split_at}
use Rattle.desk_store.specs.declared.change.DbChange.{DbChange}
use Rattle.session_plan.specs.Merges.{archive_of, beside}
use Rattle.session_plan.specs.Takes.{change_of, changes_of, each_of}

-- ---- one database

archive_fit : (rows : DatabaseValue) (es : List Record) → holds_resources rows.head.attributes ≡ false
    → IfSome (archive_of rows es) (λ archive. IsOf rows.head.name archive × (0 < length archive.records))
archive_fit rows [] records = tt
archive_fit rows (e ∷ es) records = (record { records = records; named = refl }, omega arith)

-- a change that is made of a database of records is one that a desktop takes
pub change_fit : (rows new base : DatabaseValue) (archive : Option DatabaseValue) (rs bs es : List Record) → holds_resources rows.head.attributes ≡ false
    → new ≡ with_records rs rows → base ≡ beside rows bs → archive ≡ archive_of rows es → IsDbChange (record { rows = new; base = base; archive = archive })
change_fit rows new base archive rs bs es records one two three =
    let same : DbChange = record { rows = with_records rs rows; base = beside rows bs; archive = archive_of rows es } in
    let equal : same ≡ record { rows = new; base = base; archive = archive } = sym (λ k. record { rows = one k; base = two k; archive = three k }) in
    subst IsDbChange equal (record { rows = records; base = record { records = records; named = refl }; archive = archive_fit rows es records })

-- ---- one after another

-- one more database, with its ids
changes_of-push : (date : ℕ) (shelves : ShelvesValue) (planned : List Planned) (ids : List (List ℕ)) (one : Planned) (given : List ℕ)
    → length ids ≡ length planned
    → changes_of date shelves (planned ++ one ∷ []) (ids ++ given ∷ []) ≡ changes_of date shelves planned ids ++ change_of date shelves one given
unfolding changes_of
changes_of-push date shelves [] [] one given same = append-nil (change_of date shelves one given)
changes_of-push date shelves [] (g ∷ ids) one given same = absurd (omega arith)
changes_of-push date shelves (p ∷ planned) [] one given same = absurd (omega arith)
changes_of-push date shelves (p ∷ planned) (g ∷ ids) one given same =
    ap (λ xs. change_of date shelves p g ++ xs) (changes_of-push date shelves planned ids one given (omega arith))
    ∙ sym (append_assoc (change_of date shelves p g) (changes_of date shelves planned ids) (change_of date shelves one given))

changes_more : (date : ℕ) (shelves : ShelvesValue) (planned : List Planned) (ids : List (Vec ℕ)) (k : ℕ) (one : Planned) (given : Vec ℕ)
    → length ids ≡ length planned → k < length planned → one ≡ get_or planned k one → given ≡ get_or ids k given
    → changes_of date shelves (take (k + 1) planned) (each_of (take (k + 1) ids))
    ≡ changes_of date shelves (take k planned) (each_of (take k ids)) ++ change_of date shelves one given.items
changes_more date shelves planned ids k one given same within one_is given_is =
    let left = length-take-le k planned (omega arith) in
    let right = length-map (take k ids) (λ (x : Vec ℕ). x.items) ∙ length-take-le k ids (omega arith) in
    rw (
      (split_at planned k one within one_is).next,
      (split_at ids k given (omega arith) given_is).next,
      map-append (λ (x : Vec ℕ). x.items) (take k ids) (given ∷ []),
    )
    (changes_of-push date shelves (take k planned) (each_of (take k ids)) one given.items (right ∙ sym left))

pub changes_step : (date : ℕ) (shelves : ShelvesValue) (planned : List Planned) (ids : List (Vec ℕ)) (k : ℕ) (one : Planned) (given : Vec ℕ)
    (lent : List ℕ) (before now : List DbChange) (change : Option DbChange) → length ids ≡ length planned → k < length planned
    → one ≡ get_or planned k one → given ≡ get_or ids k given → now ≡ before ++ option_to_list change
    → before ≡ changes_of date shelves (take k planned) (each_of (take k ids)) → option_to_list change ≡ change_of date shelves one lent
    → lent ≡ given.items → now ≡ changes_of date shelves (take (k + 1) planned) (each_of (take (k + 1) ids))
changes_step date shelves planned ids k one given lent before now change same within one_is given_is put is own lends =
    rw (put, is, own, lends, changes_more date shelves planned ids k one given same within one_is given_is)

pub changes_none : (date : ℕ) (shelves : ShelvesValue) → changes_of date shelves [] [] ≡ []
unfolding changes_of
changes_none date shelves = refl
