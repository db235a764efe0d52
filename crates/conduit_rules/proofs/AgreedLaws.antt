-- The plan from equal sides and an equal base is empty.
use Rattle.std.proofs.Common.{◌≡◌, ◌⊎◌, ⊎_elim, inl, inr, ℕ, ◌==◌, List, [], ◌∷◌, refl, arith, Some, None, Bool, true, false, is_some}
use Rattle.std.proofs.lemmas.Bool.Decides.{nat_tests}
use Rattle.pdb_values.specs.declared.record.Record.{Record}
use Rattle.conduit_rules.specs.ById.{put}
use Rattle.conduit_rules.specs.News.{loose}
use Rattle.conduit_rules.specs.States.{nothing, held, first, row, base_at}

-- a record stands in a list
abbrev pub IsIn : Record → List Record → Type 0
IsIn r [] = ⊥
IsIn r (x ∷ records) = (x ≡ r) ⊎ IsIn r records

-- no two records have one id
abbrev pub RowsDiffer : List Record → Type 0
RowsDiffer [] = Unit {0}
RowsDiffer (x ∷ records) = (first x.id records ≡ None) × RowsDiffer records

-- each record is live and has an id
abbrev pub AreRows : List Record → Type 0
AreRows records = (r : Record) → IsIn r records → (r.deleted ≡ false) × ((r.id == 0) ≡ false)

in-first : (records : List Record) (r : Record) → IsIn r records → is_some (first r.id records) ≡ true
in-first [] r is = absurd is
in-first (x ∷ records) r is = ⊎_elim (λ (here : x ≡ r). grind (arith, nat_tests))
    (λ (later : IsIn r records). grind (arith, nat_tests, in-first records r later)) is

apart : (records : List Record) (r : Record) (i : ℕ) → IsIn r records → first i records ≡ None → (r.id == i) ≡ false
apart records r i is none = grind (arith, nat_tests, in-first records r is)

-- rows that differ in their ids and have base rows leave none without a base row
pub loose-none : (based : ℕ → Bool) (rows : List Record) → RowsDiffer rows → ((r : Record) → IsIn r rows → based r.id ≡ true) → loose based rows ≡ []
loose-none based [] differ all = refl
loose-none based (x ∷ rows) differ all =
    let here : based x.id ≡ true = all x (inl refl) in
    grind (arith, loose-none (put based x.id false) rows differ.1 (λ r is. grind (arith, apart rows r x.id is differ.0, all r (inr is))))

row_of : (records : List Record) (gone_counts : Bool) (i : ℕ) (r : Record) → first i records ≡ Some r → r.deleted ≡ false → (i == 0) ≡ false
    → base_at records gone_counts i ≡ row r.content
row_of records gone_counts i r e is_live named = grind arith

none_at : (records : List Record) (i : ℕ) → first i records ≡ None → held records i ≡ nothing
none_at records i e = grind (arith, e)
