-- What each write does to what an id holds, and many replacements at once.
use Rattle.std.proofs.Common.{◌≡◌, ℕ, List, [], ◌∷◌, ◌++◌, refl, ap, ◌∙◌, sym, subst, arith, true, false, Bool, Option, Some, None, map, ◌==◌, if◌then◌else◌}
use Rattle.std.proofs.Common.{append-nil, is_none}
use Rattle.std.proofs.lemmas.Grind.{common_steps}
use Rattle.std.proofs.lemmas.Bool.Decides.{nat_tests}
use Rattle.pdb_values.specs.Contents.{ContentValue}
use Rattle.pdb_values.specs.declared.record.Record.{Record}
use Rattle.palm_device.specs.Entries.{put_entry, without_entry}
use Rattle.palm_device.specs.FreshIds.{is_among}
use Rattle.palm_device.specs.Soundness.{ids_of, AreIds}
use Rattle.palm_device.specs.Records.{rewritten, new_record, put_record, without_record}
use Rattle.conduit_rules.specs.ById.{put, at}
use Rattle.conduit_rules.specs.States.{live, first, held}
use Rattle.conduit_rules.proofs.AgreedLaws.{RowsDiffer}
use Rattle.record_merge.specs.Merging.{written_over}

pub first-among : (i : ℕ) (records : List Record) → is_among i (ids_of records) ≡ false → first i records ≡ None
first-among i [] e = refl
first-among i (r ∷ records) e = grind (arith, e, first-among i records)

-- a device's records are such
pub differ-ids : (records : List Record) → AreIds (ids_of records) → RowsDiffer records
differ-ids [] ids = tt
differ-ids (r ∷ records) ids = (first-among r.id records ids.1, differ-ids records ids.2)

pub put_record-nil : (i : ℕ) (c : ContentValue) → put_record i c [] ≡ new_record i c ∷ []
unfolding put_entry
put_record-nil i c = refl

pub put_record-cons : (i : ℕ) (c : ContentValue) (r : Record) (records : List Record)
    → put_record i c (r ∷ records) ≡ (if r.id == i then rewritten c r ∷ records else r ∷ put_record i c records)
unfolding put_entry
put_record-cons i c r records = refl

pub without_record-nil : (i : ℕ) → without_record i [] ≡ []
unfolding without_entry
without_record-nil i = refl

pub without_record-cons : (i : ℕ) (r : Record) (records : List Record)
    → without_record i (r ∷ records) ≡ (if r.id == i then records else r ∷ without_record i records)
unfolding without_entry
without_record-cons i r records = refl

-- a put record is live with its content
pub held-put : (i : ℕ) (c : ContentValue) (records : List Record) (j : ℕ) → held (put_record i c records) j ≡ put (held records) i (live c) j
held-put i c [] j = ap (λ rs. held rs j) (put_record-nil i c) ∙ grind (arith, nat_tests)
held-put i c (r ∷ records) j = grind (arith, put_record-cons i c r records, held-put i c records j)

abbrev pub put_over : ℕ → ContentValue → Option Record → Record
put_over i c None = new_record i c
put_over i c (Some r) = rewritten c r

pub first-put : (i : ℕ) (c : ContentValue) (records : List Record) (j : ℕ)
    → first j (put_record i c records) ≡ (if j == i then Some (put_over i c (first i records)) else first j records)
first-put i c [] j = ap (first j) (put_record-nil i c) ∙ grind (arith, nat_tests)
first-put i c (r ∷ records) j = grind (arith, put_record-cons i c r records, first-put i c records j)

-- a record with what stands under its id in the list
abbrev pub replaced : List (ℕ × ContentValue) → Record → Record
replaced es r = written_over (at r.id es) r

-- those whose id no record has
abbrev pub appended : List Record → List (ℕ × ContentValue) → List Record
appended records [] = []
appended records (e ∷ es) = if is_none (first e.0 records) then new_record e.0 e.1 ∷ appended records es else appended records es

abbrev pub put_all : List (ℕ × ContentValue) → List Record → List Record
put_all [] records = records
put_all (e ∷ es) records = put_all es (put_record e.0 e.1 records)

-- each pair's id is its own
abbrev pub Apart : List (ℕ × ContentValue) → Type 0
Apart [] = Unit {0}
Apart (e ∷ es) = (at e.0 es ≡ None) × Apart es

map-replaced_apart : (e : ℕ × ContentValue) (es : List (ℕ × ContentValue)) (records : List Record) → first e.0 records ≡ None
    → map (replaced (e ∷ es)) records ≡ map (replaced es) records
map-replaced_apart e es [] none = refl
map-replaced_apart e es (r ∷ records) none = grind (arith, nat_tests, none, map-replaced_apart e es records)

pub appended-put : (e : ℕ × ContentValue) (es : List (ℕ × ContentValue)) (records : List Record) → at e.0 es ≡ None
    → appended (put_record e.0 e.1 records) es ≡ appended records es
appended-put e [] records none = refl
appended-put e (x ∷ es) records none = grind (arith, nat_tests, none, appended-put e es records, first-put e.0 e.1 records x.0)

map-put : (e : ℕ × ContentValue) (es : List (ℕ × ContentValue)) (records : List Record) → at e.0 es ≡ None → RowsDiffer records
    → map (replaced es) (put_record e.0 e.1 records) ≡ map (replaced (e ∷ es)) records ++ (if is_none (first e.0 records) then new_record e.0 e.1 ∷ [] else [])
map-put e es [] none differ = ap (map (replaced es)) (put_record-nil e.0 e.1) ∙ grind (arith, none)
map-put e es (r ∷ records) none differ = ap (map (replaced es)) (put_record-cons e.0 e.1 r records)
    ∙ split (r.id == e.0) refl (map-put e es records none differ.1)
  where
    split : (b : Bool) → (r.id == e.0) ≡ b
        → map (replaced es) (put_record e.0 e.1 records) ≡ map (replaced (e ∷ es)) records ++
        (if is_none (first e.0 records) then new_record e.0 e.1 ∷ [] else [])
        → map (replaced es) (if r.id == e.0 then rewritten e.1 r ∷ records else r ∷ put_record e.0 e.1 records) ≡ map (replaced (e ∷ es)) (r ∷ records) ++
        (if is_none (first e.0 (r ∷ records)) then new_record e.0 e.1 ∷ [] else [])
    split true is ih = grind (arith, nat_tests, common_steps, is, none, differ.0, append-nil, map-replaced_apart e es records)
    split false is ih = grind (arith, nat_tests, common_steps, is, none, ih)

differ-put_by : (i : ℕ) (c : ContentValue) (r : Record) (records : List Record) (b : Bool) → (r.id == i) ≡ b → RowsDiffer (r ∷ records)
    → RowsDiffer (put_record i c records) → RowsDiffer (if b then rewritten c r ∷ records else r ∷ put_record i c records)
differ-put_by i c r records true is differ later = differ
differ-put_by i c r records false is differ later = (first-put i c records r.id ∙ grind (arith, nat_tests, is, differ.0), later)

pub differ-put : (i : ℕ) (c : ContentValue) (records : List Record) → RowsDiffer records → RowsDiffer (put_record i c records)
differ-put i c [] differ = subst RowsDiffer (sym (put_record-nil i c)) (refl, tt)
differ-put i c (r ∷ records) differ =
    subst RowsDiffer (sym (put_record-cons i c r records)) (differ-put_by i c r records (r.id == i) refl differ (differ-put i c records differ.1))

glue : (records : List Record) (es : List (ℕ × ContentValue)) (e : ℕ × ContentValue)
    → (map (replaced (e ∷ es)) records ++ (if is_none (first e.0 records) then new_record e.0 e.1 ∷ [] else [])) ++ appended records es ≡ map
    (replaced (e ∷ es)) records ++ appended records (e ∷ es)
glue records es e = grind (arith, common_steps, append-nil)

map-none : (records : List Record) → map (replaced []) records ≡ records
map-none [] = refl
map-none (r ∷ records) = ap (λ ys. r ∷ ys) (map-none records)

-- many replacements at once
pub put_all-is : (es : List (ℕ × ContentValue)) (records : List Record) → Apart es → RowsDiffer records
    → put_all es records ≡ map (replaced es) records ++ appended records es
put_all-is [] records apart differ = sym (append-nil _ ∙ map-none records)
put_all-is (e ∷ es) records apart differ =
    put_all-is es (put_record e.0 e.1 records) apart.1 (differ-put e.0 e.1 records differ)
    ∙ ap {A = List Record × List Record} (λ p. p.0 ++ p.1) (λ k. (map-put e es records apart.0 differ k, appended-put e es records apart.0 k))
    ∙ glue records es e
