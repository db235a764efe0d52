-- Purges, the clean up and the reset, some or all of them: what each id holds after them, and that the rest of them leaves the same.
use Rattle.std.proofs.Common.{◌≡◌, ◌⊎◌, ℕ, zero, suc, ◌==◌, ◌&&◌, List, [], ◌∷◌, refl, ap, ◌∙◌, sym, subst, arith, Bool, Option, Some, None, is_some, map}
use Rattle.std.proofs.Common.{filter, not, if◌then◌else◌, take}
use Rattle.std.proofs.lemmas.Grind.{common_steps}
use Rattle.pdb_values.specs.Contents.{ContentValue}
use Rattle.pdb_values.specs.Records.{is_live}
use Rattle.pdb_values.specs.declared.record.Record.{Record}
use Rattle.palm_device.specs.Records.{without_record, clean}
use Rattle.conduit_rules.specs.States.{SideState, nothing, live, held, first}
use Rattle.conduit_rules.specs.Plans.{is_purged, purged_ids}
use Rattle.conduit_rules.proofs.AgreedLaws.{RowsDiffer}
use Rattle.record_merge.specs.Merging.{AreShown, is_held_live}
use Rattle.record_merge.specs.Writes.{Write, replace, add, purge, clean_up, reset, after}
use Rattle.record_merge.proofs.AfterLaws.{finished, differ-filter, has-purged}
use Rattle.record_merge.proofs.BoundLaws.{differ-clean}
use Rattle.record_merge.proofs.PutLaws.{without_record-nil, without_record-cons}
use Rattle.record_merge.proofs.HeldLaws.{held-clean, held-cleaned}

-- purges of ids that have no row, clean ups and resets alone
abbrev pub AreClearing : (ℕ → Option ContentValue) → List Write → Type 0
AreClearing row [] = Unit {0}
AreClearing row (replace i c ∷ ws) = ⊥
AreClearing row (add g c ∷ ws) = ⊥
AreClearing row (purge i ∷ ws) = (row i ≡ None) × AreClearing row ws
AreClearing row (clean_up ∷ ws) = AreClearing row ws
AreClearing row (reset ∷ ws) = AreClearing row ws

pub clearing-take : (row : ℕ → Option ContentValue) (n : ℕ) (ws : List Write) → AreClearing row ws → AreClearing row (take n ws)
clearing-take row zero ws are = tt
clearing-take row (suc n) [] are = tt
clearing-take row (suc n) (replace i c ∷ ws) are = absurd are
clearing-take row (suc n) (add g c ∷ ws) are = absurd are
clearing-take row (suc n) (purge i ∷ ws) are = (are.0, clearing-take row n ws are.1)
clearing-take row (suc n) (clean_up ∷ ws) are = clearing-take row n ws are
clearing-take row (suc n) (reset ∷ ws) are = clearing-take row n ws are

-- ---- what each id holds

first-without : (i j : ℕ) (records : List Record) → first j records ≡ None → first j (without_record i records) ≡ None
first-without i j [] none = ap (first j) (without_record-nil i)
first-without i j (r ∷ records) none = grind (arith, without_record-cons i r records, first-without i j records)

differ_by : (b : Bool) (r : Record) (records less : List Record) → RowsDiffer (r ∷ records) → first r.id less ≡ None → RowsDiffer less
    → RowsDiffer (if b then records else r ∷ less)
differ_by b r records less differ none later = grind arith

differ-without : (i : ℕ) (records : List Record) → RowsDiffer records → RowsDiffer (without_record i records)
differ-without i [] differ = subst RowsDiffer (sym (without_record-nil i)) tt
differ-without i (r ∷ records) differ =
    grind (
      arith,
      without_record-cons i r records,
      differ_by (r.id == i) r records (without_record i records) differ (first-without i r.id records differ.0) (differ-without i records differ.1),
    )

held-without : (i : ℕ) (records : List Record) (j : ℕ) → RowsDiffer records
    → held (without_record i records) j ≡ (if j == i then nothing else held records j)
held-without i [] j differ = grind (arith, without_record-nil i)
held-without i (r ∷ records) j differ = grind (arith, without_record-cons i r records, held-without i records j differ.1)

-- the row under an id is live, and an id without a row holds nothing, or what it held before
abbrev pub Fits : Option ContentValue → SideState → SideState → Type 0
Fits None h now = (now ≡ nothing) ⊎ (now ≡ h)
Fits (Some c) h now = now ≡ live c

abbrev pub AllFit : (ℕ → Option ContentValue) → (ℕ → SideState) → List Record → Type 0
AllFit row h records = (i : ℕ) → Fits (row i) (h i) (held records i)

fits-without : (row : ℕ → Option ContentValue) (h : ℕ → SideState) (i : ℕ) (records : List Record) → row i ≡ None → RowsDiffer records → AllFit row h records
    → AllFit row h (without_record i records)
fits-without row h i records none differ fits j = grind (arith, held-without i records j differ)

pub fits-after : (row : ℕ → Option ContentValue) (h : ℕ → SideState) (ws : List Write) (records : List Record) → AreClearing row ws → RowsDiffer records
    → AllFit row h records → AllFit row h (after ws records)
fits-after row h [] records are differ fits = fits
fits-after row h (replace i c ∷ ws) records are differ fits = absurd are
fits-after row h (add g c ∷ ws) records are differ fits = absurd are
fits-after row h (purge i ∷ ws) records are differ fits =
    fits-after row h ws (without_record i records) are.1 (differ-without i records differ) (fits-without row h i records are.0 differ fits)
fits-after row h (clean_up ∷ ws) records are differ fits =
    grind (
      arith,
      fits-after row h ws (filter is_live records) are (differ-filter is_live records differ),
      filter is_live records,
      differ-filter is_live records differ,
      held-cleaned records,
    )
fits-after row h (reset ∷ ws) records are differ fits =
    fits-after row h ws (map clean records) are (differ-clean records differ) (λ j. subst (Fits (row j) (h j)) (sym (held-clean records j)) (fits j))

-- ---- the records that have a row

abbrev has_row : (ℕ → Option ContentValue) → Record → Bool
has_row row r = is_some (row r.id) && is_live r

-- the live records that have a row, as clean ones
abbrev pub with_rows : (ℕ → Option ContentValue) → List Record → List Record
with_rows row records = map clean (filter (has_row row) records)

rows-without : (row : ℕ → Option ContentValue) (i : ℕ) (records : List Record) → row i ≡ None
    → with_rows row (without_record i records) ≡ with_rows row records
rows-without row i [] none = ap (with_rows row) (without_record-nil i)
rows-without row i (r ∷ records) none = grind (arith, without_record-cons i r records, rows-without row i records none)

rows-live : (row : ℕ → Option ContentValue) (records : List Record) → with_rows row (filter is_live records) ≡ with_rows row records
rows-live row [] = refl
rows-live row (r ∷ records) = grind (arith, rows-live row records)

rows-clean : (row : ℕ → Option ContentValue) (records : List Record) → with_rows row (map clean records) ≡ with_rows row records
rows-clean row [] = refl
rows-clean row (r ∷ records) = grind (arith, rows-clean row records)

-- they are the same after any of these writes
pub rows-after : (row : ℕ → Option ContentValue) (ws : List Write) (records : List Record) → AreClearing row ws
    → with_rows row (after ws records) ≡ with_rows row records
rows-after row [] records are = refl
rows-after row (replace i c ∷ ws) records are = absurd are
rows-after row (add g c ∷ ws) records are = absurd are
rows-after row (purge i ∷ ws) records are = rows-after row ws (without_record i records) are.1 ∙ rows-without row i records are.0
rows-after row (clean_up ∷ ws) records are = rows-after row ws (filter is_live records) are ∙ rows-live row records
rows-after row (reset ∷ ws) records are = rows-after row ws (map clean records) are ∙ rows-clean row records

-- and they are what all of the writes leave
stays : (k : Option ContentValue) (h : SideState) {lives : Bool} → is_held_live h ≡ lives → (not (is_purged k h) && lives) ≡ (is_some k && lives)
stays k h is = grind arith

pub finished-rows : (row : ℕ → Option ContentValue) (h : ℕ → SideState) (records : List Record) → AreShown h records
    → finished (purged_ids row h) records ≡ with_rows row records
finished-rows row h [] shown = refl
finished-rows row h (r ∷ records) shown =
    grind (arith, common_steps, has-purged row h r.id shown.0, stays (row r.id) (h r.id) shown.1, finished-rows row h records shown.2)

pub differ-after : (row : ℕ → Option ContentValue) (ws : List Write) (records : List Record) → AreClearing row ws → RowsDiffer records
    → RowsDiffer (after ws records)
differ-after row [] records are differ = differ
differ-after row (replace i c ∷ ws) records are differ = absurd are
differ-after row (add g c ∷ ws) records are differ = absurd are
differ-after row (purge i ∷ ws) records are differ = differ-after row ws (without_record i records) are.1 (differ-without i records differ)
differ-after row (clean_up ∷ ws) records are differ = differ-after row ws (filter is_live records) are (differ-filter is_live records differ)
differ-after row (reset ∷ ws) records are differ = differ-after row ws (map clean records) are (differ-clean records differ)
