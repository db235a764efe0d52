-- How many records a handheld has at most while it is written.
use Rattle.std.proofs.Common.{◌≡◌, ◌∙◌, ◌+◌, refl, ap, ℕ, List, [], ◌∷◌, length, filter, map, arith, is_none}
use Rattle.std.specs.Prelude.{Option}
use Rattle.std.proofs.lemmas.List.{length-append}
use Rattle.palm_device.proofs.BoundLaws.{length-map}
use Rattle.pdb_values.specs.Contents.{ContentValue}
use Rattle.pdb_values.specs.declared.record.Record.{Record}
use Rattle.conduit_rules.specs.ById.{each_id, id_bound}
use Rattle.conduit_rules.specs.Choices.{Choice}
use Rattle.conduit_rules.specs.Plans.{replaced_rows}
use Rattle.conduit_rules.specs.States.{SideState, first}
use Rattle.conduit_rules.proofs.AgreedLaws.{RowsDiffer}
use Rattle.conduit_rules.proofs.PlanLaws.{replaced_rise}
use Rattle.record_merge.specs.Merging.{ShowsNoOther, new_under}
use Rattle.record_merge.proofs.AfterLaws.{after-replaces, apart-rising, unheld, filter-each_below}
use Rattle.record_merge.proofs.PutLaws.{appended, put_all-is, replaced}
use Rattle.database_merge.specs.Faults.{peak}

appended-filter : (rs : List Record) (es : List (ℕ × ContentValue)) → length (appended rs es) ≡ length (filter (unheld rs) es)
appended-filter rs [] = refl
appended-filter rs (e ∷ es) = grind (arith, is_none (first e.0 rs), appended-filter rs es)

-- as many as are kept under ids that no record has
appended-count : (keep : ℕ → Option ContentValue) (h : ℕ → SideState) (rs : List Record) → ShowsNoOther h rs
    → length (appended rs (replaced_rows keep h)) ≡ length (each_id (λ i. new_under i (first i rs) (keep i)))
appended-count keep h rs shown = grind (arith, appended-filter rs (replaced_rows keep h), filter-each_below (unheld rs), unheld rs, filter (unheld rs))

-- those that it had, and the new ones
pub peak-is : (ch : Choice) (h : ℕ → SideState) (records : List Record) → RowsDiffer records → ShowsNoOther h records
    → peak ch h records ≡ length records + (length ch.adds + length (each_id (λ i. new_under i (first i records) (ch.keep i))))
peak-is ch h records differ shown =
    let es = replaced_rows ch.keep h in
    let put = after-replaces es records ∙ put_all-is es records (apart-rising 0 id_bound es (replaced_rise ch.keep h)) differ in
    let whole = ap length put ∙ length-append (map (replaced es) records) (appended records es) in
    let same = length-map (replaced es) records in
    let new = appended-count ch.keep h records shown in
    omega (arith, whole, same, new)
