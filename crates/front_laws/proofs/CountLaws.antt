-- How many records a database gets by its replacements.
use Rattle.std.proofs.Common.{◌≡◌, refl, ℕ, List, [], ◌∷◌, length, filter, arith, is_none}
use Rattle.std.specs.Prelude.{Option}
use Rattle.pdb_values.specs.Contents.{ContentValue}
use Rattle.pdb_values.specs.declared.record.Record.{Record}
use Rattle.conduit_rules.specs.ById.{each_id}
use Rattle.conduit_rules.specs.Plans.{replaced_rows}
use Rattle.conduit_rules.specs.States.{SideState, first}
use Rattle.record_merge.specs.Merging.{ShowsNoOther, new_under}
use Rattle.record_merge.proofs.AfterLaws.{unheld, filter-each_below}
use Rattle.record_merge.proofs.PutLaws.{appended}

appended-filter : (rs : List Record) (es : List (ℕ × ContentValue)) → length (appended rs es) ≡ length (filter (unheld rs) es)
appended-filter rs [] = refl
appended-filter rs (e ∷ es) = grind (arith, is_none (first e.0 rs), appended-filter rs es)

-- as many as are kept under ids that no record has
pub appended-count : (keep : ℕ → Option ContentValue) (h : ℕ → SideState) (rs : List Record) → ShowsNoOther h rs
    → length (appended rs (replaced_rows keep h)) ≡ length (each_id (λ i. new_under i (first i rs) (keep i)))
appended-count keep h rs shown = grind (arith, appended-filter rs (replaced_rows keep h), filter-each_below (unheld rs), unheld rs, filter (unheld rs))
