-- The rows that count by themselves, one row more.
use Rattle.std.proofs.Common.{◌≡◌, ℕ, List, [], ◌∷◌, ◌++◌, refl, ap, ◌∙◌, arith, true, false, Bool, not, ◌&&◌, ◌||◌, if◌then◌else◌, is_some}
use Rattle.std.proofs.lemmas.Bool.Decides.{nat_tests}
use Rattle.pdb_values.specs.declared.record.Record.{Record}
use Rattle.conduit_rules.specs.ById.{put}
use Rattle.conduit_rules.specs.Choices.{loose_for}
use Rattle.conduit_rules.specs.Fates.{looks_at_base}
use Rattle.conduit_rules.specs.News.{loose}
use Rattle.conduit_rules.specs.States.{first}
use Rattle.conduit_rules.specs.declared.action.Action.{Action}
use Rattle.conduit_rules.specs.declared.action.Action.TheVariants.{Sync, Handheld, Desktop, Both}

-- a row behind these is without a base row where an earlier one has its id or the base doesn't
abbrev pub is_loose_after : (ℕ → Bool) → List Record → ℕ → Bool
is_loose_after based earlier i = is_some (first i earlier) || not (based i)

pub loose-push : (based : ℕ → Bool) (xs : List Record) (r : Record)
    → loose based (xs ++ r ∷ []) ≡ loose based xs ++ (if is_loose_after based xs r.id then r ∷ [] else [])
loose-push based [] r = grind (arith, nat_tests)
loose-push based (x ∷ xs) r = grind (arith, nat_tests, loose-push (put based x.id false) xs r, loose-push based xs r)

-- an id has a base row that an action looks at
abbrev pub based_by : Action → (ℕ → Bool) → ℕ → Bool
based_by a based i = looks_at_base a && based i

-- where none has, each row counts by itself
pub loose-all : (rows : List Record) → loose (λ i. false) rows ≡ rows
loose-all [] = refl
loose-all (r ∷ rows) = ap (λ rest. r ∷ rest) (loose-all rows)

-- what an action counts of the rows that it finds
pub loose-by : {A : Type 0} (a : Action) (F : List Record → List A) (based : ℕ → Bool) (rows found : List Record)
    → found ≡ loose (based_by a based) rows → loose_for a (F found) (F found) ≡ loose_for a (F (loose based rows)) (F rows)
loose-by Sync F based rows found is = ap F is
loose-by Handheld F based rows found is = refl
loose-by Desktop F based rows found is = ap F is
loose-by Both F based rows found is = ap F (is ∙ loose-all rows)
