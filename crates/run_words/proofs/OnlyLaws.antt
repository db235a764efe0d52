-- The databases that are touched alone.
use Rattle.std.proofs.Common.{◌≡◌, Bool, true, false, List, [], ◌∷◌, ℕ, refl, ap}
use Rattle.std.specs.Prelude.{bytes_eq, is_some}
use Rattle.pdb_values.proofs.NamedLaws.{bytes_eq-is}
use Rattle.run_words.specs.Actions.{action_for}
use Rattle.run_words.specs.Choices.{action_among, restricted}
use Rattle.run_words.specs.StemNames.{name_of}
use Rattle.run_words.specs.declared.action.NamedAction.{NamedAction}

abbrev pub is_stem : List ℕ → Bool
is_stem text = is_some (name_of text)

-- nothing is done with others, and with these what the actions say
pub action_for-restricted : (names : List (List ℕ)) (actions : List NamedAction) (name : List ℕ)
    → action_for name (restricted names actions) ≡ action_among names actions name
action_for-restricted [] actions name = refl
action_for-restricted (first ∷ names) actions name = step (bytes_eq first name) refl (action_for-restricted names actions name)
  where
    step : (b : Bool) → bytes_eq first name ≡ b → action_for name (restricted names actions) ≡ action_among names actions name
        → action_for name (restricted (first ∷ names) actions) ≡ action_among (first ∷ names) actions name
    step true e rest = rw e (ap (λ other. action_for other actions) (bytes_eq-is first name e))
    step false e rest = rw e rest
