-- Which databases words choose, and what is done with them.
use Rattle.std.specs.Prelude.{ℕ, Bool, List, [], ◌∷◌, ◌++◌, map, Option, Some, None, codes, bytes_eq, is_some, if◌then◌else◌}
use Rattle.std.specs.List.{filter_map, list_all, list_any}
use Rattle.run_words.specs.Actions.{action_for, actions_in, aimed, items_of}
use Rattle.run_words.specs.Forms.{Given}
use Rattle.run_words.specs.StemNames.{name_of}
use Rattle.run_words.specs.declared.action.ActionWord.{ActionWord}
use Rattle.run_words.specs.declared.action.ActionWord.TheVariants.{Nothing}
use Rattle.run_words.specs.declared.action.NamedAction.{NamedAction}
use Rattle.run_words.specs.declared.action.Target.TheVariants.{Others, One}

-- the text of `--only`, and that of `--actions`
pub record ChoiceTexts : Type 0 where
  pub only : Option (List ℕ)
  pub actions : Option (List ℕ)

-- the choice that words make
abbrev pub choice_in : Given → ChoiceTexts
choice_in given =
    record { only = given.said (codes "only"); actions = given.said (codes "actions") }

-- ---- the words

-- stems, with one comma between them
abbrev pub are_stems : List ℕ → Bool
are_stems text = list_all (λ stem. is_some (name_of stem)) (items_of (Some text))

-- ---- what is done

-- the names of these stems
abbrev pub names_in : List ℕ → List (List ℕ)
names_in text = filter_map name_of (items_of (Some text))

-- the action of each of these names, and nothing for all other databases
abbrev pub restricted : List (List ℕ) → List NamedAction → List NamedAction
restricted names actions =
    map (λ name. aimed (One name) (action_for name actions)) names ++ aimed Others Nothing ∷ []

abbrev pub restricted_to : Option (List ℕ) → List NamedAction → List NamedAction
restricted_to None actions = actions
restricted_to (Some stems) actions = restricted (names_in stems) actions

-- the actions that the words give
abbrev pub given_actions : Option (List ℕ) → List NamedAction
given_actions None = []
given_actions (Some text) = actions_in text

-- what is done with the databases: what the words say, and where they name some, nothing with all
-- others
abbrev pub chosen_actions : ChoiceTexts → List NamedAction
chosen_actions choice = restricted_to choice.only (given_actions choice.actions)

-- one of these names
abbrev pub is_among : List (List ℕ) → List ℕ → Bool
is_among names name = list_any (λ other. bytes_eq other name) names

-- what is done with the database of a name, where these alone are touched
abbrev pub action_among : List (List ℕ) → List NamedAction → List ℕ → ActionWord
action_among names actions name =
    if is_among names name then action_for name actions else Nothing
