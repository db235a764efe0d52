-- What words give that ask for a run.
use Rattle.std.specs.Prelude.{is_some, ℕ, Bool, List, Option, codes, bytes_eq, option_map, option_and_then, if◌then◌else◌}
use Rattle.pdb_values.specs.PalmDates.{if_later, read_text}
use Rattle.run_words.specs.Choices.{ChoiceTexts, choice_in, chosen_actions}
use Rattle.run_words.specs.Forms.{Given}
use Rattle.run_words.specs.declared.action.NamedAction.{NamedAction}

-- the seconds of a date word, where these are the seconds of the date now: `now`, unless they are
-- 0, or a date that is written
abbrev pub date_at : Option ℕ → List ℕ → Option ℕ
date_at now word = if bytes_eq word (codes "now") then if_later now else read_text word

-- a run: two folders and a date in seconds, and what may stand beside them
pub record Run : Type 0 where
  pub handheld : List ℕ
  pub desktop : List ℕ
  pub date : ℕ
  pub script : Option (List ℕ)
  pub trace : Option (List ℕ)
  pub choice : ChoiceTexts
  pub slow : Bool
  pub user : Option (List ℕ)
  pub add_user : Bool

-- the run between these folders at this date, with what the words give beside them
abbrev pub run_between : Given → List ℕ → List ℕ → ℕ → Run
run_between given handheld desktop date = record {
  handheld = handheld;
  desktop = desktop;
  date = date;
  script = given.said (codes "script");
  trace = given.said (codes "trace");
  choice = choice_in given;
  slow = is_some (given.said (codes "slow"));
  user = given.said (codes "user");
  add_user = is_some (given.said (codes "add-user"));
}

-- the date that the words give, at the date now
abbrev pub date_of : Option ℕ → Given → Option ℕ
date_of now given = option_and_then (date_at now) (given.said (codes "date"))

-- the run that the words give, at the date now
abbrev pub run_in : Option ℕ → Given → Option Run
run_in now given =
    option_and_then
    (λ handheld. option_and_then
    (λ desktop. option_map (run_between given handheld desktop) (date_of now given))
    (given.plain 1)) (given.plain 0)

-- what the run does with the databases
abbrev pub run_actions : Run → List NamedAction
run_actions run = chosen_actions run.choice
