-- What the words of a run ask of its session.
use Rattle.std.specs.Prelude.{◌≡◌}
use Rattle.run_words.specs.Runs.{Run, run_actions}
use Rattle.run_words.specs.UserNames.{wished_name}
use Rattle.session_plan.specs.declared.wishes.Wishes.{Wishes}

-- the words ask for this
pub record AsksFor (run : Run) (wishes : Wishes) : Type 0 where
  pub date : wishes.date ≡ run.date
  pub slow : wishes.slow ≡ run.slow
  pub user : wishes.user.name ≡ wished_name run.user
  pub add_user : wishes.user.add ≡ run.add_user
  pub actions : wishes.actions.items ≡ run_actions run
