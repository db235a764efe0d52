-- What the words of a session over a cable ask of it.
use Rattle.std.specs.Prelude.{◌≡◌}
use Rattle.run_words.specs.Cables.{Cable, cable_actions}
use Rattle.run_words.specs.UserNames.{wished_name}
use Rattle.session_plan.specs.declared.wishes.Wishes.{Wishes}

-- the words ask for this
pub record AsksFor (cable : Cable) (wishes : Wishes) : Type 0 where
  pub date : wishes.date ≡ cable.date
  pub slow : wishes.slow ≡ cable.slow
  pub user : wishes.user.name ≡ wished_name cable.user
  pub add_user : wishes.user.add ≡ cable.add_user
  pub actions : wishes.actions.items ≡ cable_actions cable
