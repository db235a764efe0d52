-- What is known of each item that was drawn.
use Rattle.std.specs.Prelude.{◌<◌, ◌≤◌}
use Rattle.made_folders.specs.declared.item.Item.{Item}

-- its number is one of those that a count allows, and its text is short
pub record IsDrawn (item : Item) : Type 0 where
  pub number : item.number ≤ 5000
  pub fill : item.fill < 200
