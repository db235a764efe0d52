use Rattle.std.proofs.Common.{◌≡◌, ◌≤◌, ◌+◌, ◌-◌, ◌++◌, length}
use Rattle.std.specs.Prelude.{All}
use Rattle.made_folders.specs.Drawn.{IsDrawn}
use Rattle.made_folders.specs.Items.{items_from, made}
use Rattle.made_folders.proofs.item.make_items.Given as goal

abbrev pub invariant-loop-place : goal.invariant-loop-place
invariant-loop-place l = record {
  so_far : made l.seed l.count ≡ l.items.items ++ items_from (l.place + 1) (l.count - l.place) l.generator;
  near : l.place ≤ l.count;
  count : length l.items.items ≡ l.place;
  drawn : All IsDrawn l.items.items;
}
