-- Base rows that go along with their rows.
use Rattle.std.proofs.Common.{◌≡◌, ap, refl, Bool, true, false}
use Rattle.std.specs.Prelude.{Option, Some, None, if◌then◌else◌}
use Rattle.pdb_values.specs.Databases.{DatabaseValue}
use Rattle.category_mirror.specs.Blocks.{MergeValue}
use Rattle.category_mirror.specs.Refiled.{refiled_base}
use Rattle.category_mirror.specs.Sides.{base_by, change_by}

-- ---- a database of base rows

base-chosen : (merge : MergeValue) (b : Bool) (d : DatabaseValue) → (if b then refiled_base merge d else d).head ≡ d.head
unfolding refiled_base
base-chosen merge true d = refl
base-chosen merge false d = refl

-- its head stays
pub base-head : (m : Option MergeValue) (rows : Option DatabaseValue) (d : DatabaseValue) → (base_by m rows d).head ≡ d.head
base-head None rows d = refl
base-head (Some merge) rows d = base-chosen merge (change_by (Some merge) rows) d

-- it stays where no row changes
pub base-quiet : (m : Option MergeValue) (rows : Option DatabaseValue) → change_by m rows ≡ false → (d : DatabaseValue) → base_by m rows d ≡ d
base-quiet None rows quiet d = refl
base-quiet (Some merge) rows quiet d = ap (λ b. if b then refiled_base merge d else d) quiet
