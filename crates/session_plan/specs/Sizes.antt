-- The limits of a side.
use Rattle.std.specs.Prelude.{Bool, ◌||◌, nat_lt}
use Rattle.pdb_values.specs.Bounds.{most_databases, most_entries}
use Rattle.session_plan.specs.declared.sizes.Sizes.{Sizes}

-- one number is more than its limit
abbrev pub is_over : Sizes → Bool
is_over sizes =
    nat_lt most_databases sizes.handhelds || (nat_lt most_databases sizes.desktops
    || (nat_lt most_entries sizes.records || (nat_lt most_entries sizes.rows
    || (nat_lt most_entries sizes.base || nat_lt most_entries sizes.archive))))
