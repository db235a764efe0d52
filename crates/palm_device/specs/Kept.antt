-- Which records are kept when others are taken out.
use Rattle.std.specs.Prelude.{Bool, not}
use Rattle.pdb_values.specs.Records.{is_live}
use Rattle.pdb_values.specs.declared.record.Record.{Record}
use Rattle.palm_device.specs.Records.{is_in}
use Rattle.palm_device.specs.declared.kept.Kept.{Kept}
use Rattle.palm_device.specs.declared.kept.Kept.TheVariants as kept

-- those that were not deleted, or those of other categories
abbrev pub is_kept : Kept → Record → Bool
is_kept kept.Live item = is_live item
is_kept (kept.Outside category) item = not (is_in category item)
