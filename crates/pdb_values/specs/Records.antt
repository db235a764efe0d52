-- What a record stands for (Palm File Format Specification, attributes of a record entry).
use Rattle.std.specs.Prelude.{Bool, not, ◌==◌, length, if◌then◌else◌}
use Rattle.pdb_values.specs.declared.record.Kind.{Kind}
use Rattle.pdb_values.specs.declared.record.Kind.TheVariants.{Live, Archived, Deleted}
use Rattle.pdb_values.specs.declared.record.Record.{Record}

-- the user has not deleted the record
abbrev pub is_live : Record → Bool
is_live item = not item.deleted

-- a deleted record that still has bytes is an archived one
abbrev pub kind_of : Record → Kind
kind_of item =
    if is_live item then Live else if length item.content.bytes == 0 then Deleted else Archived
