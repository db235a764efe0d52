-- What a function works on: any database, records, or resources.
use Rattle.std.specs.Prelude.{Bool, true, not}
use Rattle.pdb_values.specs.Databases.{DatabaseValue}
use Rattle.pdb_values.specs.Heads.{holds_resources}
use Rattle.dlp_commands.specs.declared.holds.Holds.{Holds}
use Rattle.dlp_commands.specs.declared.holds.Holds.TheVariants as holds

-- a database of records
abbrev pub on_records : DatabaseValue → Bool
on_records database = not (holds_resources database.head.attributes)

-- a database of resources
abbrev pub on_resources : DatabaseValue → Bool
on_resources database = holds_resources database.head.attributes

-- whether a database has what the function works on
abbrev pub fits : Holds → DatabaseValue → Bool
fits holds.Either database = true
fits holds.Records database = on_records database
fits holds.Resources database = on_resources database
