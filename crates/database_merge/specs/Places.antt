-- The ids of records, kept beside them so that a record is found by its id without a walk.
use Rattle.std.specs.Prelude.{◌≡◌, List, IfSome}
use Rattle.pdb_values.specs.declared.record.Record.{Record}
use Rattle.palm_device.specs.Soundness.{ids_of}
use Rattle.database_merge.specs.declared.places.Places.{Places}

-- where there are ids, they are those of these records, in their order
abbrev pub HasPlaces : List Record → Places → Type 0
HasPlaces records places = IfSome places.ids (λ ids. ids.keys ≡ ids_of records)
