-- A record that is read by its id is read at its place.
use Rattle.std.proofs.Common.{◌≡◌, ◌≤◌, ℕ, length, Option, Some, None, Ok, refl, arith}
use Rattle.std.specs.Prelude.{IfSome, option_and_then}
use Rattle.std.proofs.lemmas.Option.{slice_get_past}
use Rattle.pdb_values.specs.Databases.{DatabaseValue}
use Rattle.pdb_values.specs.NamedDatabases.{database_of}
use Rattle.palm_device.specs.Devices.{Device}
use Rattle.palm_device.specs.Handles.{base_at, opened_at}
use Rattle.palm_device.specs.Records.{place_of_id}
use Rattle.palm_device.specs.declared.opened.Opened.{Opened}
use Rattle.dlp_replies.specs.ReplyValues.{ReplyValue}
use Rattle.dlp_commands.specs.Errors.{not_found, not_supported, ◌>>=◌, check, need}
use Rattle.dlp_commands.specs.Holding.{fits}
use Rattle.dlp_commands.specs.Readings.{read_in, record_part}
use Rattle.dlp_commands.specs.declared.holds.Holds.TheVariants as holds
use Rattle.dlp_commands.specs.Reached.{Trial, reads}
use Rattle.dlp_commands.specs.declared.reading.Reading.{Reading}
use Rattle.dlp_commands.specs.declared.reading.Reading.TheVariants as reading
use Rattle.dlp_commands.proofs.ReachedLaws.{base_at-nowhere, base_at-there}

-- the same reading, once it is known where the record stands
by_place : (id offset count : ℕ) (database : DatabaseValue) (o : Option ℕ) → place_of_id id database.records ≡ o
    → read_in (reading.RecordOfId id offset count) database
    ≡ (check not_supported (fits holds.Records database) >>= λ suited. (need not_found o >>= λ index. record_part database index offset count))
by_place id offset count database o is = rw is refl

read_some : (id offset count place : ℕ) (database : DatabaseValue) → place_of_id id database.records ≡ Some place
    → read_in (reading.RecordAt place offset count) database ≡ read_in (reading.RecordOfId id offset count) database
read_some id offset count place database is = grind (arith, by_place)

read_none : (id offset count : ℕ) (database : DatabaseValue) → length database.records ≤ 65535
    → place_of_id id database.records ≡ None → read_in (reading.RecordAt 65535 offset count) database ≡ read_in (reading.RecordOfId id offset count) database
read_none id offset count database few is = grind (arith, slice_get_past)

led : (device : Device) (handle index id offset count : ℕ) (opened : Opened) (o : Option DatabaseValue)
    → opened_at handle device.handles ≡ Some opened → database_of opened.name device.databases ≡ o
    → IfSome o (λ database. read_in (reading.RecordAt index offset count) database ≡ read_in (reading.RecordOfId id offset count) database)
    → IfSome (base_at device handle)
    (λ base. read_in (reading.RecordAt index offset count) base.database ≡ read_in (reading.RecordOfId id offset count) base.database)
led device handle index id offset count opened None is none same = rw (base_at-nowhere device handle opened is none) tt
led device handle index id offset count opened (Some database) is there same = rw (base_at-there device handle opened database is there) same

some_by : (id offset count place : ℕ) (o : Option DatabaseValue)
    → option_and_then (λ (database : DatabaseValue). place_of_id id database.records) o ≡ Some place
    → IfSome o (λ database. read_in (reading.RecordAt place offset count) database ≡ read_in (reading.RecordOfId id offset count) database)
some_by id offset count place None is = absurd cc
some_by id offset count place (Some database) is = read_some id offset count place database is

none_by : (id offset count : ℕ) (o : Option DatabaseValue)
    → IfSome o (λ database. length database.records ≤ 65535) → option_and_then (λ (database : DatabaseValue). place_of_id id database.records) o ≡ None
    → IfSome o (λ database. read_in (reading.RecordAt 65535 offset count) database ≡ read_in (reading.RecordOfId id offset count) database)
none_by id offset count None few is = tt
none_by id offset count (Some database) few is = read_none id offset count database few is

-- the record of an id is the one at the place that was found
pub placed_some : (device : Device) (handle id offset count place : ℕ) (opened : Opened) → opened_at handle device.handles ≡ Some opened
    → option_and_then (λ (database : DatabaseValue). place_of_id id database.records) (database_of opened.name device.databases) ≡ Some place
    → IfSome (base_at device handle)
    (λ base. read_in (reading.RecordAt place offset count) base.database ≡ read_in (reading.RecordOfId id offset count) base.database)
placed_some device handle id offset count place opened is found = grind (arith, led, some_by)

-- where none has the id, none stands at index 65,535 either
pub placed_none : (device : Device) (handle id offset count : ℕ) (opened : Opened)
    → opened_at handle device.handles ≡ Some opened → IfSome (database_of opened.name device.databases) (λ database. length database.records ≤ 65535)
    → option_and_then (λ (database : DatabaseValue). place_of_id id database.records) (database_of opened.name device.databases) ≡ None
    → IfSome (base_at device handle)
    (λ base. read_in (reading.RecordAt 65535 offset count) base.database ≡ read_in (reading.RecordOfId id offset count) base.database)
placed_none device handle id offset count opened is few none = led device handle 65535 id offset count opened
    (database_of opened.name device.databases) is refl (none_by id offset count (database_of opened.name device.databases) few none)

abbrev told : Device → ReplyValue → Trial
told device answer = Ok (device, answer)

-- what is read of the same database is the same
pub reads_same : (device : Device) (handle : ℕ) (one other : Reading)
    → IfSome (base_at device handle) (λ base. read_in one base.database ≡ read_in other base.database) → reads device handle one ≡ reads device handle other
reads_same device handle one other same = grind arith
