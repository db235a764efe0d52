-- What a function with a handle comes to, by what its handle leads to.
use Rattle.std.proofs.lemmas.Bool.Decides.{nat_tests}
use Rattle.std.proofs.lemmas.Grind.{common_steps}
use Rattle.std.proofs.Common.{◌≡◌, ℕ, true, false, Some, None, Result, Ok, Err, refl, ◌∙◌, arith}
use Rattle.std.specs.Option.{option_map}
use Rattle.pdb_values.specs.Databases.{DatabaseValue}
use Rattle.pdb_values.specs.NamedDatabases.{database_of}
use Rattle.dlp_replies.specs.Frames.{reply_text}
use Rattle.dlp_replies.specs.ReplyValues as reply
use Rattle.dlp_replies.specs.ReplyValues.{ReplyValue, Refused}
use Rattle.palm_device.specs.Devices.{Device, with_database}
use Rattle.palm_device.specs.Handles.{Base, base_at, is_writable, opened_at}
use Rattle.palm_device.specs.declared.opened.Opened.{Opened}
use Rattle.dlp_commands.specs.Answers.{answered}
use Rattle.dlp_commands.specs.DeviceSteps.{outcome}
use Rattle.dlp_commands.specs.Errors.{none_open, not_supported, read_only, ◌>>=◌}
use Rattle.dlp_commands.specs.Holding.{on_records}
use Rattle.dlp_commands.specs.Reached.{next_of, reads, reset_record_index, with_index, writes}
use Rattle.dlp_commands.specs.Readings.{next_in, read_in}
use Rattle.dlp_commands.specs.Writings.{WritingValue, written_in}
use Rattle.dlp_commands.specs.declared.reading.Reading.{Reading}

-- ---- handles

-- what is open
pub base_at-opened : (device : Device) (handle : ℕ) (opened : Opened) → opened_at handle device.handles ≡ Some opened
    → base_at device handle ≡ option_map (λ database. record { opened = opened; database = database }) (database_of opened.name device.databases)
base_at-opened device handle opened is = rw is refl

-- nothing is open there
pub base_at-closed : (device : Device) (handle : ℕ) → opened_at handle device.handles ≡ None → base_at device handle ≡ None
base_at-closed device handle none = rw none refl

-- what is open has no database
pub base_at-nowhere : (device : Device) (handle : ℕ) (opened : Opened) → opened_at handle device.handles ≡ Some opened
    → database_of opened.name device.databases ≡ None → base_at device handle ≡ None
base_at-nowhere device handle opened is none = base_at-opened device handle opened is ∙ rw none refl

-- what is open has its database
pub base_at-there : (device : Device) (handle : ℕ) (opened : Opened) (database : DatabaseValue) → opened_at handle device.handles ≡ Some opened
    → database_of opened.name device.databases ≡ Some database
    → base_at device handle ≡ Some (record { opened = opened; database = database })
base_at-there device handle opened database is there = base_at-opened device handle opened is ∙ rw there refl

-- ---- functions that read

pub reads_none : (old : Device) (number handle : ℕ) (asked : Reading) → base_at old handle ≡ None
    → outcome old number (reads old handle asked) ≡ (reply_text (Refused number none_open), old)
reads_none old number handle asked none = rw none refl

replied_by : (old : Device) (number : ℕ) (found : Result ReplyValue ℕ)
    → outcome old number (found >>= λ value. Ok (old, value)) ≡ (answered number found, old)
replied_by old number found = grind (arith, nat_tests, common_steps)

-- the reply is what the database has
pub reads_some : (old : Device) (number handle : ℕ) (asked : Reading) (base : Base) → base_at old handle ≡ Some base
    → outcome old number (reads old handle asked) ≡ (answered number (read_in asked base.database), old)
reads_some old number handle asked base some = rw some (replied_by old number (read_in asked base.database))

-- ---- the record index

pub next_none : (old : Device) (handle : ℕ) → base_at old handle ≡ None → next_of old handle ≡ Err none_open
next_none old handle none = rw none refl

pub next_some : (old : Device) (handle : ℕ) (base : Base) → base_at old handle ≡ Some base
    → next_of old handle ≡ next_in base.opened.next base.database
next_some old handle base some = rw some refl

pub reset_none : (old : Device) (number handle : ℕ) → base_at old handle ≡ None
    → outcome old number (reset_record_index old handle) ≡ (reply_text (Refused number none_open), old)
unfolding reset_record_index
reset_none old number handle none = rw none refl

pub reset_unfit : (old : Device) (number handle : ℕ) (base : Base) → base_at old handle ≡ Some base → on_records base.database ≡ false
    → outcome old number (reset_record_index old handle) ≡ (reply_text (Refused number not_supported), old)
unfolding reset_record_index
reset_unfit old number handle base some unfit = rw (some, unfit) refl

pub reset_done : (old : Device) (number handle : ℕ) (base : Base) → base_at old handle ≡ Some base → on_records base.database ≡ true
    → outcome old number (reset_record_index old handle) ≡ (reply_text reply.ResetRecordIndex, with_index old handle 0)
unfolding reset_record_index
reset_done old number handle base some suits = rw (some, suits) refl

-- ---- functions that write

pub writes_none : (old : Device) (number handle free : ℕ) (asked : WritingValue) → base_at old handle ≡ None
    → outcome old number (writes free old handle asked) ≡ (reply_text (Refused number none_open), old)
writes_none old number handle free asked none = rw none refl

pub writes_locked : (old : Device) (number handle free : ℕ) (asked : WritingValue) (base : Base) → base_at old handle ≡ Some base
    → is_writable base ≡ false → outcome old number (writes free old handle asked) ≡ (reply_text (Refused number read_only), old)
writes_locked old number handle free asked base some locked = rw (some, locked) refl

pub writes_refused : (old : Device) (number handle free code : ℕ) (asked : WritingValue) (base : Base) → base_at old handle ≡ Some base
    → is_writable base ≡ true → written_in free asked base.database ≡ Err code
    → outcome old number (writes free old handle asked) ≡ (reply_text (Refused number code), old)
writes_refused old number handle free code asked base some allowed refused = rw (some, allowed, refused) refl

pub writes_done : (old : Device) (number handle free : ℕ) (asked : WritingValue) (base : Base) (new : DatabaseValue) (value : ReplyValue)
    → base_at old handle ≡ Some base → is_writable base ≡ true
    → written_in free asked base.database ≡ Ok (new, value)
    → outcome old number (writes free old handle asked) ≡ (reply_text value, with_database old new)
writes_done old number handle free asked base new value some allowed done = rw (some, allowed, done) refl
