-- The database that a request may change.
use Rattle.std.specs.Prelude.{ℕ, Bool, false, List, Option, Some, None, Result, Ok, Err, if◌then◌else◌}
use Rattle.std.specs.Str.{bytes_eq}
use Rattle.dlp_requests.specs.declared.fault.RequestFault.{RequestFault}
use Rattle.dlp_args.specs.Fields.{Fields}
use Rattle.dlp_requests.specs.Forms as form
use Rattle.dlp_requests.specs.Forms.{Form, kinds_of}
use Rattle.dlp_requests.specs.RequestValues.{RequestValue}
use Rattle.palm_device.specs.Devices.{Device}
use Rattle.palm_device.specs.Handles.{Base, base_at, is_writable}

-- the name of a database that is open for writing
abbrev pub writable_name : Option Base → Option (List ℕ)
writable_name None = None
writable_name (Some base) = if is_writable base then Some base.opened.name else None

-- a request that writes may change the database of its handle, where that is open for writing;
-- CreateDB makes one and DeleteDB removes one
abbrev pub target_by : Device → (f : Form) → Fields (kinds_of f) → Option (List ℕ)
target_by old form.CreateDb (creator, (kind, (card, (pad, (flags, (version, (name, end))))))) =
    Some name
target_by old form.DeleteDb (card, (pad, (name, end))) = Some name
target_by old form.WriteAppBlock (handle, more) = writable_name (base_at old handle)
target_by old form.WriteSortBlock (handle, more) = writable_name (base_at old handle)
target_by old form.WriteRecord (handle, more) = writable_name (base_at old handle)
target_by old form.DeleteRecord (handle, more) = writable_name (base_at old handle)
target_by old form.WriteResource (handle, more) = writable_name (base_at old handle)
target_by old form.DeleteResource (handle, more) = writable_name (base_at old handle)
target_by old form.CleanUpDatabase (handle, more) = writable_name (base_at old handle)
target_by old form.ResetSyncFlags (handle, more) = writable_name (base_at old handle)
target_by old form.MoveCategory (handle, more) = writable_name (base_at old handle)
target_by old other fields = None

abbrev pub target : Device → RequestValue → Option (List ℕ)
target old value = target_by old value.form value.fields

-- bytes that are no request change none
abbrev pub target_of : Device → Result RequestValue RequestFault → Option (List ℕ)
target_of old (Ok value) = target old value
target_of old (Err fault) = None

-- whether it is this name
abbrev pub is_name : List ℕ → Option (List ℕ) → Bool
is_name name None = false
is_name name (Some other) = bytes_eq other name
