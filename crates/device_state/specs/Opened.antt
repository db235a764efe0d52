-- What is open under the handles of a device, as bytes.
use Rattle.std.specs.Prelude.{ℕ, ◌<◌, ◌≤◌, List, [], ◌∷◌, ◌++◌, Option, Some, None, IfSome}
use Rattle.std.specs.List.{flat_map, range_with_len}
use Rattle.device_state.specs.Strings.{string_text}
use Rattle.pdb_values.specs.Names.{IsName}
use Rattle.palm_device.specs.Handles.{opened_at}
use Rattle.palm_device.specs.declared.opened.Opened.{Opened}
use Rattle.device_state.specs.Numbers.{two_bytes}

-- no byte where nothing is open, else the mode, the record index in two bytes, and the name
abbrev pub opened_text : Option Opened → List ℕ
opened_text None = []
opened_text (Some opened) = opened.mode ∷ two_bytes opened.next ++ opened.name

-- a string for each handle, from the first on, so many
unfoldable pub handles_text : ℕ → ℕ → List (Option Opened) → List ℕ
handles_text first count handles =
    flat_map (λ handle. string_text (opened_text (opened_at handle handles)))
    (range_with_len first count)

-- what is open has the name of a database
abbrev pub IsNamed : Option Opened → Type 0
IsNamed slot = IfSome slot (λ opened. IsName opened.name)

-- what is open under the handles 1 to 8 has names of databases, as all handles of a program have
abbrev pub AreNamed : List (Option Opened) → Type 0
AreNamed handles = (handle : ℕ) → 0 < handle → handle ≤ 8 → IsNamed (opened_at handle handles)
