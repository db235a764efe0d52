-- What stands in an information file in lower-case hexadecimal.
use Rattle.std.specs.Prelude.{◌≡◌, ◌==◌, ◌/◌, ℕ, nat_lt, bytes_eq, codes, if◌then◌else◌, List, [], ◌∷◌, length, slice_index, Option, None, Some}
use Rattle.std.specs.Prelude.{option_and_then}
use Rattle.std.specs.Result.{result_ok}
use Rattle.hex.specs.Hex.{IsBytes, decode_sized, encode_lower}
use Rattle.pdb_values.specs.PalmDates.{read_wire}

-- exactly so many bytes, where the text is their lower-case hexadecimal
unfoldable pub bytes_in : ℕ → List ℕ → Option (List ℕ)
bytes_in count text =
    option_and_then (λ bytes. if bytes_eq (encode_lower bytes) text then Some bytes else None)
    (result_ok (decode_sized text count))

-- bytes as the text of them, or `-` for none
abbrev pub bytes_text : List ℕ → List ℕ
bytes_text [] = codes "-"
bytes_text (byte ∷ bytes) = encode_lower (byte ∷ bytes)

-- none to 40 bytes, where the text is that of them
unfoldable pub few_bytes_in : List ℕ → Option (List ℕ)
few_bytes_in text =
    if bytes_eq text (codes "-") then Some []
    else if length text == 0 then None
    else if nat_lt 80 (length text) then None
    else bytes_in (length text / 2) text

-- the eight bytes of a wire date, the last of them zero
pub record IsWireDate (seconds : ℕ) (bytes : List ℕ) : Type 0 where
  pub eight : length bytes ≡ 8
  pub in_range : IsBytes bytes
  pub read : read_wire bytes ≡ Some seconds
  pub ended : slice_index bytes 7 ≡ 0

-- the date of eight bytes whose last one is zero
abbrev pub date_in : List ℕ → Option ℕ
date_in bytes = if slice_index bytes 7 == 0 then read_wire bytes else None
