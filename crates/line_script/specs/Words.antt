-- Reading the words of a line.
use Rattle.std.specs.Prelude.{ℕ, ◌+◌, ◌*◌, ◌/◌, ◌^◌, ◌==◌, ◌&&◌, nat_lt, bytes_eq, if◌then◌else◌, List, length, take, drop, position, Option, None, Some}
use Rattle.std.specs.Prelude.{option_and_then}
use Rattle.std.specs.Fmt.{decimal}
use Rattle.std.specs.Option.{option_map}
use Rattle.std.specs.Result.{result_ok}
use Rattle.std.specs.Str.Parse.{digits_value}
use Rattle.hex.specs.Hex.{decode_sized, encode_lower}

-- what stands before the first space, and what stands behind it
unfoldable pub split_at_space : List ℕ → Option (List ℕ × List ℕ)
split_at_space words =
    option_map (λ end. (take end words, drop (end + 1) words)) (position (λ byte. byte == 32) words)

-- the number that the digits of a word write, where the word is the text of it and it has 32 bits
unfoldable pub number_in : List ℕ → Option ℕ
number_in word =
    if bytes_eq (decimal (digits_value 10 word)) word && nat_lt (digits_value 10 word) (2 ^ 32)
    then Some (digits_value 10 word) else None

-- a number of 16 bits
unfoldable pub short_in : List ℕ → Option ℕ
short_in word =
    option_and_then (λ number. if nat_lt 0xFFFF number then None else Some number) (number_in word)

-- one byte or more, and at most so many, where the word is the text of them
unfoldable pub bytes_in : ℕ → List ℕ → Option (List ℕ)
bytes_in most word =
    if length word == 0 then None
    else if nat_lt (2 * most) (length word) then None
    else option_and_then (λ bytes. if bytes_eq (encode_lower bytes) word then Some bytes else None)
    (result_ok (decode_sized word (length word / 2)))
