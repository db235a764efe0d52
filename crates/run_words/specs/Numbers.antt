-- Numbers as words: decimal digits without a sign or a leading zero.
use Rattle.std.specs.Prelude.{ℕ, Bool, not, ◌^◌, ◌==◌, ◌&&◌, ◌||◌, nat_le, nat_lt, List, length, slice_index, Option, Some, None, if◌then◌else◌}
use Rattle.std.specs.Char.{is_ascii_digit}
use Rattle.std.specs.List.{list_all}
use Rattle.std.specs.Option.{option_and_then}
use Rattle.std.specs.Str.Parse.{digits_value}

-- one digit or more, the first of them a zero only where it is the only one
abbrev pub is_number : List ℕ → Bool
is_number word =
    not (length word == 0) && list_all is_ascii_digit word
    && (not (slice_index word 0 == 48) || (length word == 1))

-- the number of a word, up to 18,446,744,073,709,551,615
abbrev pub number_of : List ℕ → Option ℕ
number_of word =
    if is_number word && nat_lt (digits_value 10 word) (2 ^ 64) then Some (digits_value 10 word)
    else None

-- a number from 1 to 5,000
abbrev pub as_count : ℕ → Option ℕ
as_count number = if nat_le 1 number && nat_le number 5000 then Some number else None

-- the count of a word
abbrev pub count_of : List ℕ → Option ℕ
count_of word = option_and_then as_count (number_of word)
