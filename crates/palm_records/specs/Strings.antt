-- Strings in records (Palm File Format Specification; pilot-link's memo.h).
use Rattle.std.specs.Prelude.{ℕ, suc, ◌==◌, List, [], Option, None, Some, drop, position, take}

-- the place of the first zero byte
abbrev pub first_zero : List ℕ → Option ℕ
first_zero bytes = position (λ byte. byte == 0) bytes

-- the bytes before this place, or all where there is none
abbrev pub front : Option ℕ → List ℕ → List ℕ
front (Some place) bytes = take place bytes
front None bytes = bytes

-- the bytes before the first zero byte, or all where none is there
abbrev pub until_zero : List ℕ → List ℕ
until_zero bytes = front (first_zero bytes) bytes

-- the bytes behind this place, or none where there is none
abbrev pub back : Option ℕ → List ℕ → List ℕ
back (Some place) bytes = drop (suc place) bytes
back None bytes = []

-- the bytes behind the first zero byte
abbrev pub behind_string : List ℕ → List ℕ
behind_string bytes = back (first_zero bytes) bytes
