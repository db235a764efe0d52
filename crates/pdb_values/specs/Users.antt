-- What a handheld knows of its user (pilot-link, `pi-dlp.h`: the user's information).
use Rattle.std.specs.Prelude.{ℕ, ◌==◌, ◌||◌, nat_lt, if◌then◌else◌, List, length, Option, None, Some}
use Rattle.std.specs.List.{list_any}

-- the name of a user: at most 40 bytes, none of them zero
abbrev pub user_name_of : List ℕ → Option (List ℕ)
user_name_of bytes =
    if nat_lt 40 (length bytes) || list_any (λ byte. byte == 0) bytes then None else Some bytes

-- a password: at most 40 bytes
abbrev pub password_of : List ℕ → Option (List ℕ)
password_of bytes = if nat_lt 40 (length bytes) then None else Some bytes
