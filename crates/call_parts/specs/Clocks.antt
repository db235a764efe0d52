-- The date that a clock of the system tells.
use Rattle.std.specs.Prelude.{ℕ, ◌+◌, ◌^◌, nat_lt, Option, Some, None, if◌then◌else◌}

-- The seconds since 1904 of a clock that counts them since 1970, where 32 bits hold them: these 66
-- years have 24,107 days.
abbrev pub seconds_at : ℕ → Option ℕ
seconds_at clock =
    if nat_lt (clock + 2082844800) (2 ^ 32) then Some (clock + 2082844800) else None
