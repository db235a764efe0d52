-- Dates on the wire (pilot-link, `pi-dlp.h`) and as text (ISO 8601).
use Rattle.std.specs.Prelude.{ℕ, ◌+◌, ◌-◌, ◌*◌, min, bytes_eq, ◌/◌, ◌%◌, ◌^◌, ◌==◌, ◌&&◌, Bool, nat_lt, if◌then◌else◌, List, [], ◌∷◌, slice_index, Option, Some}
use Rattle.std.specs.Prelude.{None}
use Rattle.pdb_values.specs.declared.civil.CivilTime.{CivilTime}
use Rattle.pdb_values.specs.CivilTimes.{is_civil, seconds_of, civil_of}

-- the seconds to a date and time that the calendar has, where 32 bits hold them
unfoldable pub counted : CivilTime → Option ℕ
counted time =
    if is_civil time && nat_lt (seconds_of time) (2 ^ 32) then Some (seconds_of time) else None

-- eight bytes: the year with the high byte first, month, day, hour, minute, second, and a zero
abbrev pub wire_of : CivilTime → List ℕ
wire_of time =
    time.year / 256 ∷ time.year % 256 ∷ time.month ∷ time.day ∷ time.hour ∷ time.minute
    ∷ time.second ∷ 0 ∷ []

-- what the first seven bytes say
abbrev pub on_wire : List ℕ → CivilTime
on_wire bytes =
    record {
      year = slice_index bytes 0 * 256 + slice_index bytes 1;
      month = slice_index bytes 2;
      day = slice_index bytes 3;
      hour = slice_index bytes 4;
      minute = slice_index bytes 5;
      second = slice_index bytes 6;
    }

-- each part is 0
abbrev pub is_no_date : CivilTime → Bool
is_no_date time =
    (time.year == 0) && (time.month == 0) && (time.day == 0) && (time.hour == 0)
    && (time.minute == 0) && (time.second == 0)

-- the wire date of these seconds: 0 stands for no date
abbrev pub wire_date : ℕ → List ℕ
wire_date seconds =
    if seconds == 0 then 0 ∷ 0 ∷ 0 ∷ 0 ∷ 0 ∷ 0 ∷ 0 ∷ 0 ∷ [] else wire_of (civil_of seconds)

-- the seconds of what a wire date says
abbrev pub wire_seconds : CivilTime → Option ℕ
wire_seconds time = if is_no_date time then Some 0 else counted time

-- the seconds of a wire date, whose last byte is not looked at
abbrev pub read_wire : List ℕ → Option ℕ
read_wire bytes = wire_seconds (on_wire bytes)

-- `YYYY-MM-DDTHH:MM:SS`
unfoldable pub text_of : CivilTime → List ℕ
text_of time =
    (48 + time.year / 1000) ∷ (48 + time.year / 100 % 10) ∷ (48 + time.year / 10 % 10)
    ∷ (48 + time.year % 10) ∷ 45
    ∷ (48 + time.month / 10) ∷ (48 + time.month % 10) ∷ 45 ∷ (48 + time.day / 10)
    ∷ (48 + time.day % 10) ∷ 84
    ∷ (48 + time.hour / 10) ∷ (48 + time.hour % 10) ∷ 58 ∷ (48 + time.minute / 10)
    ∷ (48 + time.minute % 10) ∷ 58
    ∷ (48 + time.second / 10) ∷ (48 + time.second % 10) ∷ []

-- the digit at a place of a text, or the nearest digit where there is none
abbrev pub digit_at : List ℕ → ℕ → ℕ
digit_at text place = min (slice_index text place - 48) 9

-- the number of the two digits from a place on
abbrev pub two_digits_at : List ℕ → ℕ → ℕ
two_digits_at text place = digit_at text place * 10 + digit_at text (place + 1)

-- what the digits of a text say
unfoldable pub in_text : List ℕ → CivilTime
in_text text =
    record {
      year = two_digits_at text 0 * 100 + two_digits_at text 2;
      month = two_digits_at text 5;
      day = two_digits_at text 8;
      hour = two_digits_at text 11;
      minute = two_digits_at text 14;
      second = two_digits_at text 17;
    }

-- the text of a date later than 0 seconds
abbrev pub date_text : ℕ → List ℕ
date_text seconds = text_of (civil_of seconds)

-- 0 seconds stand for no date
abbrev pub if_later : Option ℕ → Option ℕ
if_later None = None
if_later (Some seconds) = if seconds == 0 then None else Some seconds

-- the seconds of a text that is exactly what is written of the date that its digits give, where
-- that is later than 0 seconds
abbrev pub read_text : List ℕ → Option ℕ
read_text text =
    if bytes_eq text (text_of (in_text text)) then if_later (counted (in_text text)) else None
