-- The days from 1904 are those of the library's calendar, and the date of a number of seconds has that number.
use Rattle.std.proofs.lemmas.Grind.{common_steps}
use Rattle.std.proofs.Common.{inl, inr, rules, ◌≡◌, ℕ, zero, suc, ◌+◌, ◌-◌, ◌*◌, ◌/◌, ◌%◌, ◌<◌, ◌≤◌, true, false, refl, sym, arith, ℤ, pos, nat_abs, ◌+ℤ◌, ◌≤ℤ◌}
use Rattle.std.proofs.Common.{◌^◌, Result, nat_lt}
use Rattle.std.proofs.lemmas.Bool.Decides.{nat_tests}
use Rattle.std.proofs.lemmas.Bool.{cases_lt}
use Rattle.jiff_core.specs.Calendar.{day_count, day_of_year, days_of_months, IsCivilDate}
use Rattle.jiff_core.proofs.SignedLemmas.{signed_arith}
use Rattle.jiff_core.proofs.MarchLemmas.{day_count-early}
use Rattle.jiff_core.proofs.CalendarLemmas.{day_count-next_year, day_count-day_of_year, days_of_months-zero, day_of_year_bound, day_count-lt_year}
use Rattle.jiff_core.proofs.CalendarLemmas.{days_of_months_all, day_count-last_of_year, days_from_civil-day_count}
use Rattle.std.proofs.lemmas.Int.{by_lt_z}
use Rattle.std.specs.Result.{result_ok, OkIff}
use Rattle.std.specs.declared.num.TryFromIntError.{TryFromIntError}
use Rattle.pdb_values.specs.PalmDates.{counted}
use Rattle.jiff_core.proofs.DateLemmas.{civil}
use Rattle.jiff_core.specs.declared.civil.date.Date.{Date}
use Rattle.jiff_core.specs.Date.{epoch_day}
use Rattle.pdb_values.specs.declared.civil.CivilTime.{CivilTime}
use Rattle.pdb_values.specs.CivilTimes.{days_in_year, days_in_month, days_of, days_before, seconds_of, is_civil, place_of, civil_of}

-- the facts of the test
pub record IsCivil (time : CivilTime) : Type 0 where
  pub year_low : 1904 ≤ time.year
  pub year_high : time.year ≤ 2040
  pub month_low : 1 ≤ time.month
  pub month_high : time.month ≤ 12
  pub day_low : 1 ≤ time.day
  pub day_high : time.day ≤ days_in_month time.year time.month
  pub hour_high : time.hour < 24
  pub minute_high : time.minute < 60
  pub second_high : time.second < 60

pub civil_facts : (time : CivilTime) → is_civil time ≡ true → IsCivil time
civil_facts time e = record {
  year_low = grind (arith, nat_tests);
  year_high = grind (arith, nat_tests);
  month_low = grind (arith, nat_tests);
  month_high = grind (arith, nat_tests);
  day_low = grind (arith, nat_tests);
  day_high = grind (arith, nat_tests);
  hour_high = grind (arith, nat_tests);
  minute_high = grind (arith, nat_tests);
  second_high = grind (arith, nat_tests);
}

pub civil_test : (time : CivilTime) → IsCivil time → is_civil time ≡ true
civil_test time h = grind (arith, nat_tests)

-- a walk over whole years or months stops at the one in which the day lies
pub place_of-days_of : (length_of : ℕ → ℕ) (k more first rest day at : ℕ) → k ≤ more → at ≡ first + k → rest < length_of at
    → day ≡ days_of length_of first k + rest → place_of length_of more first day ≡ (at, rest)
unfolding place_of days_of
place_of-days_of length_of zero zero first rest day at h e l d = grind (arith, nat_tests, common_steps)
place_of-days_of length_of zero (suc more) first rest day at h e l d = grind (arith, nat_tests, common_steps)
place_of-days_of length_of (suc k) zero first rest day at h e l d = absurd (omega arith)
place_of-days_of length_of (suc k) (suc more) first rest day at h e l d =
    grind (arith, nat_tests, common_steps, place_of-days_of length_of k more (suc first) rest (day - length_of first) at)

pub count-days_of : (first k : ℕ) → k ≤ days_of days_in_year first k
unfolding days_of
count-days_of first zero = omega arith
count-days_of first (suc k) = grind (arith, nat_tests, common_steps, count-days_of (suc first) k)

long-days_of : (first k : ℕ) → 365 * k ≤ days_of days_in_year first k
unfolding days_of
long-days_of first zero = omega arith
long-days_of first (suc k) = grind (arith, nat_tests, common_steps, long-days_of (suc first) k)

day_count-years : (y k : ℕ) → day_count (pos (y + k)) 1 1 ≡ day_count (pos y) 1 1 + days_of days_in_year y k
unfolding days_of
day_count-years y zero = let e : y + 0 ≡ y = omega arith in rw e (omega arith)
day_count-years y (suc k) =
    grind (
      arith,
      nat_tests,
      common_steps,
      day_count-next_year (pos y) (pos (suc y)) (omega (arith, signed_arith)) (omega (arith, signed_arith)),
      day_count-years (suc y) k,
    )

days_of_months-own : (y m k : ℕ) → days_of_months (pos y) (m + k) ≡ days_of_months (pos y) m + days_of (days_in_month y) (suc m) k
unfolding days_of days_of_months
days_of_months-own y m zero = let e : m + 0 ≡ m = omega arith in rw e (omega arith)
days_of_months-own y m (suc k) = grind (arith, nat_tests, common_steps, days_of_months-own y (suc m) k)

-- the months of a year have its days
days_of_year : (y : ℕ) → days_of (days_in_month y) 1 12 ≡ days_in_year y
days_of_year y = let e : 0 + 12 ≡ 12 = refl in omega (arith, days_of_months-own y 0 12, days_of_months-zero (pos y), days_of_months_all (pos y))

-- the day of the year, from 0
pub day_of_year-own : (y m d : ℕ) → 1 ≤ m → 1 ≤ d → day_of_year (pos y) m d ≡ days_of (days_in_month y) 1 (m - 1) + (d - 1) + 1
day_of_year-own y m d low first = grind (arith, nat_tests, common_steps, days_of_months-own y 0 (m - 1), days_of_months-zero (pos y))

pub day_count-1904 : day_count (pos 1904) 1 1 ≡ 4_347_846
day_count-1904 = day_count-early (pos 1904) 11903 1 1 refl (omega arith) (omega arith) (omega arith)

-- the days before a date are the library's
pub day_count-days_before : (time : CivilTime) → 1904 ≤ time.year → 1 ≤ time.month → 1 ≤ time.day
    → day_count (pos time.year) time.month time.day ≡ 4_347_846 + days_before time
day_count-days_before time year month day =
    grind (
      arith,
      nat_tests,
      common_steps,
      day_count-1904,
      day_count-years 1904 (time.year - 1904),
      day_count-day_of_year (pos time.year) time.month time.day day,
      day_of_year-own time.year time.month time.day month day,
    )

-- a date lies in its year
pub day_in_year : (time : CivilTime) → IsCivil time → days_of (days_in_month time.year) 1 (time.month - 1) + (time.day - 1) < days_in_year time.year
day_in_year time h =
    let date : IsCivilDate (pos time.year) time.month time.day = (
      (omega (arith, signed_arith), omega (arith, signed_arith, h.year_high)),
      (h.month_low, h.month_high),
      (h.day_low, h.day_high),
    ) in
    omega (arith, day_of_year_bound (pos time.year) time.month time.day date, day_of_year-own time.year time.month time.day h.month_low h.day_low)

-- the date and time of the seconds to it is itself
pub civil_of-seconds_of : (time : CivilTime) → IsCivil time → civil_of (seconds_of time) ≡ time
unfolding civil_of
civil_of-seconds_of time h =
    let days : seconds_of time / 86400 ≡ days_before time = omega (arith, h) in
    let hour : seconds_of time / 3600 % 24 ≡ time.hour = omega (arith, h) in
    let minute : seconds_of time / 60 % 60 ≡ time.minute = omega (arith, h) in
    let second : seconds_of time % 60 ≡ time.second = omega (arith, h) in
    let rest = days_of (days_in_month time.year) 1 (time.month - 1) + (time.day - 1) in
    let year : place_of days_in_year (days_before time) 1904 (days_before time) ≡ (time.year, rest) =
    place_of-days_of days_in_year (time.year - 1904) (days_before time) 1904 rest (days_before time) time.year
    (omega (arith, count-days_of 1904 (time.year - 1904))) (omega (arith, h.year_low)) (day_in_year time h) (omega arith) in
    let month : place_of (days_in_month time.year) 11 1 rest ≡ (time.month, time.day - 1) =
    place_of-days_of (days_in_month time.year) (time.month - 1) 11 1 (time.day - 1) rest time.month (omega (arith, h.month_high)) (omega (arith, h.month_low))
    (omega (arith, h.day_low, h.day_high)) refl in
    let day : time.day - 1 + 1 ≡ time.day = omega (arith, h.day_low) in
    rw (days, hour, minute, second, year, month, day) refl

-- a date of the library from 1904 on
year_low : (d : Date) → 4_347_846 ≤ day_count d.year d.month d.day → pos 1904 ≤ℤ d.year
year_low d h = grind (arith, nat_tests, common_steps, by_lt_z, day_count-1904, day_count-lt_year, civil)

day_count-end_2040 : day_count (pos 2040) 12 31 ≡ 4_397_885
day_count-end_2040 = omega (arith, day_count-last_of_year (pos 2040), day_count-early (pos 2040) 12039 1 1 refl (omega arith) (omega arith) (omega arith))

-- and before 2041
year_high : (d : Date) → day_count d.year d.month d.day ≤ 4_397_885 → d.year ≤ℤ pos 2040
year_high d h = grind (arith, nat_tests, common_steps, by_lt_z, day_count-end_2040, day_count-lt_year, rules, civil)

-- a date of the library by its day number from 1904
pub record IsDayFrom (d : Date) (day : ℕ) : Type 0 where
  pub year_low : 1904 ≤ nat_abs d.year
  pub year_high : nat_abs d.year ≤ 2040
  pub year : pos (nat_abs d.year) ≡ d.year
  pub count : day_count d.year d.month d.day ≡ 4_347_846 + day

positive : (z : ℤ) → pos 1904 ≤ℤ z → z ≤ℤ pos 2040 → (1904 ≤ nat_abs z) × (nat_abs z ≤ 2040) × (pos (nat_abs z) ≡ z)
positive z low high = grind arith

pub day_from : (d : Date) (day : ℕ) → day ≤ 49_710 → epoch_day d +ℤ pos 4_371_587 ≡ pos (day + 4_347_480) → IsDayFrom d day
day_from d day high e =
    let count : day_count d.year d.month d.day ≡ 4_347_846 + day = omega (arith, signed_arith, days_from_civil-day_count d.year d.month d.day) in
    let year = positive d.year (year_low d (omega arith)) (year_high d (omega arith)) in
    record { year_low = year.0; year_high = year.1; year = year.2; count = count }

-- the parts of the date and time of a number of seconds
pub civil_at-civil_of : (d : Date) (seconds : ℕ) → seconds < 2 ^ 32 → epoch_day d +ℤ pos 4_371_587 ≡ pos (seconds / 86400 + 4_347_480)
    → ◌≡◌ {A = CivilTime} (record {
      year = nat_abs d.year;
      month = d.month;
      day = d.day;
      hour = seconds / 3600 % 24;
      minute = seconds / 60 % 60;
      second = seconds % 60;
    }) (civil_of seconds)
civil_at-civil_of d seconds high e =
    let h = day_from d (seconds / 86400) (omega arith) e in
    let time : CivilTime = record {
      year = nat_abs d.year;
      month = d.month;
      day = d.day;
      hour = seconds / 3600 % 24;
      minute = seconds / 60 % 60;
      second = seconds % 60;
    } in
    let date = civil d in
    let facts : IsCivil time = record {
      year_low = h.year_low;
      year_high = h.year_high;
      month_low = date.1.0;
      month_high = date.1.1;
      day_low = date.2.0;
      day_high = rw (← h.year) at date.2.1;
      hour_high = omega arith;
      minute_high = omega arith;
      second_high = omega arith;
    } in
    let count = day_count-days_before time h.year_low date.1.0 date.2.0 in
    let days : days_before time ≡ seconds / 86400 = omega (arith, rw h.year at count, h.count) in
    let same : seconds_of time ≡ seconds = omega (arith, days) in
    sym (rw same at (civil_of-seconds_of time facts))

-- the days before a date that the library has
pub days_of_date : (time : CivilTime) (d : Date) (days : ℕ) → 1904 ≤ time.year → d.year ≡ pos time.year → d.month ≡ time.month → d.day ≡ time.day
    → epoch_day d +ℤ pos 4_371_587 ≡ pos days → days ≡ 4_347_480 + days_before time
days_of_date time d days low year month day e =
    grind (
      arith,
      nat_tests,
      common_steps,
      civil d,
      day_count-days_before time low (omega (arith, (civil d).1.0)) (omega (arith, (civil d).2.0)),
      days_from_civil-day_count d.year d.month d.day,
      signed_arith,
    )

-- and that date is a civil one
pub civil_of_date : (time : CivilTime) (d : Date) → 1904 ≤ time.year → time.year ≤ 2040 → d.year ≡ pos time.year → d.month ≡ time.month → d.day ≡ time.day
    → time.hour ≤ 23 → time.minute ≤ 59 → time.second ≤ 59 → is_civil time ≡ true
civil_of_date time d low high year month day hour minute second = grind (arith, nat_tests, common_steps)

-- the result of a conversion to 32 bits is what is counted
pub counted_is : (time : CivilTime) (r : Result ℕ TryFromIntError) → is_civil time ≡ true → OkIff r (seconds_of time < 2 ^ 32) (seconds_of time)
    → result_ok r ≡ counted time
unfolding counted
counted_is time r test h = grind arith

-- the place at which a walk stops
record IsPlace (length_of : ℕ → ℕ) (more first day : ℕ) (place : ℕ × ℕ) : Type 0 where
  pub low : first ≤ place.0
  pub high : place.0 ≤ first + more
  pub rest : place.1 < length_of place.0
  pub sum : day ≡ days_of length_of first (place.0 - first) + place.1

place_here : (length_of : ℕ → ℕ) (more first day : ℕ) → day < length_of first → IsPlace length_of more first day (first, day)
unfolding days_of
place_here length_of more first day h = grind arith

place_later : (length_of : ℕ → ℕ) (more first day : ℕ) (place : ℕ × ℕ) → length_of first ≤ day
    → IsPlace length_of more (suc first) (day - length_of first) place → IsPlace length_of (suc more) first day place
unfolding days_of
place_later length_of more first day place h later = grind arith

place_of-is : (length_of : ℕ → ℕ) (more first day : ℕ) → day < days_of length_of first (suc more)
    → IsPlace length_of more first day (place_of length_of more first day)
unfolding place_of days_of
place_of-is length_of zero first day h = place_here length_of zero first day (omega arith)
place_of-is length_of (suc more) first day h =
    elim (cases_lt day (length_of first)) [
      | inl lt ↦ let below : nat_lt day (length_of first) ≡ true = grind (arith, nat_tests) in rw below (place_here length_of (suc more) first day lt)
      | inr ge ↦ let past : nat_lt day (length_of first) ≡ false = grind (arith, nat_tests) in
          rw past (place_later length_of more first day _ ge (place_of-is length_of more (suc first) (day - length_of first) (omega arith)))
    ]

civil_of-both : (seconds : ℕ) → seconds < 2 ^ 32 → IsCivil (civil_of seconds) × (seconds_of (civil_of seconds) ≡ seconds)
unfolding civil_of
civil_of-both seconds h = grind (arith, nat_tests, common_steps, count-days_of, place_of-is, days_of_year, long-days_of, year_low, year_high)

-- the date and time of a number of seconds is one of the calendar
pub civil_of-is : (seconds : ℕ) → seconds < 2 ^ 32 → IsCivil (civil_of seconds)
civil_of-is seconds h = (civil_of-both seconds h).0

-- and has that number
pub seconds_of-civil_of : (seconds : ℕ) → seconds < 2 ^ 32 → seconds_of (civil_of seconds) ≡ seconds
seconds_of-civil_of seconds h = (civil_of-both seconds h).1

-- the library's number of the first day
pub epoch_day-1904 : (d : Date) → d.year ≡ pos 1904 → d.month ≡ 1 → d.day ≡ 1 → epoch_day d +ℤ pos 4_371_587 ≡ pos 4_347_480
epoch_day-1904 d year month day = rw (year, month, day) (omega (arith, signed_arith, day_count-1904, days_from_civil-day_count (pos 1904) 1 1))
