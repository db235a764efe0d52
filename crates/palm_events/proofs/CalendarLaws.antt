-- Days and their numbers.
use Rattle.std.proofs.Common.{inl, inr, ◌≡◌, ◌∙◌, ℕ, zero, suc, ◌+◌, ◌-◌, ◌*◌, ◌/◌, ◌%◌, ◌<◌, ◌≤◌, true, false, refl, sym, arith}
use Rattle.std.proofs.lemmas.Bool.Decides.{nat_tests}
use Rattle.std.proofs.lemmas.Bool.{cases_lt}
use Rattle.std.specs.Prelude.{nat_lt}
use Rattle.pdb_values.specs.CivilTimes.{days_in_month, days_of, place_of}
use Rattle.pdb_values.proofs.CivilLaws.{place_of-days_of}
use Rattle.palm_records.specs.declared.day.Day.{Day}
use Rattle.palm_events.specs.Calendar.{day_at, day_number, is_date, month_days, month_number}

-- the facts of the test
pub record IsDate (day : Day) : Type 0 where
  pub year : 1904 ≤ day.year
  pub month_low : 1 ≤ day.month
  pub month_high : day.month ≤ 12
  pub day_low : 1 ≤ day.day
  pub day_high : day.day ≤ days_in_month day.year day.month

pub date_facts : (day : Day) → is_date day ≡ true → IsDate day
date_facts day e = record {
  year = grind (arith, nat_tests);
  month_low = grind (arith, nat_tests);
  month_high = grind (arith, nat_tests);
  day_low = grind (arith, nat_tests);
  day_high = grind (arith, nat_tests);
}

pub date_test : (day : Day) → IsDate day → is_date day ≡ true
date_test day h = grind (arith, nat_tests)

-- a month has at least 28 days
pub low-month_days : (year month : ℕ) → 28 ≤ days_in_month year month
low-month_days year month = grind (arith, nat_tests)

-- and at most 31
pub high-month_days : (year month : ℕ) → days_in_month year month ≤ 31
high-month_days year month = grind (arith, nat_tests)

pub low-days_of : (first count : ℕ) → 28 * count ≤ days_of month_days first count
unfolding days_of
low-days_of first zero = omega arith
low-days_of first (suc count) =
    omega (arith, low-month_days (1904 + first / 12) (first % 12 + 1), low-days_of (suc first) count)

pub high-days_of : (first count : ℕ) → days_of month_days first count ≤ 31 * count
unfolding days_of
high-days_of first zero = omega arith
high-days_of first (suc count) =
    omega (arith, high-month_days (1904 + first / 12) (first % 12 + 1), high-days_of (suc first) count)

-- the days of the months of two stretches
pub days_of-both : (length_of : ℕ → ℕ) (first one more : ℕ)
    → days_of length_of first (one + more) ≡ days_of length_of first one + days_of length_of (first + one) more
unfolding days_of
days_of-both length_of first zero more =
    let here : zero + more ≡ more = omega arith in
    let there : first + zero ≡ first = omega arith in
    rw (here, there) (omega arith)
days_of-both length_of first (suc one) more =
    let here : suc one + more ≡ suc (one + more) = omega arith in
    let there : first + suc one ≡ suc first + one = omega arith in
    rw (here, there) (omega (arith, days_of-both length_of (suc first) one more))

-- one month more
pub days_of-more : (length_of : ℕ → ℕ) (count : ℕ) → days_of length_of 0 (count + 1) ≡ days_of length_of 0 count + length_of count
unfolding days_of
days_of-more length_of count =
    let from : 0 + count ≡ count = omega arith in
    let one : days_of length_of (0 + count) 1 ≡ length_of count = rw from (omega arith) in
    omega (arith, days_of-both length_of 0 count 1, one)

-- the place at which a walk stops
record IsPlace (length_of : ℕ → ℕ) (more first day : ℕ) (place : ℕ × ℕ) : Type 0 where
  pub low : first ≤ place.0
  pub high : place.0 ≤ first + more
  pub rest : place.1 < length_of place.0
  pub sum : day ≡ days_of length_of first (place.0 - first) + place.1

place_here : (length_of : ℕ → ℕ) (more first day : ℕ) → day < length_of first → IsPlace length_of more first day (first, day)
unfolding days_of
place_here length_of more first day h = grind arith

place_later : (length_of : ℕ → ℕ) (more first day : ℕ) (place : ℕ × ℕ) → length_of first ≤ day
    → IsPlace length_of more (suc first) (day - length_of first) place → IsPlace length_of (suc more) first day place
unfolding days_of
place_later length_of more first day place h later = grind arith

place_of-is : (length_of : ℕ → ℕ) (more first day : ℕ) → day < days_of length_of first (suc more)
    → IsPlace length_of more first day (place_of length_of more first day)
unfolding place_of days_of
place_of-is length_of zero first day h = place_here length_of zero first day (omega arith)
place_of-is length_of (suc more) first day h =
    elim (cases_lt day (length_of first)) [
      | inl lt ↦ let below : nat_lt day (length_of first) ≡ true = grind (arith, nat_tests) in rw below (place_here length_of (suc more) first day lt)
      | inr ge ↦ let past : nat_lt day (length_of first) ≡ false = grind (arith, nat_tests) in
          rw past (place_later length_of more first day _ ge (place_of-is length_of more (suc first) (day - length_of first) (omega arith)))
    ]

-- the day of the month of a number, and of a number in that month
pub day_at-month : (month rest : ℕ) → rest < month_days month
    → day_at (days_of month_days 0 month + rest) ≡ record { year = 1904 + month / 12; month = month % 12 + 1; day = rest + 1 }
unfolding day_at
day_at-month month rest less =
    let number = days_of month_days 0 month + rest in
    let place : place_of month_days number 0 number ≡ (month, rest) =
    place_of-days_of month_days month number 0 rest number month (omega (arith, low-days_of 0 month)) (omega arith) less refl in
    rw place refl

-- a date lies in its month
in_month : (day : Day) → IsDate day → day.day - 1 < month_days (month_number day)
in_month day h =
    let year : 1904 + month_number day / 12 ≡ day.year = omega (arith, h.year, h.month_low, h.month_high) in
    let month : month_number day % 12 + 1 ≡ day.month = omega (arith, h.month_low, h.month_high) in
    rw (year, month) (omega (arith, h.day_low, h.day_high))

-- the day of a date's number is the date
pub day_at-day_number : (day : Day) → is_date day ≡ true → day_at (day_number day) ≡ day
unfolding day_number
day_at-day_number day e =
    let h = date_facts day e in
    let year : 1904 + month_number day / 12 ≡ day.year = omega (arith, h.year, h.month_low, h.month_high) in
    let month : month_number day % 12 + 1 ≡ day.month = omega (arith, h.month_low, h.month_high) in
    let rest : day.day - 1 + 1 ≡ day.day = omega (arith, h.day_low) in
    day_at-month (month_number day) (day.day - 1) (in_month day h) ∙ rw (year, month, rest) refl

-- what is known of the day of a number
pub record IsDayAt (number : ℕ) (day : Day) : Type 0 where
  pub date : IsDate day
  pub sum : days_of month_days 0 (month_number day) + (day.day - 1) ≡ number
  pub length : day.day - 1 < month_days (month_number day)

pub day_at-is : (number : ℕ) → IsDayAt number (day_at number)
unfolding day_at
day_at-is number =
    let place = place_of month_days number 0 number in
    let h = place_of-is month_days number 0 number (omega (arith, low-days_of 0 (suc number))) in
    let month : month_number (record { year = 1904 + place.0 / 12; month = place.0 % 12 + 1; day = place.1 + 1 }) ≡ place.0 = omega arith in
    let from : place.0 - 0 ≡ place.0 = omega arith in
    let rest : place.1 + 1 - 1 ≡ place.1 = omega arith in
    let sum : number ≡ days_of month_days 0 place.0 + place.1 = rw from at h.sum in
    record {
      date = record {
        year = omega arith;
        month_low = omega arith;
        month_high = omega arith;
        day_low = omega arith;
        day_high = omega (arith, h.rest);
      };
      sum = rw (month, rest) (sym sum);
      length = rw (month, rest) h.rest;
    }

-- the number of the day of a number is the number
pub day_number-day_at : (number : ℕ) → day_number (day_at number) ≡ number
unfolding day_number
day_number-day_at number = (day_at-is number).sum

-- and that day is a date
pub is_date-day_at : (number : ℕ) → is_date (day_at number) ≡ true
is_date-day_at number = date_test (day_at number) (day_at-is number).date

-- a date is the day of its number
day_at-number : (day : Day) (number : ℕ) → IsDate day → day_number day ≡ number → day ≡ day_at number
day_at-number day number h e = sym (rw e at (day_at-day_number day (date_test day h)))

-- the next day of a month
pub next-in_month : (day : Day) → is_date day ≡ true → day.day < days_in_month day.year day.month
    → ◌≡◌ {A = Day} (record { year = day.year; month = day.month; day = day.day + 1 }) (day_at (day_number day + 1))
unfolding day_number
next-in_month day e less =
    let h = date_facts day e in
    day_at-number (record { year = day.year; month = day.month; day = day.day + 1 }) (day_number day + 1) (record {
      year = h.year;
      month_low = h.month_low;
      month_high = h.month_high;
      day_low = omega arith;
      day_high = omega (arith, less);
    }) (omega (arith, h.day_low))

-- the last day of a month is as many as the month has
last_day : (day : Day) → IsDate day → days_in_month day.year day.month ≤ day.day → month_days (month_number day) ≡ day.day
last_day day h last =
    let year : 1904 + month_number day / 12 ≡ day.year = omega (arith, h.year, h.month_low, h.month_high) in
    let month : month_number day % 12 + 1 ≡ day.month = omega (arith, h.month_low, h.month_high) in
    rw (year, month) (omega (arith, last, h.day_high))

-- the first day of the next month
pub next-in_year : (day : Day) → is_date day ≡ true → days_in_month day.year day.month ≤ day.day → day.month < 12
    → ◌≡◌ {A = Day} (record { year = day.year; month = day.month + 1; day = 1 }) (day_at (day_number day + 1))
unfolding day_number
next-in_year day e last less =
    let h = date_facts day e in
    let month : (day.year - 1904) * 12 + (day.month + 1 - 1) ≡ month_number day + 1 = omega (arith, h.month_low) in
    day_at-number (record { year = day.year; month = day.month + 1; day = 1 }) (day_number day + 1) (record {
      year = h.year;
      month_low = omega arith;
      month_high = omega (arith, less);
      day_low = omega arith;
      day_high = omega (arith, low-month_days day.year (day.month + 1));
    }) (rw month (omega (arith, days_of-more month_days (month_number day), last_day day h last, h.day_low)))

-- the first day of the next year
pub next-year : (day : Day) → is_date day ≡ true → days_in_month day.year day.month ≤ day.day → 12 ≤ day.month
    → ◌≡◌ {A = Day} (record { year = day.year + 1; month = 1; day = 1 }) (day_at (day_number day + 1))
unfolding day_number
next-year day e last past =
    let h = date_facts day e in
    let month : (day.year + 1 - 1904) * 12 + (1 - 1) ≡ month_number day + 1 = omega (arith, h.year, h.month_high, past) in
    day_at-number (record { year = day.year + 1; month = 1; day = 1 }) (day_number day + 1) (record {
      year = omega (arith, h.year);
      month_low = omega arith;
      month_high = omega arith;
      day_low = omega arith;
      day_high = omega (arith, low-month_days (day.year + 1) 1);
    }) (rw month (omega (arith, days_of-more month_days (month_number day), last_day day h last, h.day_low)))

-- a day that is the day of a number is a date
pub is_date-at : (day : Day) (number : ℕ) → day ≡ day_at number → is_date day ≡ true
is_date-at day number e = rw e (is_date-day_at number)

-- and has that number
pub day_number-at : (day : Day) (number : ℕ) → day ≡ day_at number → day_number day ≡ number
day_number-at day number e = rw e (day_number-day_at number)

-- a later month begins behind an earlier one
pub days_of-past : (one other : ℕ) → one < other → days_of month_days 0 one + month_days one ≤ days_of month_days 0 other
days_of-past one other less =
    let more : one + 1 + (other - (one + 1)) ≡ other = omega arith in
    let both = rw more at (days_of-both month_days 0 (one + 1) (other - (one + 1))) in
    omega (arith, days_of-more month_days one, both)

-- a later day lies in no earlier month
pub month-later : (one other : ℕ) → one ≤ other → month_number (day_at one) ≤ month_number (day_at other)
month-later one other order =
    let early = day_at-is one in
    let late = day_at-is other in
    elim (cases_lt (month_number (day_at other)) (month_number (day_at one))) [
      | inl lt ↦ absurd (omega (
        arith,
        days_of-past (month_number (day_at other)) (month_number (day_at one)) lt,
        early.sum,
        late.sum,
        late.length,
      ))
      | inr ge ↦ ge
    ]

-- nor in an earlier year
pub year-later : (one other : ℕ) → one ≤ other → (day_at one).year ≤ (day_at other).year
year-later one other order =
    let early = (day_at-is one).date in
    let late = (day_at-is other).date in
    omega (
      arith,
      month-later one other order,
      early.year,
      early.month_low,
      early.month_high,
      late.year,
      late.month_low,
      late.month_high,
    )

-- a year has at least 336 days
pub year-day_at : (number : ℕ) → (day_at number).year ≤ 1904 + number / 336
year-day_at number =
    let h = day_at-is number in
    omega (arith, low-days_of 0 (month_number (day_at number)), h.sum, h.date.year, h.date.month_low)
