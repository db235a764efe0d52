-- A pattern has a day within 8000 days.
use Rattle.std.proofs.Common.{inl, inr, ◌≡◌, ℕ, ◌+◌, ◌-◌, ◌*◌, ◌/◌, ◌%◌, ◌<◌, ◌≤◌, ◌==◌, ◌⊎◌, Bool, true, false, refl, arith}
use Rattle.std.proofs.Math.Nat.{mod_self, zero-mod}
use Rattle.std.proofs.lemmas.Bool.{cases_lt}
use Rattle.std.proofs.lemmas.Bool.Decides.{nat_tests}
use Rattle.pdb_values.specs.CivilTimes.{days_in_month, days_of}
use Rattle.palm_records.specs.declared.day.Day.{Day}
use Rattle.palm_events.specs.declared.repeat.Pattern.{Pattern}
use Rattle.palm_events.specs.declared.repeat.Pattern.TheVariants.{Daily, Weekly, MonthlyByDay, MonthlyByDate, Yearly}
use Rattle.palm_events.specs.declared.repeat.Week.{Week}
use Rattle.palm_events.specs.declared.repeat.Week.TheVariants.{First, Second, Third, Fourth, Last}
use Rattle.palm_events.specs.declared.repeat.Weekdays.{Weekdays}
use Rattle.palm_events.specs.Calendar.{day_at, month_days, month_number, months_between, week_number, weekday_of, weeks_between}
use Rattle.palm_events.specs.Forms.{is_pattern}
use Rattle.palm_events.specs.Shown.{first_weekday, has_day, has_weekday, is_turn, is_week}
use Rattle.palm_events.proofs.CalendarLaws.{day_at-is, day_at-month, days_of-both, days_of-past, high-days_of, high-month_days, low-month_days}

-- a day that a pattern with a frequency has from a start on, soon
pub record Witness (pattern : Pattern) (every start : ℕ) : Type 0 where
  pub number : ℕ
  pub low : start ≤ number
  pub high : number < start + 8000
  pub has : has_day pattern every start number ≡ true

bit_cases : (n : ℕ) → ((n % 2 == 1) ≡ true) ⊎ (n % 2 ≡ 0)
bit_cases n = grind (arith, nat_tests)

pub is_turn-none : (every : ℕ) → is_turn every 0 ≡ true
is_turn-none every = rw (zero-mod every) refl

is_turn-own : (every count : ℕ) → count ≡ every → is_turn every count ≡ true
is_turn-own every count e = rw (e, mod_self every) refl

-- one of the days of a week
pub record SomeWeekday (days : Weekdays) : Type 0 where
  pub weekday : ℕ
  pub low : weekday < 7
  pub has : has_weekday days weekday ≡ true

pub some_weekday : (days : Weekdays) → 0 < days.bits → days.bits < 128 → SomeWeekday days
some_weekday days some few =
    elim (bit_cases (days.bits / 1)) [
      | inl is ↦ record { weekday = 0; low = omega arith; has = is }
      | inr not0 ↦ elim (bit_cases (days.bits / 2)) [
        | inl is ↦ record { weekday = 1; low = omega arith; has = is }
        | inr not1 ↦ elim (bit_cases (days.bits / 4)) [
          | inl is ↦ record { weekday = 2; low = omega arith; has = is }
          | inr not2 ↦ elim (bit_cases (days.bits / 8)) [
            | inl is ↦ record { weekday = 3; low = omega arith; has = is }
            | inr not3 ↦ elim (bit_cases (days.bits / 16)) [
              | inl is ↦ record { weekday = 4; low = omega arith; has = is }
              | inr not4 ↦ elim (bit_cases (days.bits / 32)) [
                | inl is ↦ record { weekday = 5; low = omega arith; has = is }
                | inr not5 ↦ elim (bit_cases (days.bits / 64)) [
                  | inl is ↦ record { weekday = 6; low = omega arith; has = is }
                  | inr not6 ↦ absurd (omega arith)
                ]
              ]
            ]
          ]
        ]
      ]
    ]

first-few : (from_monday : Bool) → first_weekday from_monday ≤ 1
first-few true = omega arith
first-few false = omega arith

-- the day of a weekday in a week
in_week : (first start every weekday number : ℕ) → 0 < every → first ≤ 1 → weekday < 7
    → number ≡ 7 * (week_number first start + every) + (weekday + 7 - first) % 7 - (12 - first)
    → (weekday_of number ≡ weekday) × (weeks_between first start number ≡ every) × (start ≤ number)
    × (every < 256 → number < start + 8000)
in_week first start every weekday number more few low e = (omega arith, omega arith, omega arith, omega arith)

weekly_witness : (days : Weekdays) (from_monday : Bool) (every start : ℕ) → 0 < every → every < 256 → 0 < days.bits → days.bits < 128
    → Witness (Weekly days from_monday) every start
weekly_witness days from_monday every start more few some short =
    let day = some_weekday days some short in
    let first = first_weekday from_monday in
    let number = 7 * (week_number first start + every) + (day.weekday + 7 - first) % 7 - (12 - first) in
    let h = in_week first start every day.weekday number more (first-few from_monday) day.low refl in
    record {
      number = number;
      low = h.2;
      high = h.3 few;
      has = rw (h.0, day.has, is_turn-own every _ h.1) refl;
    }

last_is : (day : Day) (month rest : ℕ) → day.year ≡ 1904 + month / 12 → day.month ≡ month % 12 + 1 → day.day ≡ rest + 1
    → month_days month < rest + 8 → is_week Last day ≡ true
last_is day month rest year month_is e past =
    let few : days_in_month day.year day.month < day.day + 7 = rw (year, month_is) (omega arith) in
    grind (arith, nat_tests)

-- where the day of a week stands in a month of this length, if the first one stands here
record IsRest (week : Week) (first month rest : ℕ) : Type 0 where
  pub fits : rest < month_days month
  pub turn : rest % 7 ≡ first % 7
  pub is : (day : Day) → day.year ≡ 1904 + month / 12 → day.month ≡ month % 12 + 1 → day.day ≡ rest + 1 → is_week week day ≡ true

rest_at : (week : Week) (first month : ℕ) → first < 7 → (rest : ℕ) × IsRest week first month rest
rest_at First first month low =
    let fits = low-month_days (1904 + month / 12) (month % 12 + 1) in
    (first, record { fits = omega arith; turn = refl; is = λ day year month_is e. grind (arith, nat_tests) })
rest_at Second first month low =
    let fits = low-month_days (1904 + month / 12) (month % 12 + 1) in
    (first + 7, record { fits = omega arith; turn = omega arith; is = λ day year month_is e. grind (arith, nat_tests) })
rest_at Third first month low =
    let fits = low-month_days (1904 + month / 12) (month % 12 + 1) in
    (first + 14, record { fits = omega arith; turn = omega arith; is = λ day year month_is e. grind (arith, nat_tests) })
rest_at Fourth first month low =
    let fits = low-month_days (1904 + month / 12) (month % 12 + 1) in
    (first + 21, record { fits = omega arith; turn = omega arith; is = λ day year month_is e. grind (arith, nat_tests) })
rest_at Last first month low =
    let low_days = low-month_days (1904 + month / 12) (month % 12 + 1) in
    let high_days = high-month_days (1904 + month / 12) (month % 12 + 1) in
    elim (cases_lt (first + 28) (month_days month)) [
      | inl lt ↦ (
        first + 28,
        record {
          fits = lt;
          turn = omega arith;
          is = λ day year month_is e. last_is day month (first + 28) year month_is e (omega arith);
        },
      )
      | inr ge ↦ (
        first + 21,
        record {
          fits = omega arith;
          turn = omega arith;
          is = λ day year month_is e. last_is day month (first + 21) year month_is e (omega arith);
        },
      )
    ]

-- the day of a weekday in a month
monthly_witness : (week : Week) (weekday every start : ℕ) → 0 < every → every < 256 → weekday < 7
    → Witness (MonthlyByDay week weekday) every start
monthly_witness week weekday every start more few low =
    let from = day_at-is start in
    let here = month_number (day_at start) in
    let month = here + every in
    let begin = days_of month_days 0 month in
    let first = (weekday + 7 - (begin + 5) % 7) % 7 in
    let rest = rest_at week first month (omega arith) in
    let number = begin + rest.0 in
    let day = day_at-month month rest.0 rest.1.fits in
    let last = high-month_days (1904 + month / 12) (month % 12 + 1) in
    let turn = rest.1.turn in
    let is_weekday : weekday_of number ≡ weekday = omega arith in
    let months : months_between start number ≡ every = rw day (omega arith) in
    let is : is_week week (day_at number) ≡ true = rw day (rest.1.is _ refl refl refl) in
    record {
      number = number;
      low = omega (arith, days_of-past here month (omega arith), from.sum, from.length);
      high = omega (arith, days_of-both month_days 0 here every, high-days_of (0 + here) every, from.sum, last, rest.1.fits);
      has = rw (is_weekday, is, is_turn-own every _ months) (grind (arith, nat_tests));
    }

-- a pattern that goes on from its own day
own_witness : (pattern : Pattern) (every start : ℕ) → has_day pattern every start start ≡ true → Witness pattern every start
own_witness pattern every start is = record { number = start; low = omega arith; high = omega arith; has = is }

pub is_own : (n : ℕ) → (n == n) ≡ true
is_own n = grind (arith, nat_tests)

none_from : (n : ℕ) → n - n ≡ 0
none_from n = omega arith

pub witness : (pattern : Pattern) (every start : ℕ) → 0 < every → every < 256 → is_pattern pattern ≡ true → Witness pattern every start
witness Daily every start more few is = own_witness Daily every start (rw (none_from start, is_turn-none every) refl)
witness (Weekly days from_monday) every start more few is =
    weekly_witness days from_monday every start more few (grind (arith, nat_tests)) (grind (arith, nat_tests))
witness (MonthlyByDay week weekday) every start more few is = monthly_witness week weekday every start more few (grind (arith, nat_tests))
witness MonthlyByDate every start more few is =
    own_witness MonthlyByDate every start (rw (none_from (month_number (day_at start)), is_turn-none every, is_own (day_at start).day) refl)
witness Yearly every start more few is =
    own_witness Yearly every start
    (rw (none_from (day_at start).year, is_turn-none every, is_own (day_at start).day, is_own (day_at start).month) refl)
