-- The days of exceptions, one after the other.
use Rattle.std.proofs.Common.{◌≡◌, ◌∙◌, ℕ, suc, ◌+◌, ◌-◌, ◌*◌, ◌/◌, ◌<◌, ◌≤◌, List, length, Option, None, Some, Bool, cond, false, true, refl, sym, arith}
use Rattle.std.proofs.lemmas.List.FromFn.{get_or-map-range_with_len, length-map-range_with_len}
use Rattle.std.proofs.lemmas.Option.{slice_get-get_or, slice_get_past}
use Rattle.std.specs.Prelude.{is_some, slice_get}
use Rattle.palm_records.specs.Days.{day_in, day_of, is_day}
use Rattle.palm_events.specs.Exceptions.{days_fault, days_in}
use Rattle.palm_events.specs.Words.{word_at}

-- two bytes for each day
pub length-days_in : (bytes : List ℕ) → length (days_in bytes) ≡ length bytes / 2
length-days_in bytes = length-map-range_with_len (λ index. day_of (word_at bytes (2 * index))) 0 (length bytes / 2)

-- the day of an index
pub slice_get-days_in : (bytes : List ℕ) (index : ℕ) → index < length bytes / 2
    → slice_get (days_in bytes) index ≡ Some (day_of (word_at bytes (2 * index)))
slice_get-days_in bytes index less =
    let day = day_of (word_at bytes (2 * index)) in
    let within : index < length (days_in bytes) = omega (arith, length-days_in bytes) in
    let found = get_or-map-range_with_len (λ index. day_of (word_at bytes (2 * index))) 0 (length bytes / 2) index index day less (omega arith) in
    rw found at (slice_get-get_or (days_in bytes) index day within)

-- no day is behind the last
pub slice_get-days_in_past : (bytes : List ℕ) (index : ℕ) → length bytes / 2 ≤ index → slice_get (days_in bytes) index ≡ None
slice_get-days_in_past bytes index past = slice_get_past (days_in bytes) index (omega (arith, length-days_in bytes))

is_some-cond : {A : Type 0} (test : Bool) (found : A) → is_some (cond test (Some found) None) ≡ test
is_some-cond true found = refl
is_some-cond false found = refl

-- a word says a day that the calendar has
pub is_some-day_in : (word : ℕ) → is_some (day_in word) ≡ is_day (day_of word)
is_some-day_in word = is_some-cond (is_day (day_of word)) (day_of word)

-- the calendar has a day
pub goes_on : (count index place : ℕ) (bytes : List ℕ) {total : Option ℕ} → index < count → is_day (day_of (word_at bytes (place + 2 * index))) ≡ true
    → days_fault (count - index) (place + 2 * index) bytes ≡ total → days_fault (count - (index + 1)) (place + 2 * (index + 1)) bytes ≡ total
unfolding days_fault
goes_on count index place bytes less is so_far =
    let left : count - index ≡ suc (count - (index + 1)) = omega arith in
    let next : place + 2 * (index + 1) ≡ place + 2 * index + 2 = omega arith in
    let one : days_fault (count - index) (place + 2 * index) bytes ≡ days_fault (count - (index + 1)) (place + 2 * (index + 1)) bytes =
    rw (left, next, is) refl in
    sym one ∙ so_far

-- it does not have one
pub stops : (count index place : ℕ) (bytes : List ℕ) {total : Option ℕ} → index < count → is_day (day_of (word_at bytes (place + 2 * index))) ≡ false
    → days_fault (count - index) (place + 2 * index) bytes ≡ total → total ≡ Some (place + 2 * index)
unfolding days_fault
stops count index place bytes less is so_far =
    let left : count - index ≡ suc (count - (index + 1)) = omega arith in
    let one : days_fault (count - index) (place + 2 * index) bytes ≡ Some (place + 2 * index) = rw (left, is) refl in
    sym so_far ∙ one

-- it has all
pub is_done : (count index place : ℕ) (bytes : List ℕ) {total : Option ℕ} → count ≤ index
    → days_fault (count - index) (place + 2 * index) bytes ≡ total → total ≡ None
unfolding days_fault
is_done count index place bytes past so_far =
    let left : count - index ≡ 0 = omega arith in
    let one : days_fault (count - index) (place + 2 * index) bytes ≡ None = rw left refl in
    sym so_far ∙ one
