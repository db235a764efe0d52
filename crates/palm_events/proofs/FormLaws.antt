-- The form of what is read.
use Rattle.std.proofs.Common.{◌≡◌, ◌∙◌, ℕ, ◌+◌, ◌*◌, ◌/◌, ◌<◌, ◌≤◌, ◌&&◌, Bool, cond, true, false, List, length, get_or, Option, None, Some, ap, refl, subst, sym, arith}
use Rattle.std.proofs.lemmas.Bool.Decides.{nat_tests}
use Rattle.std.proofs.lemmas.List.{get_or-drop, get_or-take, length-drop, length-take}
use Rattle.std.proofs.lemmas.List.FromFn.{get_or-map-range_with_len}
use Rattle.std.specs.Prelude.{IfSome, drop, nat_le, nat_lt, take}
use Rattle.palm_records.specs.declared.day.Day.{Day}
use Rattle.palm_records.specs.Days.{day_in, day_of, is_day}
use Rattle.palm_events.specs.declared.repeat.Repeat.{Repeat}
use Rattle.palm_events.specs.Calendar.{day_number, is_date, month_number}
use Rattle.palm_events.proofs.CalendarLaws.{date_facts, high-days_of, high-month_days}
use Rattle.palm_events.specs.Exceptions.{days_in}
use Rattle.palm_events.specs.Forms.{AreRecordDays, is_pattern, is_record_day, is_repeat, is_until}
use Rattle.palm_events.specs.Words.{word_at}
use Rattle.palm_events.proofs.ExceptionLaws.{length-days_in}

-- a word says a day of the years from 1904 to 2031
pub is_record_day-day_of : (word : ℕ) → word < 65536 → is_record_day (day_of word) ≡ is_day (day_of word)
is_record_day-day_of word low =
    let first : nat_le 1904 (1904 + word / 512) ≡ true = grind (arith, nat_tests) in
    let last : nat_le (1904 + word / 512) 2031 ≡ true = grind (arith, nat_tests) in
    rw (first, last) refl

found_day : (test : Bool) (day : Day) → is_record_day day ≡ test → IfSome (cond test (Some day) None) (λ day. is_record_day day ≡ true)
found_day true day e = e
found_day false day e = tt

-- and so does what is found
pub form_of_day_in : (word : ℕ) (found : Option Day) → word < 65536 → found ≡ day_in word → IfSome found (λ day. is_record_day day ≡ true)
form_of_day_in word found low e =
    let here = found_day (is_day (day_of word)) (day_of word) (is_record_day-day_of word low) in
    subst (λ (o : Option Day). IfSome o (λ day. is_record_day day ≡ true)) (sym e) here

-- a word of a part of the bytes
word_at-part : (bytes : List ℕ) (place size at : ℕ) → at + 1 < size → word_at (take size (drop place bytes)) at ≡ word_at bytes (place + at)
word_at-part bytes place size at less =
    let high : get_or (take size (drop place bytes)) at 0 ≡ get_or bytes (place + at) 0 =
    get_or-take size (drop place bytes) at 0 (omega arith) ∙ get_or-drop place bytes at 0 in
    let next : place + (at + 1) ≡ place + at + 1 = omega arith in
    let low : get_or (take size (drop place bytes)) (at + 1) 0 ≡ get_or bytes (place + at + 1) 0 =
    get_or-take size (drop place bytes) (at + 1) 0 less ∙ (get_or-drop place bytes (at + 1) 0 ∙ ap (λ index. get_or bytes index 0) next) in
    rw (high, low) refl

-- the calendar has each day of a part, if it has each of the words
pub form-days_in : (bytes : List ℕ) (place count size : ℕ) → size ≡ 2 * count → place + size ≤ length bytes
    → ((index : ℕ) → index < count → is_record_day (day_of (word_at bytes (place + 2 * index))) ≡ true)
    → AreRecordDays (days_in (take size (drop place bytes)))
form-days_in bytes place count size e long have =
    let part = take size (drop place bytes) in
    let long_part : length part ≡ size = omega (arith, length-take size (drop place bytes), length-drop place bytes) in
    λ k d less.
    let within : k < length part / 2 = omega (arith, length-days_in part, less) in
    let day : get_or (days_in part) k d ≡ day_of (word_at part (2 * k)) =
    get_or-map-range_with_len (λ index. day_of (word_at part (2 * index))) 0 (length part / 2) k k d within (omega arith) in
    let word : word_at part (2 * k) ≡ word_at bytes (place + 2 * k) = word_at-part bytes place size (2 * k) (omega arith) in
    rw (day, word) (have k (omega arith))

-- the facts of a repeat
pub record IsRepeat (repeat : Repeat) : Type 0 where
  pub some : 0 < repeat.every
  pub few : repeat.every < 256
  pub pattern : is_pattern repeat.pattern ≡ true
  pub until : is_until repeat.until ≡ true

both : (a b c d : Bool) → ((a && b) && (c && d)) ≡ true → (a ≡ true) × (b ≡ true) × (c ≡ true) × (d ≡ true)
both a b c d e = grind arith

pub repeat_facts : (repeat : Repeat) → is_repeat repeat ≡ true → IsRepeat repeat
repeat_facts repeat e =
    let h = both (nat_lt 0 repeat.every) (nat_lt repeat.every 256) (is_pattern repeat.pattern) (is_until repeat.until) e in
    let some = h.0 in
    let few = h.1 in
    record { some = grind (arith, nat_tests); few = grind (arith, nat_tests); pattern = h.2; until = h.3 }

-- the number of a day that a word says
pub few-day_number : (day : Day) → is_record_day day ≡ true → day_number day < 50_000
unfolding day_number
few-day_number day e =
    let year : day.year ≤ 2031 = grind (arith, nat_tests) in
    let date : is_date day ≡ true = grind (arith, nat_tests) in
    let h = date_facts day date in
    omega (arith, high-days_of 0 (month_number day), high-month_days day.year day.month, h.year, h.month_high, h.day_high)
