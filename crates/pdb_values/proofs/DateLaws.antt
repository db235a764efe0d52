-- What is written of a date reads as that date, and only that is read as it.
use Rattle.std.proofs.lemmas.Grind.{common_steps}
use Rattle.std.proofs.Common.{◌≡◌, ◌⊎◌, cond, ◌&&◌, ℕ, ◌^◌, ◌<◌, ◌≤◌, Bool, true, false, ◌==◌, List, sym, ap, ◌∙◌, arith, Option, Some, None}
use Rattle.std.proofs.lemmas.Bool.Decides.{nat_tests}
use Rattle.std.proofs.lemmas.Slice.Eq.{bytes_eq-Decides}
use Rattle.std.specs.Prelude.{bytes_eq, slice_index, length, take, Result, Ok, Err, IfOk}
use Rattle.std.specs.Result.{result_ok}
use Rattle.pdb_values.specs.declared.date.BadDate.{BadDate}
use Rattle.pdb_values.specs.declared.civil.CivilTime.{CivilTime}
use Rattle.pdb_values.specs.CivilTimes.{civil_of}
use Rattle.pdb_values.specs.PalmDates.{counted, wire_of, on_wire, wire_date, read_wire, text_of, in_text, date_text, if_later, read_text}
use Rattle.pdb_values.proofs.CivilLaws.{civil_facts, civil_test, civil_of-seconds_of, civil_of-is, seconds_of-civil_of}

-- the seconds to the date and time of a number of seconds
pub counted-civil_of : (seconds : ℕ) → seconds < 2 ^ 32 → counted (civil_of seconds) ≡ Some seconds
unfolding counted
counted-civil_of seconds h = grind (arith, nat_tests, common_steps, civil_test, civil_of-is, seconds_of-civil_of)

some_when : (a b : Bool) (m n : ℕ) → ◌≡◌ {A = Option ℕ} (cond (a && b) (Some m) None) (Some n) → (a ≡ true) × (b ≡ true) × (m ≡ n)
some_when a b m n e = grind arith

-- a date and time that is counted is that of its seconds
pub civil_of-counted : (time : CivilTime) (seconds : ℕ) → counted time ≡ Some seconds → (civil_of seconds ≡ time) × (seconds < 2 ^ 32)
unfolding counted
civil_of-counted time seconds h = grind (arith, nat_tests, common_steps, some_when, civil_of-seconds_of, civil_facts)

read_wire-wire_of : (time : CivilTime) → 1904 ≤ time.year → read_wire (wire_of time) ≡ counted time
read_wire-wire_of time h = grind arith

cases_zero : (n : ℕ) → (n ≡ 0) ⊎ (0 < n)
cases_zero n = grind arith

-- the bytes of the date and time of any seconds read as these seconds
pub read_wire_of_wire_of : (seconds : ℕ) → seconds < 2 ^ 32 → read_wire (wire_of (civil_of seconds)) ≡ Some seconds
read_wire_of_wire_of seconds h = read_wire-wire_of (civil_of seconds) (civil_of-is seconds h).year_low ∙ counted-civil_of seconds h

-- the wire date of any seconds reads as these seconds
pub read_wire_of_wire_date : (seconds : ℕ) → seconds < 2 ^ 32 → read_wire (wire_date seconds) ≡ Some seconds
read_wire_of_wire_date seconds h = grind (arith, nat_tests, common_steps, cases_zero, read_wire_of_wire_of)

wire_when : (a : Bool) (o : Option ℕ) (n : ℕ) → ◌≡◌ {A = Option ℕ} (cond a (Some 0) o) (Some n) → 0 < n → o ≡ Some n
wire_when a o n e h = grind arith

-- a wire date that reads as some seconds is that of these seconds, or stands for no date
pub wire_is_wire_date : (bytes : List ℕ) (seconds : ℕ) → read_wire bytes ≡ Some seconds → (0 < seconds) → on_wire bytes ≡ civil_of seconds
wire_is_wire_date bytes seconds e h = grind (arith, nat_tests, common_steps, civil_of-counted, wire_when)

text_when : (a : Bool) (o : Option ℕ) (n : ℕ) → ◌≡◌ {A = Option ℕ} (cond a (if_later o) None) (Some n) → (a ≡ true) × (o ≡ Some n) × (0 < n)
text_when a o n e = grind arith

-- and no other text does
pub text_is_date_text : (text : List ℕ) (seconds : ℕ) → read_text text ≡ Some seconds → (text ≡ date_text seconds) × (0 < seconds) × (seconds < 2 ^ 32)
text_is_date_text text seconds e =
    let parts = text_when (bytes_eq text (text_of (in_text text))) (counted (in_text text)) seconds e in
    let civil = civil_of-counted (in_text text) seconds parts.1 in
    let same : text ≡ text_of (in_text text) = (bytes_eq-Decides text (text_of (in_text text))).0 parts.0 in
    (same ∙ ap text_of (sym civil.0), parts.2, civil.1)

-- a date that is read from a text is written as that text
pub form_of_read : (r : Result ℕ BadDate) (text : List ℕ) → result_ok r ≡ read_text text → IfOk r (λ date. (text ≡ date_text date) × (0 < date))
form_of_read r text e = grind (arith, nat_tests, common_steps, text_is_date_text)

-- the first seven bytes are those written of what they say
wire_of-on_wire : (bytes : List ℕ) → length bytes ≡ 8 → slice_index bytes 1 < 256 → take 7 bytes ≡ take 7 (wire_of (on_wire bytes))
wire_of-on_wire bytes l h = grind arith

-- a date above 0 seconds that is read from the wire is written as these bytes
pub form_of_wire : (r : Result ℕ BadDate) (bytes : List ℕ) → length bytes ≡ 8 → slice_index bytes 1 < 256 → result_ok r ≡ read_wire bytes
    → IfOk r (λ date. 0 < date → take 7 bytes ≡ take 7 (wire_date date))
form_of_wire (Ok date) bytes l h e = λ some.
    let later : (date == 0) ≡ false = grind (arith, nat_tests) in
    let says : on_wire bytes ≡ civil_of date = wire_is_wire_date bytes date (sym e) some in
    rw later (wire_of-on_wire bytes l h ∙ ap (λ time. take 7 (wire_of time)) says)
form_of_wire (Err fault) bytes l h e = tt
