-- Rules are told by their values.
use Rattle.std.proofs.lemmas.Bool.{and_parts}
use Rattle.std.proofs.lemmas.Bool.Decides.{nat_tests}
use Rattle.std.proofs.lemmas.List.{append_cancel_left}
use Rattle.std.proofs.Common.{arith, ◌≡◌, ◌<◌, ◌++◌, ◌∷◌, [], ◌∙◌, ◌==◌, ◌&&◌, ap, not, refl, sym, ℕ, ◌+◌, ◌-◌, ◌*◌, Bool, true, false, List, Option, None, Some, append_assoc, get_or, length}
use Rattle.std.specs.Prelude.{codes, if◌then◌else◌}
use Rattle.palm_records.proofs.CharacterLaws.{append_parts, every, every_at}
use Rattle.palm_records.specs.declared.day.Day.{Day}
use Rattle.palm_events.specs.declared.repeat.Week.{Week}
use Rattle.palm_events.specs.declared.repeat.Week.TheVariants.{First, Second, Third, Fourth, Last}
use Rattle.palm_events.specs.declared.repeat.Weekdays.{Weekdays}
use Rattle.palm_events.specs.declared.rule.Frequency.{Frequency}
use Rattle.palm_events.specs.declared.rule.Frequency.TheVariants.{Daily, Weekly, Monthly, MonthlyByDay, Yearly}
use Rattle.palm_events.specs.declared.rule.Rule.{Rule}
use Rattle.calendar_export.specs.Moments.{day_chars}
use Rattle.calendar_export.specs.RuleValues.{day_end, days_chars, frequency_chars, number_chars, rule_value, until_chars, week_chars, weekday_chars, weekdays_chars, weekdays_from}
use Rattle.calendar_export.specs.Dates.{IsDay, IsFrequency, IsRule}
use Rattle.calendar_export.proofs.ValueLaws.{day_chars_injective}

pub no_same : (m n : ℕ) → (m == n) ≡ false → m ≡ n → ⊥
no_same m n other same = grind (arith, nat_tests)

-- ---- parts of a rule, which end at a semicolon or with the line

unfoldable pub has_no_mark : List ℕ → Bool
has_no_mark [] = true
has_no_mark (c ∷ cs) = not (c == 59) && has_no_mark cs

unfoldable pub is_end : List ℕ → Bool
is_end [] = true
is_end (c ∷ cs) = c == 59

no_end : (c : ℕ) (cs s t : List ℕ) → has_no_mark (c ∷ cs) ≡ true → is_end s ≡ true → s ≡ (c ∷ cs) ++ t → ⊥
unfolding has_no_mark is_end
no_end c cs [] t plain end e = cc
no_end c cs (d ∷ ds) t plain end e =
    let same : d ≡ c = cc in
    grind (arith, nat_tests, plain, end, same)

pub part_front : (a b s t : List ℕ) → has_no_mark a ≡ true → has_no_mark b ≡ true → is_end s ≡ true → is_end t ≡ true → a ++ s ≡ b ++ t
    → (a ≡ b) × (s ≡ t)
unfolding has_no_mark
part_front [] [] s t p q end_s end_t e = (refl, e)
part_front [] (d ∷ ds) s t p q end_s end_t e = absurd (no_end d ds s t q end_s e)
part_front (c ∷ cs) [] s t p q end_s end_t e = absurd (no_end c cs t s p end_t (sym e))
part_front (c ∷ cs) (d ∷ ds) s t p q end_s end_t e =
    let first : c ≡ d = cc in
    let others : cs ++ s ≡ ds ++ t = cc in
    let rest = part_front cs ds s t (and_parts (not (c == 59)) (has_no_mark cs) p).1 (and_parts (not (d == 59)) (has_no_mark ds) q).1 end_s end_t others in
    (λ i. first i ∷ rest.0 i, rest.1)

-- ---- numbers below 256

-- the number of digits
unfoldable pub number_of : ℕ → List ℕ → ℕ
number_of before [] = before
number_of before (c ∷ cs) = number_of (before * 10 + (c - 48)) cs

numbers_told : every (λ n. (number_of 0 (number_chars n) == n) && has_no_mark (number_chars n)) 256 ≡ true
unfolding every number_of has_no_mark
numbers_told = refl

pub number_front : (m n : ℕ) (s t : List ℕ) → m < 256 → n < 256 → is_end s ≡ true → is_end t ≡ true → number_chars m ++ s ≡ number_chars n ++ t
    → (m ≡ n) × (s ≡ t)
number_front m n s t small_m small_n end_s end_t e =
    let of_m = and_parts (number_of 0 (number_chars m) == m) (has_no_mark (number_chars m))
    (every_at (λ n. (number_of 0 (number_chars n) == n) && has_no_mark (number_chars n)) 256 m numbers_told small_m) in
    let of_n = and_parts (number_of 0 (number_chars n) == n) (has_no_mark (number_chars n))
    (every_at (λ n. (number_of 0 (number_chars n) == n) && has_no_mark (number_chars n)) 256 n numbers_told small_n) in
    let parts = part_front (number_chars m) (number_chars n) s t of_m.1 of_n.1 end_s end_t e in
    let is_m : number_of 0 (number_chars m) ≡ m = grind (arith, nat_tests, of_m.0) in
    let is_n : number_of 0 (number_chars n) ≡ n = grind (arith, nat_tests, of_n.0) in
    (sym is_m ∙ (ap (number_of 0) parts.0 ∙ is_n), parts.1)

-- ---- weekdays

-- the weekday that two characters say
unfoldable pub weekday_in : List ℕ → ℕ
weekday_in [] = 0
weekday_in (a ∷ []) = 0
weekday_in (a ∷ b ∷ rest) =
    if a == 77 then 1 else (if a == 87 then 3 else (if a == 70 then 5 else (if b == 85 then (if a == 83 then 0 else 2) else (if a == 84 then 4 else 6))))

names_told : every (λ n. (weekday_in (weekday_chars n) == n) && (length (weekday_chars n) == 2)) 7 ≡ true
unfolding every weekday_in
names_told = refl

pub weekday_front : (m n : ℕ) (s t : List ℕ) → m < 7 → n < 7 → weekday_chars m ++ s ≡ weekday_chars n ++ t → (m ≡ n) × (s ≡ t)
weekday_front m n s t small_m small_n e =
    let of_m = and_parts (weekday_in (weekday_chars m) == m) (length (weekday_chars m) == 2)
    (every_at (λ n. (weekday_in (weekday_chars n) == n) && (length (weekday_chars n) == 2)) 7 m names_told small_m) in
    let of_n = and_parts (weekday_in (weekday_chars n) == n) (length (weekday_chars n) == 2)
    (every_at (λ n. (weekday_in (weekday_chars n) == n) && (length (weekday_chars n) == 2)) 7 n names_told small_n) in
    let size : length (weekday_chars m) ≡ length (weekday_chars n) = grind (arith, nat_tests, of_m.1, of_n.1) in
    let parts = append_parts (weekday_chars m) (weekday_chars n) s t size e in
    let is_m : weekday_in (weekday_chars m) ≡ m = grind (arith, nat_tests, of_m.0) in
    let is_n : weekday_in (weekday_chars n) ≡ n = grind (arith, nat_tests, of_n.0) in
    (sym is_m ∙ (ap weekday_in parts.0 ∙ is_n), parts.1)

-- the bit of a weekday
abbrev pub bit_of : ℕ → ℕ
bit_of weekday =
    if weekday == 0 then 1 else (if weekday == 1 then 2 else (if weekday == 2 then 4 else (if weekday == 3 then 8 else (if weekday == 4 then 16
    else (if weekday == 5 then 32 else 64)))))

-- the bits of names with commas between them
unfoldable pub bits_in : List ℕ → ℕ
bits_in [] = 0
bits_in (a ∷ []) = 0
bits_in (a ∷ b ∷ []) = bit_of (weekday_in (a ∷ b ∷ []))
bits_in (a ∷ b ∷ c ∷ rest) = bit_of (weekday_in (a ∷ b ∷ [])) + bits_in rest

week_told : every (λ n. (bits_in (weekdays_chars (record { bits = n })) == n) && has_no_mark (weekdays_chars (record { bits = n }))) 128 ≡ true
unfolding every weekdays_from bits_in weekday_in has_no_mark
week_told = refl

pub weekdays_front : (m n : ℕ) (s t : List ℕ) → m < 128 → n < 128 → is_end s ≡ true → is_end t ≡ true
    → weekdays_chars (record { bits = m }) ++ s ≡ weekdays_chars (record { bits = n }) ++ t → (m ≡ n) × (s ≡ t)
weekdays_front m n s t small_m small_n end_s end_t e =
    let a : List ℕ = weekdays_chars (record { bits = m }) in
    let b : List ℕ = weekdays_chars (record { bits = n }) in
    let of_m = and_parts (bits_in a == m) (has_no_mark a)
    (every_at (λ n. (bits_in (weekdays_chars (record { bits = n })) == n) && has_no_mark (weekdays_chars (record { bits = n }))) 128 m week_told small_m) in
    let of_n = and_parts (bits_in b == n) (has_no_mark b)
    (every_at (λ n. (bits_in (weekdays_chars (record { bits = n })) == n) && has_no_mark (weekdays_chars (record { bits = n }))) 128 n week_told small_n) in
    let parts = part_front a b s t of_m.1 of_n.1 end_s end_t e in
    let is_m : bits_in a ≡ m = grind (arith, nat_tests, of_m.0) in
    let is_n : bits_in b ≡ n = grind (arith, nat_tests, of_n.0) in
    (sym is_m ∙ (ap bits_in parts.0 ∙ is_n), parts.1)

-- ---- the last day

until_end : (timed : Bool) (until : Option Day) → is_end (until_chars timed until) ≡ true
unfolding is_end
until_end timed None = refl
until_end timed (Some day) = refl

pub until_injective : (timed : Bool) (u v : Option Day) → IsDay u → IsDay v → until_chars timed u ≡ until_chars timed v → u ≡ v
until_injective timed None None p q e = refl
until_injective timed None (Some day) p q e = cc
until_injective timed (Some day) None p q e = cc
until_injective timed (Some c) (Some d) p q e =
    let value = append_cancel_left (codes ";UNTIL=") (day_chars c ++ day_end timed) (day_chars d ++ day_end timed) e in
    let parts = append_parts (day_chars c) (day_chars d) (day_end timed) (day_end timed) refl value in
    ap (λ day. Some day) (day_chars_injective c d p q parts.0)

-- ---- the unit and its days

-- behind the number of a rule
abbrev pub after : Bool → Frequency → Option Day → List ℕ
after timed frequency until = days_chars frequency ++ until_chars timed until

after_end : (timed : Bool) (frequency : Frequency) (until : Option Day) → is_end (after timed frequency until) ≡ true
unfolding is_end
after_end timed Daily until = until_end timed until
after_end timed (Weekly days first) until = refl
after_end timed Monthly until = until_end timed until
after_end timed (MonthlyByDay week weekday) until = refl
after_end timed Yearly until = until_end timed until

frequency_plain : (frequency : Frequency) → has_no_mark (frequency_chars frequency) ≡ true
unfolding has_no_mark
frequency_plain Daily = refl
frequency_plain (Weekly days first) = refl
frequency_plain Monthly = refl
frequency_plain (MonthlyByDay week weekday) = refl
frequency_plain Yearly = refl

not_by_day : (timed : Bool) (until : Option Day) (rest : List ℕ) → until_chars timed until ≡ codes ";BYDAY=" ++ rest → ⊥
not_by_day timed None rest e = cc
not_by_day timed (Some day) rest e = no_same 85 66 refl (ap (λ l. get_or l 1 0) e)

-- ---- weeks of a month

-- the week that the first character says
unfoldable pub week_at : ℕ → Week
week_at c = if c == 49 then First else (if c == 50 then Second else (if c == 51 then Third else (if c == 52 then Fourth else Last)))

week_first : (week : Week) (s : List ℕ) → week_at (get_or (week_chars week ++ s) 0 0) ≡ week
unfolding week_at
week_first First s = refl
week_first Second s = refl
week_first Third s = refl
week_first Fourth s = refl
week_first Last s = refl

week_front : (v w : Week) (s t : List ℕ) → week_chars v ++ s ≡ week_chars w ++ t → (v ≡ w) × (s ≡ t)
week_front v w s t e =
    let same : v ≡ w = sym (week_first v s) ∙ (ap (λ l. week_at (get_or l 0 0)) e ∙ week_first w t) in
    let moved : week_chars v ++ s ≡ week_chars v ++ t = e ∙ ap (λ x. week_chars x ++ t) (sym same) in
    (same, append_cancel_left (week_chars v) s t moved)

-- ---- units with their days

weekly_front : (timed : Bool) (d g : Weekdays) (f h : ℕ) (u v : Option Day) → d.bits < 128 → g.bits < 128 → f < 7 → h < 7
    → after timed (Weekly d f) u ≡ after timed (Weekly g h) v → (d ≡ g) × (f ≡ h) × (until_chars timed u ≡ until_chars timed v)
unfolding is_end
weekly_front timed d g f h u v small_d small_g small_f small_h e =
    let end_d = codes ";WKST=" ++ (weekday_chars f ++ until_chars timed u) in
    let end_g = codes ";WKST=" ++ (weekday_chars h ++ until_chars timed v) in
    let moved : weekdays_chars d ++ end_d ≡ weekdays_chars g ++ end_g =
    sym (append_assoc (weekdays_chars d) (codes ";WKST=" ++ weekday_chars f) (until_chars timed u))
    ∙ (append_cancel_left (codes ";BYDAY=") ((weekdays_chars d ++ (codes ";WKST=" ++ weekday_chars f)) ++ until_chars timed u)
    ((weekdays_chars g ++ (codes ";WKST=" ++ weekday_chars h)) ++ until_chars timed v) e
    ∙ append_assoc (weekdays_chars g) (codes ";WKST=" ++ weekday_chars h) (until_chars timed v)) in
    let days = weekdays_front d.bits g.bits end_d end_g small_d small_g refl refl moved in
    let first =
    weekday_front f h (until_chars timed u) (until_chars timed v) small_f small_h
    (append_cancel_left (codes ";WKST=") (weekday_chars f ++ until_chars timed u) (weekday_chars h ++ until_chars timed v) days.1) in
    (λ i. record { bits = days.0 i }, first.0, first.1)

monthly_front : (timed : Bool) (w x : Week) (y z : ℕ) (u v : Option Day) → y < 7 → z < 7
    → after timed (MonthlyByDay w y) u ≡ after timed (MonthlyByDay x z) v → (w ≡ x) × (y ≡ z) × (until_chars timed u ≡ until_chars timed v)
monthly_front timed w x y z u v small_y small_z e =
    let moved : week_chars w ++ (weekday_chars y ++ until_chars timed u) ≡ week_chars x ++ (weekday_chars z ++ until_chars timed v) =
    sym (append_assoc (week_chars w) (weekday_chars y) (until_chars timed u))
    ∙ (append_cancel_left (codes ";BYDAY=") ((week_chars w ++ weekday_chars y) ++ until_chars timed u)
    ((week_chars x ++ weekday_chars z) ++ until_chars timed v) e
    ∙ append_assoc (week_chars x) (weekday_chars z) (until_chars timed v)) in
    let week = week_front w x (weekday_chars y ++ until_chars timed u) (weekday_chars z ++ until_chars timed v) moved in
    let day = weekday_front y z (until_chars timed u) (until_chars timed v) small_y small_z week.1 in
    (week.0, day.0, day.1)

frequency_front : (timed : Bool) (f g : Frequency) (u v : Option Day) → IsFrequency f → IsFrequency g → frequency_chars f ≡ frequency_chars g
    → after timed f u ≡ after timed g v → (f ≡ g) × (until_chars timed u ≡ until_chars timed v)
frequency_front timed Daily Daily u v is_f is_g n e = (refl, e)
frequency_front timed Daily (Weekly g h) u v is_f is_g n e = absurd (no_same 68 87 refl (ap (λ l. get_or l 0 0) n))
frequency_front timed Daily Monthly u v is_f is_g n e = absurd (no_same 68 77 refl (ap (λ l. get_or l 0 0) n))
frequency_front timed Daily (MonthlyByDay x z) u v is_f is_g n e = absurd (no_same 68 77 refl (ap (λ l. get_or l 0 0) n))
frequency_front timed Daily Yearly u v is_f is_g n e = absurd (no_same 68 89 refl (ap (λ l. get_or l 0 0) n))
frequency_front timed (Weekly d f) Daily u v is_f is_g n e = absurd (no_same 87 68 refl (ap (λ l. get_or l 0 0) n))
frequency_front timed (Weekly d f) (Weekly g h) u v is_f is_g n e =
    let parts = weekly_front timed d g f h u v is_f.0 is_g.0 is_f.1 is_g.1 e in
    (λ i. Weekly (parts.0 i) (parts.1 i), parts.2)
frequency_front timed (Weekly d f) Monthly u v is_f is_g n e = absurd (no_same 87 77 refl (ap (λ l. get_or l 0 0) n))
frequency_front timed (Weekly d f) (MonthlyByDay x z) u v is_f is_g n e = absurd (no_same 87 77 refl (ap (λ l. get_or l 0 0) n))
frequency_front timed (Weekly d f) Yearly u v is_f is_g n e = absurd (no_same 87 89 refl (ap (λ l. get_or l 0 0) n))
frequency_front timed Monthly Daily u v is_f is_g n e = absurd (no_same 77 68 refl (ap (λ l. get_or l 0 0) n))
frequency_front timed Monthly (Weekly g h) u v is_f is_g n e = absurd (no_same 77 87 refl (ap (λ l. get_or l 0 0) n))
frequency_front timed Monthly Monthly u v is_f is_g n e = (refl, e)
frequency_front timed Monthly (MonthlyByDay x z) u v is_f is_g n e = absurd (not_by_day timed u ((week_chars x ++ weekday_chars z) ++ until_chars timed v) e)
frequency_front timed Monthly Yearly u v is_f is_g n e = absurd (no_same 77 89 refl (ap (λ l. get_or l 0 0) n))
frequency_front timed (MonthlyByDay w y) Daily u v is_f is_g n e = absurd (no_same 77 68 refl (ap (λ l. get_or l 0 0) n))
frequency_front timed (MonthlyByDay w y) (Weekly g h) u v is_f is_g n e = absurd (no_same 77 87 refl (ap (λ l. get_or l 0 0) n))
frequency_front timed (MonthlyByDay w y) Monthly u v is_f is_g n e = absurd
    (not_by_day timed v ((week_chars w ++ weekday_chars y) ++ until_chars timed u) (sym e))
frequency_front timed (MonthlyByDay w y) (MonthlyByDay x z) u v is_f is_g n e =
    let parts = monthly_front timed w x y z u v is_f is_g e in
    (λ i. MonthlyByDay (parts.0 i) (parts.1 i), parts.2)
frequency_front timed (MonthlyByDay w y) Yearly u v is_f is_g n e = absurd (no_same 77 89 refl (ap (λ l. get_or l 0 0) n))
frequency_front timed Yearly Daily u v is_f is_g n e = absurd (no_same 89 68 refl (ap (λ l. get_or l 0 0) n))
frequency_front timed Yearly (Weekly g h) u v is_f is_g n e = absurd (no_same 89 87 refl (ap (λ l. get_or l 0 0) n))
frequency_front timed Yearly Monthly u v is_f is_g n e = absurd (no_same 89 77 refl (ap (λ l. get_or l 0 0) n))
frequency_front timed Yearly (MonthlyByDay x z) u v is_f is_g n e = absurd (no_same 89 77 refl (ap (λ l. get_or l 0 0) n))
frequency_front timed Yearly Yearly u v is_f is_g n e = (refl, e)

pub rule_injective : (timed : Bool) (a b : Rule) → IsRule a → IsRule b → rule_value timed a ≡ rule_value timed b → a ≡ b
unfolding is_end
rule_injective timed a b is_a is_b e =
    let behind_a = number_chars a.interval ++ after timed a.frequency a.until in
    let behind_b = number_chars b.interval ++ after timed b.frequency b.until in
    let value =
    append_cancel_left (codes "FREQ=") (frequency_chars a.frequency ++ (codes ";INTERVAL=" ++ behind_a))
    (frequency_chars b.frequency ++ (codes ";INTERVAL=" ++ behind_b)) e in
    let unit =
    part_front (frequency_chars a.frequency) (frequency_chars b.frequency) (codes ";INTERVAL=" ++ behind_a) (codes ";INTERVAL=" ++ behind_b)
    (frequency_plain a.frequency) (frequency_plain b.frequency) refl refl value in
    let interval =
    number_front a.interval b.interval (after timed a.frequency a.until) (after timed b.frequency b.until) is_a.interval is_b.interval
    (after_end timed a.frequency a.until) (after_end timed b.frequency b.until) (append_cancel_left (codes ";INTERVAL=") behind_a behind_b unit.1) in
    let frequency = frequency_front timed a.frequency b.frequency a.until b.until is_a.frequency is_b.frequency unit.0 interval.1 in
    let until = until_injective timed a.until b.until is_a.until is_b.until frequency.1 in
    λ i. record { frequency = frequency.0 i; interval = interval.0 i; until = until i }
