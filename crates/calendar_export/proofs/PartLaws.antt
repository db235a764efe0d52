-- The groups of a component's properties: each is told, and its properties are told by their lines.
use Rattle.std.proofs.lemmas.Bool.{and_parts}
use Rattle.std.proofs.lemmas.Bool.Decides.{nat_tests}
use Rattle.std.proofs.lemmas.List.{append_cancel_left}
use Rattle.std.proofs.lemmas.List.Elements.{All-head, All-tail}
use Rattle.std.proofs.Common.{arith, ◌≡◌, ◌≤◌, ◌++◌, ◌∷◌, [], ◌∙◌, ◌==◌, ap, cond, drop, refl, sym, ℕ, ◌+◌, ◌-◌, ◌*◌, Bool, true, false, List, Option, None, Some, get_or, map}
use Rattle.std.specs.Prelude.{All, codes, option_map, if◌then◌else◌}
use Rattle.palm_records.proofs.CharacterLaws.{append_parts}
use Rattle.palm_records.specs.declared.day.Day.{Day}
use Rattle.palm_records.specs.Tasks.{TaskValue}
use Rattle.palm_events.specs.declared.alarm.Alarm.{Alarm}
use Rattle.palm_events.specs.declared.rule.Rule.{Rule}
use Rattle.palm_events.specs.declared.times.Time.{Time}
use Rattle.palm_events.specs.declared.times.Times.{Times}
use Rattle.palm_events.specs.Times.{is_time}
use Rattle.content_lines.specs.Lines.{has_no_break}
use Rattle.content_lines.specs.Properties.{IsBytes, PropertyValue, are_properties, is_name, plain_property}
use Rattle.content_lines.specs.Records.{class_properties}
use Rattle.content_lines.proofs.GroupLaws.{stand, stand-cons, stand-nil}
use Rattle.content_lines.proofs.RecordLaws.{unbroken-uid}
use Rattle.content_lines.proofs.ValueLaws.{unbroken-text}
use Rattle.calendar_export.specs.Components.{SourceValue, end_of, head_properties}
use Rattle.calendar_export.specs.DateProperties.{alarm_properties, day_mark, day_property, end_day, end_properties, is_same_time, own_properties, time_chars}
use Rattle.calendar_export.specs.Dates.{IsAlarm, IsDay, IsRuled, IsTimes}
use Rattle.calendar_export.specs.Moments.{IsShort, clock_chars, day_chars}
use Rattle.calendar_export.specs.RuleValues.{rule_properties}
use Rattle.calendar_export.specs.TaskProperties.{IsDue, IsTask, due_properties, priority_property, status_value}
use Rattle.calendar_export.proofs.RuleLaws.{no_same, rule_injective}
use Rattle.calendar_export.proofs.ValueLaws.{day_chars_injective, time_injective, trigger_injective, unbroken-day, unbroken-day_value, unbroken-rule, unbroken-stamp, unbroken-time, unbroken-trigger}

-- the group of a property, by its name
unfoldable pub rank : List ℕ → ℕ
rank name =
    if get_or name 0 0 == 68 then (if get_or name 1 0 == 84 then (if get_or name 2 0 == 69 then 2 else (if get_or name 5 0 == 82 then 1 else 0))
    else (if get_or name 1 0 == 69 then 8 else 9))
    else if get_or name 0 0 == 82 then 3
    else if get_or name 0 0 == 69 then (if get_or name 1 0 == 88 then 4 else 13)
    else if get_or name 0 0 == 88 then (if get_or name 7 0 == 68 then 5 else 7)
    else if get_or name 0 0 == 83 then (if get_or name 1 0 == 85 then 6 else 10)
    else if get_or name 0 0 == 80 then 10
    else if get_or name 0 0 == 67 then (if get_or name 1 0 == 65 then 11 else 12)
    else if get_or name 0 0 == 66 then 13
    else 0

pub none : PropertyValue
none = plain_property [] []

-- ---- heads and marks

pub head_stands : (source : SourceValue) (id : ℕ) → has_no_break source.stem ≡ true → stand rank 0 (head_properties source id) ≡ true
unfolding rank
head_stands source id h = stand-cons _ _ _ _ refl refl (unbroken-uid id source.stem h)
    (stand-cons _ _ _ _ refl refl (unbroken-stamp source.made) (stand-nil _ _))

pub class_stands : (secret : Bool) → stand rank 12 (class_properties secret) ≡ true
unfolding rank has_no_break
class_stands true = stand-cons _ _ _ _ refl refl refl (stand-nil _ _)
class_stands false = stand-nil _ _

-- ---- days with the time at which a date begins

mark_named : (time : Option Times) → (is_name (codes "DTSTART" ++ day_mark time) ≡ true) × (is_name (codes "EXDATE" ++ day_mark time) ≡ true)
mark_named None = (refl, refl)
mark_named (Some times) = (refl, refl)

pub start_stands : (time : Option Times) (day : Day) → stand rank 1 (day_property (codes "DTSTART") time day ∷ []) ≡ true
unfolding rank
start_stands time day = stand-cons _ _ _ _ refl (mark_named time).0 (unbroken-day_value time day) (stand-nil _ _)

pub exceptions_stand : (time : Option Times) (days : List Day) → stand rank 4 (map (day_property (codes "EXDATE") time) days) ≡ true
unfolding rank
exceptions_stand time [] = stand-nil _ _
exceptions_stand time (day ∷ days) = stand-cons _ _ _ _ refl (mark_named time).1 (unbroken-day_value time day) (exceptions_stand time days)

-- the time at which a date begins
abbrev pub begin_time : Option Times → Option Time
begin_time time = option_map (λ times. times.start) time

no_mark : (name : List ℕ) (x : Times) → name ++ day_mark None ≡ name ++ day_mark (Some x) → ⊥
no_mark name x e =
    let same = append_cancel_left name (day_mark None) (day_mark (Some x)) e in
    cc

pub day_told : (name : List ℕ) (a b : Option Times) (c d : Day) → IsTimes a → IsTimes b → IsShort c → IsShort d
    → day_property name a c ≡ day_property name b d → (c ≡ d) × (begin_time a ≡ begin_time b)
day_told name None None c d p q short_c short_d e = (day_chars_injective c d short_c short_d (ap (λ (x : PropertyValue). x.value) e), refl)
day_told name None (Some y) c d p q short_c short_d e = absurd (no_mark name y (ap (λ (x : PropertyValue). x.name) e))
day_told name (Some x) None c d p q short_c short_d e = absurd (no_mark name x (sym (ap (λ (y : PropertyValue). y.name) e)))
day_told name (Some x) (Some y) c d p q short_c short_d e =
    let chars : time_chars c x.start ≡ time_chars d y.start = ap (λ (z : PropertyValue). z.value) e in
    let clock_x = codes "T" ++ clock_chars x.start.hour x.start.minute 0 in
    let clock_y = codes "T" ++ clock_chars y.start.hour y.start.minute 0 in
    let parts = append_parts (day_chars c) (day_chars d) clock_x clock_y refl chars in
    let of_x = and_parts (is_time x.start) (is_time x.end) p in
    let of_y = and_parts (is_time y.start) (is_time y.end) q in
    let start = time_injective c d x.start y.start of_x.0 of_y.0 chars in
    (day_chars_injective c d short_c short_d parts.0, ap (λ time. Some time) start)

pub exceptions_told : (time : Option Times) (a b : List Day) → IsTimes time → All IsShort a → All IsShort b
    → map (day_property (codes "EXDATE") time) a ≡ map (day_property (codes "EXDATE") time) b → a ≡ b
exceptions_told time [] [] is h k e = refl
exceptions_told time [] (y ∷ ys) is h k e = cc
exceptions_told time (x ∷ xs) [] is h k e = cc
exceptions_told time (x ∷ xs) (y ∷ ys) is h k e =
    let first : day_property (codes "EXDATE") time x ≡ day_property (codes "EXDATE") time y = ap (λ (l : List PropertyValue). get_or l 0 none) e in
    let day = day_told (codes "EXDATE") time time x y is is (All-head IsShort x xs h) (All-head IsShort y ys k) first in
    let rest = exceptions_told time xs ys is (All-tail IsShort x xs h) (All-tail IsShort y ys k) (ap (drop 1) e) in
    λ i. day.0 i ∷ rest i

-- ---- the end, where it isn't the start

end_by : Bool → Day → Time → List PropertyValue
end_by same day time = cond same [] (plain_property (codes "DTEND") (time_chars day time) ∷ [])

end_stands_by : (b : Bool) (day : Day) (time : Time) → stand rank 2 (end_by b day time) ≡ true
unfolding rank end_by
end_stands_by true day time = stand-nil _ _
end_stands_by false day time = stand-cons _ _ _ _ refl refl (unbroken-time day time) (stand-nil _ _)

pub end_stands : (start : Day) (time : Option Times) → stand rank 2 (end_properties start time) ≡ true
unfolding end_by
end_stands start None = stand-nil _ _
end_stands start (Some times) = end_stands_by (is_same_time times) (end_day start times) times.end

same_end : (times : Times) → is_same_time times ≡ true → times.end ≡ times.start
same_end times e =
    let hour : times.end.hour ≡ times.start.hour = grind (arith, nat_tests, e) in
    let minute : times.end.minute ≡ times.start.minute = grind (arith, nat_tests, e) in
    λ i. record { hour = hour i; minute = minute i }

end_told_by : (p q : Bool) (x y : Times) (c d : Day) → is_same_time x ≡ p → is_same_time y ≡ q → x.start ≡ y.start → is_time x.end ≡ true
    → is_time y.end ≡ true → end_by p c x.end ≡ end_by q d y.end → x.end ≡ y.end
unfolding end_by
end_told_by true true x y c d is_x is_y start h k e = same_end x is_x ∙ (start ∙ sym (same_end y is_y))
end_told_by true false x y c d is_x is_y start h k e = cc
end_told_by false true x y c d is_x is_y start h k e = cc
end_told_by false false x y c d is_x is_y start h k e = time_injective c d x.end y.end h k (ap (λ (l : List PropertyValue). (get_or l 0 none).value) e)

pub end_told : (a b : Option Times) (c d : Day) → IsTimes a → IsTimes b → begin_time a ≡ begin_time b → end_properties c a ≡ end_properties d b → a ≡ b
unfolding end_by
end_told None None c d p q begin e = refl
end_told None (Some y) c d p q begin e = absurd cc
end_told (Some x) None c d p q begin e = absurd cc
end_told (Some x) (Some y) c d p q begin e =
    let start : x.start ≡ y.start = cc begin in
    let of_x = and_parts (is_time x.start) (is_time x.end) p in
    let of_y = and_parts (is_time y.start) (is_time y.end) q in
    let end = end_told_by (is_same_time x) (is_same_time y) x y (end_day c x) (end_day d y) refl refl start of_x.1 of_y.1 e in
    λ i. Some (record { start = start i; end = end i })

-- ---- rules and the record's own day

pub rule_stands : (timed : Bool) (rule : Option Rule) → IsRuled rule → stand rank 3 (rule_properties timed rule) ≡ true
unfolding rank
rule_stands timed None is = stand-nil _ _
rule_stands timed (Some rule) is = stand-cons _ _ _ _ refl refl (unbroken-rule timed rule is) (stand-nil _ _)

pub rule_told : (timed : Bool) (a b : Option Rule) → IsRuled a → IsRuled b → rule_properties timed a ≡ rule_properties timed b → a ≡ b
rule_told timed None None p q e = refl
rule_told timed None (Some b) p q e = cc
rule_told timed (Some a) None p q e = cc
rule_told timed (Some a) (Some b) p q e =
    ap (λ rule. Some rule) (rule_injective timed a b p q (ap (λ (l : List PropertyValue). (get_or l 0 none).value) e))

pub own_stands : (own : Option Day) → stand rank 5 (own_properties own) ≡ true
unfolding rank
own_stands None = stand-nil _ _
own_stands (Some day) = stand-cons _ _ _ _ refl refl (unbroken-day day) (stand-nil _ _)

pub own_told : (a b : Option Day) → IsDay a → IsDay b → own_properties a ≡ own_properties b → a ≡ b
own_told None None p q e = refl
own_told None (Some d) p q e = cc
own_told (Some c) None p q e = cc
own_told (Some c) (Some d) p q e = ap (λ day. Some day) (day_chars_injective c d p q (ap (λ (l : List PropertyValue). (get_or l 0 none).value) e))

-- ---- alarms

pub alarm_proper : (description : List ℕ) (alarm : Option Alarm) → IsBytes description → IsAlarm alarm
    → are_properties (alarm_properties description alarm) ≡ true
unfolding has_no_break
alarm_proper description None h is = refl
alarm_proper description (Some alarm) h is =
    let said = unbroken-text description h in
    let trigger = unbroken-trigger alarm is in
    rw (said, trigger) refl

pub alarm_front : (x y : List ℕ) (a b : Option Alarm) (s t : List PropertyValue) → IsAlarm a → IsAlarm b
    → alarm_properties x a ++ end_of (codes "VEVENT") ∷ s ≡ alarm_properties y b ++ end_of (codes "VEVENT") ∷ t → (a ≡ b) × (s ≡ t)
alarm_front x y None None s t p q e = (refl, ap (drop 1) e)
alarm_front x y None (Some b) s t p q e = absurd (no_same 69 66 refl (ap (λ (l : List PropertyValue). get_or (get_or l 0 none).name 0 0) e))
alarm_front x y (Some a) None s t p q e = absurd (no_same 66 69 refl (ap (λ (l : List PropertyValue). get_or (get_or l 0 none).name 0 0) e))
alarm_front x y (Some a) (Some b) s t p q e =
    (ap (λ alarm. Some alarm) (trigger_injective a b p q (ap (λ (l : List PropertyValue). (get_or l 3 none).value) e)), ap (drop 6) e)

-- ---- tasks

pub due_stands : (due : Option Day) → stand rank 9 (due_properties due) ≡ true
unfolding rank
due_stands None = stand-nil _ _
due_stands (Some day) = stand-cons _ _ _ _ refl refl (unbroken-day day) (stand-nil _ _)

pub due_told : (a b : Option Day) → IsDue a → IsDue b → due_properties a ≡ due_properties b → a ≡ b
due_told None None p q e = refl
due_told None (Some d) p q e = cc
due_told (Some c) None p q e = cc
due_told (Some c) (Some d) p q e = ap (λ day. Some day) (day_chars_injective c d p q (ap (λ (l : List PropertyValue). (get_or l 0 none).value) e))

unbroken-status : (done : Bool) → has_no_break (status_value done) ≡ true
unfolding has_no_break
unbroken-status true = refl
unbroken-status false = refl

unbroken-priority : (priority : ℕ) → 1 ≤ priority → has_no_break (priority_property priority).value ≡ true
unfolding has_no_break
unbroken-priority priority low = grind (arith, nat_tests)

pub state_stands : (task : TaskValue) → IsTask task
    → stand rank 10 (priority_property task.priority ∷ plain_property (codes "STATUS") (status_value task.done) ∷ []) ≡ true
unfolding rank
state_stands task is = stand-cons _ _ _ _ refl refl (unbroken-priority task.priority is.low)
    (stand-cons _ _ _ _ refl refl (unbroken-status task.done) (stand-nil _ _))

pub priority_told : (p q : ℕ) → 1 ≤ p → 1 ≤ q → priority_property p ≡ priority_property q → p ≡ q
priority_told p q low_p low_q e =
    let last : 48 + (2 * p - 1) ≡ 48 + (2 * q - 1) = ap (λ (x : PropertyValue). get_or x.value 0 0) e in
    omega arith

pub status_told : (a b : Bool) → status_value a ≡ status_value b → a ≡ b
status_told true true e = refl
status_told true false e = cc
status_told false true e = cc
status_told false false e = refl
