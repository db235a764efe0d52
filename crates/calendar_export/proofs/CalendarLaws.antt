-- One text is that of one list of records.
use Rattle.std.proofs.lemmas.Bool.Decides.{nat_tests}
use Rattle.std.proofs.lemmas.List.{append_cancel_left}
use Rattle.std.proofs.Common.{arith, ◌≡◌, ◌<◌, ◌++◌, ◌∷◌, [], ◌∙◌, ap, drop, refl, sym, ℕ, true, List, Option, None, Some, append_assoc, append-nil, get_or, length, map}
use Rattle.std.specs.Prelude.{All, codes}
use Rattle.std.specs.Option.{is_some}
use Rattle.std.specs.List.{flat_map}
use Rattle.palm_records.specs.Tasks.{TaskValue}
use Rattle.palm_events.specs.declared.alarm.Alarm.{Alarm}
use Rattle.content_lines.specs.Lines.{has_no_break}
use Rattle.content_lines.specs.Properties.{IsBytes, PropertyValue, are_properties, given_property, is_plain, plain_property, text_property}
use Rattle.content_lines.specs.Records.{class_properties, unread_bytes, unread_name}
use Rattle.content_lines.proofs.GroupLaws.{AreGroups, also, are_properties-append, given_injective, given_stands, groups_are_properties, groups_front, joined, later, lists_are_properties, lists_injective, stand, stand-cons, stand-nil}
use Rattle.content_lines.proofs.PropertyLaws.{properties_text_injective}
use Rattle.content_lines.proofs.RecordLaws.{class_injective, uid_injective, unbroken-hex, unbroken-unread_name, unread_bytes_injective}
use Rattle.content_lines.proofs.ValueLaws.{text_value_injective, unbroken-plain, unbroken-text}
use Rattle.calendar_export.specs.Components.{IsOrigin, OriginValue, SourceValue, begin_of, closing, end_of, head_properties, opening}
use Rattle.calendar_export.specs.Dates.{DateValue, IsDate}
use Rattle.calendar_export.specs.DateProperties.{alarm_properties, day_property, end_properties, own_properties}
use Rattle.calendar_export.specs.Items.{Content, IsContent, IsItem, Item, calendar_of, calendar_text, content_properties, date, item_properties, todo, unread}
use Rattle.calendar_export.specs.RuleValues.{rule_properties}
use Rattle.calendar_export.specs.TaskProperties.{IsTask, due_properties, priority_property, status_value}
use Rattle.calendar_export.specs.declared.kind.Kind.{Kind}
use Rattle.calendar_export.specs.declared.kind.Kind.TheVariants.{Dates, Tasks}
use Rattle.calendar_export.proofs.PartLaws.{alarm_front, alarm_proper, class_stands, day_told, due_stands, due_told, end_stands, end_told, exceptions_stand, exceptions_told, head_stands, none, own_stands, own_told, priority_told, rank, rule_stands, rule_told, start_stands, state_stands, status_told}
use Rattle.calendar_export.proofs.RuleLaws.{no_same}

summary_stands : (text : List ℕ) → IsBytes text → stand rank 6 (text_property (codes "SUMMARY") text ∷ []) ≡ true
unfolding rank
summary_stands text h = stand-cons rank 6 (text_property (codes "SUMMARY") text) [] refl refl (unbroken-text text h) (stand-nil rank 6)

-- ---- the groups of a component

kind_of : Content → List ℕ
kind_of (todo task) = codes "VTODO"
kind_of (date value) = codes "VEVENT"
kind_of (unread bytes) = codes "VJOURNAL"

-- those between the head and the marks
body_of : ℕ → Content → List (List PropertyValue)
body_of id (todo task) =
    [] ∷ [] ∷ [] ∷ [] ∷ [] ∷ (text_property (codes "SUMMARY") task.description ∷ []) ∷ [] ∷ given_property (codes "DESCRIPTION") task.note
    ∷ due_properties task.due ∷ (priority_property task.priority ∷ plain_property (codes "STATUS") (status_value task.done) ∷ []) ∷ []
body_of id (date value) =
    (day_property (codes "DTSTART") value.time value.start ∷ []) ∷ end_properties value.start value.time ∷ rule_properties (is_some value.time) value.rule
    ∷ map (day_property (codes "EXDATE") value.time) value.exceptions ∷ own_properties value.own ∷ (text_property (codes "SUMMARY") value.description ∷ []) ∷ []
    ∷ given_property (codes "DESCRIPTION") value.note ∷ [] ∷ [] ∷ []
body_of id (unread bytes) =
    [] ∷ [] ∷ [] ∷ [] ∷ [] ∷ (unread_name (codes "SUMMARY") id ∷ []) ∷ (unread_bytes bytes ∷ []) ∷ [] ∷ [] ∷ [] ∷ []

groups_of : SourceValue → OriginValue → Content → List (List PropertyValue)
groups_of source origin content =
    head_properties source origin.id
    ∷ (body_of origin.id content ++ given_property (codes "CATEGORIES") origin.label ∷ class_properties origin.secret ∷ [])

-- what stands behind them
rest_of : Content → List PropertyValue → List PropertyValue
rest_of (todo task) s = end_of (codes "VTODO") ∷ s
rest_of (date value) s = alarm_properties value.description value.alarm ++ end_of (codes "VEVENT") ∷ s
rest_of (unread bytes) s = end_of (codes "VJOURNAL") ∷ s

abbrev group : ℕ → List (List PropertyValue) → List PropertyValue
group k groups = get_or groups k []

todo_joined : (d due c k : List PropertyValue) (p st l : PropertyValue) (s : List PropertyValue)
    → ((d ++ (due ++ p ∷ st ∷ [])) ++ ((c ++ k) ++ l ∷ [])) ++ s ≡ (d ++ (due ++ p ∷ st ∷ (c ++ (k ++ [])))) ++ l ∷ s
todo_joined d due c k p st l s = simp (append_assoc, append-nil)

date_joined : (e r x o d c k a : List PropertyValue) (u l : PropertyValue) (s : List PropertyValue)
    → ((e ++ (r ++ (x ++ o))) ++ u ∷ (d ++ ((c ++ k) ++ (a ++ l ∷ [])))) ++ s ≡ (e ++ (r ++ (x ++ (o ++ u ∷ (d ++ (c ++ (k ++ []))))))) ++ (a ++ l ∷ s)
date_joined e r x o d c k a u l s = simp (append_assoc, append-nil)

unread_joined : (c k : List PropertyValue) (l : PropertyValue) (s : List PropertyValue) → ((c ++ k) ++ l ∷ []) ++ s ≡ (c ++ (k ++ [])) ++ l ∷ s
unread_joined c k l s = simp (append_assoc, append-nil)

content_joined : (source : SourceValue) (origin : OriginValue) (content : Content) (s : List PropertyValue)
    → content_properties source origin content ++ s ≡ begin_of (kind_of content) ∷ (joined (groups_of source origin content) ++ rest_of content s)
unfolding kind_of body_of groups_of rest_of
content_joined source origin (todo task) s =
    ap (λ l. begin_of (codes "VTODO") ∷ (head_properties source origin.id ++ text_property (codes "SUMMARY") task.description ∷ l))
    (todo_joined (given_property (codes "DESCRIPTION") task.note) (due_properties task.due) (given_property (codes "CATEGORIES") origin.label)
    (class_properties origin.secret) (priority_property task.priority) (plain_property (codes "STATUS") (status_value task.done)) (end_of (codes "VTODO")) s)
content_joined source origin (date value) s =
    ap (λ l. begin_of (codes "VEVENT") ∷ (head_properties source origin.id ++ day_property (codes "DTSTART") value.time value.start ∷ l))
    (date_joined (end_properties value.start value.time) (rule_properties (is_some value.time) value.rule)
    (map (day_property (codes "EXDATE") value.time) value.exceptions) (own_properties value.own) (given_property (codes "DESCRIPTION") value.note)
    (given_property (codes "CATEGORIES") origin.label) (class_properties origin.secret) (alarm_properties value.description value.alarm)
    (text_property (codes "SUMMARY") value.description) (end_of (codes "VEVENT")) s)
content_joined source origin (unread bytes) s =
    ap (λ l. begin_of (codes "VJOURNAL") ∷ (head_properties source origin.id ++ unread_name (codes "SUMMARY") origin.id ∷ unread_bytes bytes ∷ l))
    (unread_joined (given_property (codes "CATEGORIES") origin.label) (class_properties origin.secret) (end_of (codes "VJOURNAL")) s)

thirteen : (source : SourceValue) (origin : OriginValue) (content : Content) → length (groups_of source origin content) ≡ 13
unfolding body_of groups_of
thirteen source origin (todo task) = refl
thirteen source origin (date value) = refl
thirteen source origin (unread bytes) = refl

rest_later : (content : Content) (j : ℕ) (s : List PropertyValue) → j < 13 → later rank j (rest_of content s) ≡ true
unfolding rank rest_of
rest_later (todo task) j s less = grind (arith, nat_tests, less)
rest_later (date value) j s less = alarm_later value.alarm
  where
    alarm_later : (alarm : Option Alarm) → later rank j (alarm_properties value.description alarm ++ end_of (codes "VEVENT") ∷ s) ≡ true
    alarm_later None = grind (arith, nat_tests, less)
    alarm_later (Some alarm) = grind (arith, nat_tests, less)
rest_later (unread bytes) j s less = grind (arith, nat_tests, less)

todo_groups : (source : SourceValue) (origin : OriginValue) (task : TaskValue) → has_no_break source.stem ≡ true → IsOrigin origin → IsTask task
    → AreGroups rank 0 (groups_of source origin (todo task))
unfolding body_of groups_of rank
todo_groups source origin task h is_m is =
    let nil = stand-nil rank in
    let marks = also (given_stands rank 11 (codes "CATEGORIES") origin.label refl refl is_m.label) (also (class_stands origin.secret) tt) in
    let note = also (given_stands rank 8 (codes "DESCRIPTION") task.note refl refl is.note) (also (due_stands task.due) (also (state_stands task is) marks)) in
    also (head_stands source origin.id h)
    (also (nil 1) (also (nil 2) (also (nil 3) (also (nil 4) (also (nil 5) (also (summary_stands task.description is.description) (also (nil 7) note)))))))

date_groups : (source : SourceValue) (origin : OriginValue) (value : DateValue) → has_no_break source.stem ≡ true → IsOrigin origin → IsDate value
    → AreGroups rank 0 (groups_of source origin (date value))
unfolding body_of groups_of rank
date_groups source origin value h is_m is =
    let nil = stand-nil rank in
    let marks = also (given_stands rank 11 (codes "CATEGORIES") origin.label refl refl is_m.label) (also (class_stands origin.secret) tt) in
    let note = also (given_stands rank 8 (codes "DESCRIPTION") value.note refl refl is.note) (also (nil 9) (also (nil 10) marks)) in
    let own = also (own_stands value.own) (also (summary_stands value.description is.description) (also (nil 7) note)) in
    let rule = also (rule_stands (is_some value.time) value.rule is.rule) (also (exceptions_stand value.time value.exceptions) own) in
    also (head_stands source origin.id h) (also (start_stands value.time value.start) (also (end_stands value.start value.time) rule))

unread_groups : (source : SourceValue) (origin : OriginValue) (bytes : List ℕ) → has_no_break source.stem ≡ true → IsOrigin origin → IsBytes bytes
    → AreGroups rank 0 (groups_of source origin (unread bytes))
unfolding body_of groups_of rank
unread_groups source origin bytes h is_m is =
    let nil = stand-nil rank in
    let marks = also (given_stands rank 11 (codes "CATEGORIES") origin.label refl refl is_m.label) (also (class_stands origin.secret) tt) in
    let name = stand-cons rank 6 (unread_name (codes "SUMMARY") origin.id) [] refl refl (unbroken-unread_name (codes "SUMMARY") origin.id) (nil 6) in
    let record_bytes = stand-cons rank 7 (unread_bytes bytes) [] refl refl (unbroken-hex bytes is) (nil 7) in
    let behind = also name (also record_bytes (also (nil 8) (also (nil 9) (also (nil 10) marks)))) in
    also (head_stands source origin.id h) (also (nil 1) (also (nil 2) (also (nil 3) (also (nil 4) (also (nil 5) behind)))))

are_groups : (source : SourceValue) (origin : OriginValue) (kind : Kind) (content : Content) → has_no_break source.stem ≡ true → IsOrigin origin
    → IsContent kind content → AreGroups rank 0 (groups_of source origin content)
are_groups source origin Tasks (todo task) h is_m is = todo_groups source origin task h is_m is
are_groups source origin Tasks (date value) h is_m is = absurd is
are_groups source origin Tasks (unread bytes) h is_m is = unread_groups source origin bytes h is_m is
are_groups source origin Dates (todo task) h is_m is = absurd is
are_groups source origin Dates (date value) h is_m is = date_groups source origin value h is_m is
are_groups source origin Dates (unread bytes) h is_m is = unread_groups source origin bytes h is_m is

-- ---- they tell the record

marks_at : (source : SourceValue) (origin : OriginValue) (content : Content)
    → (group 11 (groups_of source origin content) ≡ given_property (codes "CATEGORIES") origin.label)
    × (group 12 (groups_of source origin content) ≡ class_properties origin.secret)
unfolding body_of groups_of
marks_at source origin (todo task) = (refl, refl)
marks_at source origin (date value) = (refl, refl)
marks_at source origin (unread bytes) = (refl, refl)

origin_told : (source : SourceValue) (m n : OriginValue) (a b : Content) → IsOrigin m → IsOrigin n → groups_of source m a ≡ groups_of source n b → m ≡ n
unfolding groups_of
origin_told source m n a b is_m is_n e =
    let of_m = marks_at source m a in
    let of_n = marks_at source n b in
    let id = uid_injective m.id n.id source.stem source.stem is_m.id is_n.id (ap (λ l. get_or (group 0 l) 0 none) e) in
    let label = given_injective (codes "CATEGORIES") m.label n.label is_m.label is_n.label (sym of_m.0 ∙ (ap (group 11) e ∙ of_n.0)) in
    let secret = class_injective m.secret n.secret (sym of_m.1 ∙ (ap (group 12) e ∙ of_n.1)) in
    λ i. record { id = id.0 i; secret = secret i; label = label i }

todo_told : (source : SourceValue) (m n : OriginValue) (a b : TaskValue) → IsTask a → IsTask b
    → groups_of source m (todo a) ≡ groups_of source n (todo b) → a ≡ b
unfolding body_of groups_of
todo_told source m n a b is_a is_b e =
    let description = text_value_injective a.description b.description is_a.description is_b.description (ap (λ l. (get_or (group 6 l) 0 none).value) e) in
    let note = given_injective (codes "DESCRIPTION") a.note b.note is_a.note is_b.note (ap (group 8) e) in
    let due = due_told a.due b.due is_a.due is_b.due (ap (group 9) e) in
    let priority = priority_told a.priority b.priority is_a.low is_b.low (ap (λ l. get_or (group 10 l) 0 none) e) in
    let done = status_told a.done b.done (ap (λ l. (get_or (group 10 l) 1 none).value) e) in
    λ i. record { due = due i; done = done i; priority = priority i; description = description i; note = note i }

date_told : (source : SourceValue) (m n : OriginValue) (a b : DateValue) → IsDate a → IsDate b → a.alarm ≡ b.alarm
    → groups_of source m (date a) ≡ groups_of source n (date b) → a ≡ b
unfolding body_of groups_of
date_told source m n a b is_a is_b alarm e =
    let start =
    day_told (codes "DTSTART") a.time b.time a.start b.start is_a.time is_b.time is_a.start is_b.start (ap (λ l. get_or (group 1 l) 0 none) e) in
    let time = end_told a.time b.time a.start b.start is_a.time is_b.time start.1 (ap (group 2) e) in
    let rule =
    rule_told (is_some a.time) a.rule b.rule is_a.rule is_b.rule (ap (group 3) e ∙ ap (λ t. rule_properties (is_some t) b.rule) (sym time)) in
    let exceptions =
    exceptions_told a.time a.exceptions b.exceptions is_a.time is_a.exceptions is_b.exceptions
    (ap (group 4) e ∙ ap (λ t. map (day_property (codes "EXDATE") t) b.exceptions) (sym time)) in
    let own = own_told a.own b.own is_a.own is_b.own (ap (group 5) e) in
    let description = text_value_injective a.description b.description is_a.description is_b.description (ap (λ l. (get_or (group 6 l) 0 none).value) e) in
    let note = given_injective (codes "DESCRIPTION") a.note b.note is_a.note is_b.note (ap (group 8) e) in
    λ i. record {
      start = start.0 i;
      time = time i;
      rule = rule i;
      exceptions = exceptions i;
      own = own i;
      alarm = alarm i;
      description = description i;
      note = note i;
    }

unread_told : (source : SourceValue) (m n : OriginValue) (a b : List ℕ) → IsBytes a → IsBytes b
    → groups_of source m (unread a) ≡ groups_of source n (unread b) → a ≡ b
unfolding body_of groups_of
unread_told source m n a b is_a is_b e = unread_bytes_injective a b is_a is_b (ap (λ l. get_or (group 7 l) 0 none) e)

-- ---- records in front of others

groups_told : (source : SourceValue) (kind : Kind) (m n : OriginValue) (a b : Content) (s t : List PropertyValue) → has_no_break source.stem ≡ true
    → IsOrigin m → IsOrigin n → IsContent kind a → IsContent kind b → content_properties source m a ++ s ≡ content_properties source n b ++ t
    → (groups_of source m a ≡ groups_of source n b) × (rest_of a s ≡ rest_of b t)
groups_told source kind m n a b s t h is_m is_n is_a is_b e =
    let of_a = thirteen source m a in
    let of_b = thirteen source n b in
    let moved = sym (content_joined source m a s) ∙ (e ∙ content_joined source n b t) in
    groups_front rank 0 (groups_of source m a) (groups_of source n b) (rest_of a s) (rest_of b t) (of_a ∙ sym of_b) (are_groups source m kind a h is_m is_a)
    (are_groups source n kind b h is_n is_b) (λ j less. rest_later a j s (omega (arith, less, of_a))) (λ j less. rest_later b j t (omega (arith, less, of_a)))
    (ap (drop 1) moved)

kind_told : (source : SourceValue) (m n : OriginValue) (a b : Content) (s t : List PropertyValue)
    → content_properties source m a ++ s ≡ content_properties source n b ++ t → kind_of a ≡ kind_of b
kind_told source m n a b s t e =
    ap (λ (l : List PropertyValue). (get_or l 0 none).value) (sym (content_joined source m a s) ∙ (e ∙ content_joined source n b t))

content_front : (source : SourceValue) (kind : Kind) (m n : OriginValue) (a b : Content) (s t : List PropertyValue) → has_no_break source.stem ≡ true
    → IsOrigin m
    → IsOrigin n → IsContent kind a → IsContent kind b → content_properties source m a ++ s ≡ content_properties source n b ++ t → (m ≡ n) × (a ≡ b) × (s ≡ t)
unfolding kind_of rest_of
content_front source Tasks m n (todo a) (todo b) s t h is_m is_n is_a is_b e =
    let told = groups_told source Tasks m n (todo a) (todo b) s t h is_m is_n is_a is_b e in
    (origin_told source m n (todo a) (todo b) is_m is_n told.0, ap (λ x. todo x) (todo_told source m n a b is_a is_b told.0), ap (drop 1) told.1)
content_front source Tasks m n (unread a) (unread b) s t h is_m is_n is_a is_b e =
    let told = groups_told source Tasks m n (unread a) (unread b) s t h is_m is_n is_a is_b e in
    (origin_told source m n (unread a) (unread b) is_m is_n told.0, ap (λ x. unread x) (unread_told source m n a b is_a is_b told.0), ap (drop 1) told.1)
content_front source Tasks m n (todo a) (unread b) s t h is_m is_n is_a is_b e =
    absurd (no_same 84 74 refl (ap (λ l. get_or l 1 0) (kind_told source m n (todo a) (unread b) s t e)))
content_front source Tasks m n (unread a) (todo b) s t h is_m is_n is_a is_b e =
    absurd (no_same 74 84 refl (ap (λ l. get_or l 1 0) (kind_told source m n (unread a) (todo b) s t e)))
content_front source Tasks m n (date a) b s t h is_m is_n is_a is_b e = absurd is_a
content_front source Tasks m n (todo a) (date b) s t h is_m is_n is_a is_b e = absurd is_b
content_front source Tasks m n (unread a) (date b) s t h is_m is_n is_a is_b e = absurd is_b
content_front source Dates m n (date a) (date b) s t h is_m is_n is_a is_b e =
    let told = groups_told source Dates m n (date a) (date b) s t h is_m is_n is_a is_b e in
    let alarm = alarm_front a.description b.description a.alarm b.alarm s t is_a.alarm is_b.alarm told.1 in
    (origin_told source m n (date a) (date b) is_m is_n told.0, ap (λ x. date x) (date_told source m n a b is_a is_b alarm.0 told.0), alarm.1)
content_front source Dates m n (unread a) (unread b) s t h is_m is_n is_a is_b e =
    let told = groups_told source Dates m n (unread a) (unread b) s t h is_m is_n is_a is_b e in
    (origin_told source m n (unread a) (unread b) is_m is_n told.0, ap (λ x. unread x) (unread_told source m n a b is_a is_b told.0), ap (drop 1) told.1)
content_front source Dates m n (date a) (unread b) s t h is_m is_n is_a is_b e =
    absurd (no_same 69 74 refl (ap (λ l. get_or l 1 0) (kind_told source m n (date a) (unread b) s t e)))
content_front source Dates m n (unread a) (date b) s t h is_m is_n is_a is_b e =
    absurd (no_same 74 69 refl (ap (λ l. get_or l 1 0) (kind_told source m n (unread a) (date b) s t e)))
content_front source Dates m n (todo a) b s t h is_m is_n is_a is_b e = absurd is_a
content_front source Dates m n (date a) (todo b) s t h is_m is_n is_a is_b e = absurd is_b
content_front source Dates m n (unread a) (todo b) s t h is_m is_n is_a is_b e = absurd is_b

item_front : (source : SourceValue) (kind : Kind) → has_no_break source.stem ≡ true → (x y : Item) (s t : List PropertyValue) → IsItem kind x → IsItem kind y
    → item_properties source x ++ s ≡ item_properties source y ++ t → (x ≡ y) × (s ≡ t)
item_front source kind h x y s t is_x is_y e =
    let front = content_front source kind x.origin y.origin x.content y.content s t h is_x.origin is_y.origin is_x.content is_y.content e in
    (λ i. record { origin = front.0 i; content = front.1 i }, front.2)

no_item : (source : SourceValue) (item : Item) (s : List PropertyValue) → closing ≡ item_properties source item ++ s → ⊥
no_item source item s e =
    no_same 69 66 refl (ap (λ (l : List PropertyValue). get_or (get_or l 0 none).name 0 0) (e ∙ content_joined source item.origin item.content s))

-- ---- their properties are told by their lines

rest_proper : (kind : Kind) (content : Content) → IsContent kind content → are_properties (rest_of content []) ≡ true
unfolding rest_of has_no_break
rest_proper Tasks (todo task) is = refl
rest_proper Tasks (date value) is = absurd is
rest_proper Tasks (unread bytes) is = refl
rest_proper Dates (todo task) is = absurd is
rest_proper Dates (date value) is =
    are_properties-append (alarm_properties value.description value.alarm) (end_of (codes "VEVENT") ∷ [])
    (alarm_proper value.description value.alarm is.description is.alarm) refl
rest_proper Dates (unread bytes) is = refl

begin_proper : (content : Content) → are_properties (begin_of (kind_of content) ∷ []) ≡ true
unfolding kind_of has_no_break
begin_proper (todo task) = refl
begin_proper (date value) = refl
begin_proper (unread bytes) = refl

item_proper : (source : SourceValue) (kind : Kind) → has_no_break source.stem ≡ true → (item : Item) → IsItem kind item
    → are_properties (item_properties source item) ≡ true
item_proper source kind h item is =
    let groups = groups_of source item.origin item.content in
    let rest = rest_of item.content [] in
    let begin = begin_of (kind_of item.content) ∷ [] in
    let whole : item_properties source item ≡ begin ++ (joined groups ++ rest) =
    sym (append-nil (item_properties source item)) ∙ content_joined source item.origin item.content [] in
    ap are_properties whole
    ∙ are_properties-append begin (joined groups ++ rest) (begin_proper item.content)
    (are_properties-append (joined groups) rest (groups_are_properties rank 0 groups (are_groups source item.origin kind item.content h is.origin is.content))
    (rest_proper kind item.content is.content))

calendar_proper : (source : SourceValue) (kind : Kind) (items : List Item) → has_no_break source.stem ≡ true → All (IsItem kind) items
    → are_properties (calendar_of source items) ≡ true
unfolding has_no_break
calendar_proper source kind items h all =
    are_properties-append opening (flat_map (item_properties source) items ++ closing) refl
    (are_properties-append (flat_map (item_properties source) items) closing
    (lists_are_properties (IsItem kind) (item_properties source) (item_proper source kind h) items all) refl)

pub calendar_text_injective : (source : SourceValue) (kind : Kind) (a b : List Item) → is_plain source.stem ≡ true → All (IsItem kind) a → All (IsItem kind) b
    → calendar_text source a ≡ calendar_text source b → a ≡ b
calendar_text_injective source kind a b plain h k e =
    let stem = unbroken-plain source.stem plain in
    let same =
    properties_text_injective (calendar_of source a) (calendar_of source b) (calendar_proper source kind a stem h) (calendar_proper source kind b stem k) e in
    lists_injective (IsItem kind) (item_properties source) closing (item_front source kind stem) (no_item source) a b h k
    (append_cancel_left opening (flat_map (item_properties source) a ++ closing) (flat_map (item_properties source) b ++ closing) same)
