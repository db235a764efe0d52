-- Texts behind keys: what is read is what they say, what they say is read, and they stand on one line.
use Rattle.std.proofs.lemmas.Bool.Decides.{nat_tests}
use Rattle.std.proofs.lemmas.Grind.{common_steps}
use Rattle.std.proofs.Common.{◌≡◌, ℕ, ◌+◌, ◌-◌, ◌/◌, ◌%◌, ◌^◌, ◌<◌, ◌≤◌, Bool, true, false, cond, eqb, leb, List, [], ◌∷◌, ◌++◌, length, take, drop, Some, None, refl}
use Rattle.std.proofs.Common.{sym, ap, subst, ◌∙◌, arith}
use Rattle.std.specs.Prelude.{◌||◌, codes, option_and_then, slice_index}
use Rattle.std.specs.Fmt.{decimal}
use Rattle.std.specs.Int.{w32, from_be_bytes, to_be_bytes}
use Rattle.std.specs.List.{list_any, starts_with}
use Rattle.std.proofs.lemmas.Bool.{and_parts, cases_lt, eqb-true, eq-eqb, ne_eqb, ltb-false, le-ltb, eqb-false, le-leb, leb-true}
use Rattle.std.proofs.lemmas.Fmt.{decimal_digit, decimal_step}
use Rattle.std.proofs.lemmas.List.{take_at, drop_at, take-append-drop, length-append}
use Rattle.std.proofs.lemmas.Nat.{be_bytes_4, from_be_bytes-to_be_bytes_4}
use Rattle.hex.specs.Hex.{IsBytes, encode_lower, lower_digits}
use Rattle.hex.proofs.HexLemmas.{length-encode_with}
use Rattle.pdb_values.specs.PalmDates.{read_wire}
use Rattle.pdb_values.specs.Stems.{hex_digit, is_plain, stem_byte, stem_of}
use Rattle.pdb_values.specs.Users.{password_of, user_name_of}
use Rattle.pdb_values.proofs.NamedLaws.{bytes_eq-own, bytes_eq-is}
use Rattle.folder_files.specs.Hexadecimal.{IsWireDate, bytes_in, bytes_text, date_in, few_bytes_in}
use Rattle.folder_files.specs.Lines.{ValueKind, Title, Number, Positive, Date, Name, Password, Count, Slot, Stem, Value, Says, slot_text}
use Rattle.folder_files.specs.Reading.{behind, count_in, field_at, if_positive, number_in, slot_in, value_in}
use Rattle.folder_files.proofs.HexLaws.{HasNoFeed, bind_some, bytes_in-found, bytes_in-only, bytes_text-no_feed, encode_lower-no_feed}
use Rattle.folder_files.proofs.StemTextLaws.{stem_in-found, stem_in-only}
use Rattle.folder_files.proofs.HexLaws.{feed_past, few_bytes_in-found, few_bytes_in-only, guard_some, map_some, some_is, test_some}

-- ---- line feeds and keys

pub no_feed_append : (front back : List ℕ) → HasNoFeed front → HasNoFeed back → HasNoFeed (front ++ back)
no_feed_append [] back none more = more
no_feed_append (byte ∷ front) back none more = grind (arith, nat_tests, common_steps, no_feed_append front back)

pub behind_found : (key line text : List ℕ) → behind key line ≡ Some text → line ≡ key ++ text
unfolding behind
behind_found key line text e =
    let test = test_some (starts_with eqb line key) _ text e in
    let front : key ≡ take (length key) line = bytes_eq-is _ _ test.0 in
    let back : drop (length key) line ≡ text = some_is _ _ test.1 in
    sym (take-append-drop (length key) line) ∙ (ap (λ (xs : List ℕ). xs ++ drop (length key) line) (sym front) ∙ ap (λ (xs : List ℕ). key ++ xs) back)

pub behind_only : (key text : List ℕ) → behind key (key ++ text) ≡ Some text
unfolding behind
behind_only key text = grind (arith, nat_tests, common_steps, take_at, bytes_eq-own, drop_at)

-- ---- what a text says

number_found : (text : List ℕ) (number : ℕ) → number_in text ≡ Some number → (text ≡ encode_lower (to_be_bytes w32 number)) × (number < 2 ^ 32)
number_found text number e =
    let got = map_some (bytes_in 4 text) (from_be_bytes w32) number e in
    let is = bytes_in-found 4 text got.0 got.1 in
    let back : to_be_bytes w32 number ≡ got.0 = be_bytes_4 got.0 number is.1 is.2 (sym got.2) in
    (is.0 ∙ ap encode_lower (sym back), subst (λ (n : ℕ). n < 2 ^ 32) got.2 (omega (arith, is.2 0, is.2 1, is.2 2, is.2 3)))

number_only : (number : ℕ) → number < 2 ^ 32 → number_in (encode_lower (to_be_bytes w32 number)) ≡ Some number
number_only number small = grind (arith, nat_tests, common_steps, bytes_in-only, from_be_bytes-to_be_bytes_4)

positive_found : (text : List ℕ) (number : ℕ) → option_and_then if_positive (number_in text) ≡ Some number
    → (text ≡ encode_lower (to_be_bytes w32 number)) × (number < 2 ^ 32) × (0 < number)
positive_found text number e =
    let got = bind_some (number_in text) if_positive number e in
    let some = guard_some (eqb got.0 0) (Some got.0) number got.2 in
    let is : got.0 ≡ number = some_is got.0 number some.1 in
    let found = number_found text number (got.1 ∙ ap (λ (n : ℕ). Some n) is) in
    let other : got.0 ≡ 0 → ⊥ = eqb-false got.0 0 some.0 in
    (found.0, found.1, omega arith)

positive_only : (number : ℕ) → number < 2 ^ 32 → 0 < number → option_and_then if_positive (number_in (encode_lower (to_be_bytes w32 number))) ≡ Some number
positive_only number small some = grind (arith, nat_tests, common_steps, ne_eqb, number_only)

date_found : (text : List ℕ) (seconds : ℕ) → option_and_then date_in (bytes_in 8 text) ≡ Some seconds → Says Date seconds text
date_found text seconds e =
    let got = bind_some (bytes_in 8 text) date_in seconds e in
    let is = bytes_in-found 8 text got.0 got.1 in
    let read = test_some (eqb (slice_index got.0 7) 0) (read_wire got.0) seconds got.2 in
    (got.0, is.0, record { eight = is.1; in_range = is.2; read = read.1; ended = eqb-true _ _ read.0 })

date_only : (bytes : List ℕ) (seconds : ℕ) → IsWireDate seconds bytes → option_and_then date_in (bytes_in 8 (encode_lower bytes)) ≡ Some seconds
date_only bytes seconds date = grind (arith, nat_tests, common_steps, bytes_in-only, eq-eqb)

-- what is taken as it is
taken : {A : Type 0} (b : Bool) (x y : A) → cond b None (Some x) ≡ Some y → (b ≡ false) × (x ≡ y)
taken b x y e = let g = guard_some b (Some x) y e in (g.0, some_is x y g.1)

pub or_first : (a b : Bool) → (a || b) ≡ false → a ≡ false
or_first a b e = grind arith

name_found : (text name : List ℕ) → option_and_then user_name_of (few_bytes_in text) ≡ Some name → Says Name name text
name_found text name e =
    let got = bind_some (few_bytes_in text) user_name_of name e in
    let is = few_bytes_in-found text got.0 got.1 in
    let same : got.0 ≡ name = (taken _ got.0 name got.2).1 in
    subst (λ (n : List ℕ). Says Name n text) same (is.0, is.1, got.2 ∙ ap (λ (n : List ℕ). Some n) (sym same))

name_only : (name : List ℕ) → IsBytes name → user_name_of name ≡ Some name → option_and_then user_name_of (few_bytes_in (bytes_text name)) ≡ Some name
name_only name fits is = grind (arith, nat_tests, common_steps, ltb-false, or_first, taken, few_bytes_in-only)

password_found : (text password : List ℕ) → option_and_then password_of (few_bytes_in text) ≡ Some password → Says Password password text
password_found text password e =
    let got = bind_some (few_bytes_in text) password_of password e in
    let is = few_bytes_in-found text got.0 got.1 in
    let same : got.0 ≡ password = (taken _ got.0 password got.2).1 in
    subst (λ (n : List ℕ). Says Password n text) same (is.0, is.1, got.2 ∙ ap (λ (n : List ℕ). Some n) (sym same))

password_only : (password : List ℕ) → IsBytes password → password_of password ≡ Some password
    → option_and_then password_of (few_bytes_in (bytes_text password)) ≡ Some password
password_only password fits is = grind (arith, nat_tests, common_steps, ltb-false, taken, few_bytes_in-only)

-- ---- the number of slots

two_digits : (number : ℕ) → 10 ≤ number → number < 20 → decimal number ≡ 49 ∷ (38 + number) ∷ []
two_digits number low high = grind (arith, nat_tests, common_steps, decimal_step, decimal_digit)

-- a number of slots is one digit or two
pub count_cases : (P : List ℕ → Type 0) (number : ℕ) → number < 20 → (number < 10 → P ((48 + number) ∷ [])) → (10 ≤ number → P (49 ∷ (38 + number) ∷ []))
    → P (decimal number)
count_cases P number few one two = grind (arith, nat_tests, common_steps, cases_lt, decimal_digit, two_digits)

count_found : (text : List ℕ) (number : ℕ) → count_in text ≡ Some number → Says Count number text
count_found [] number e = absurd cc
count_found (digit ∷ []) number e = grind (arith, nat_tests, common_steps, test_some, and_parts, leb-true, some_is, decimal_digit)
count_found (ten ∷ digit ∷ []) number e = grind (arith, nat_tests, common_steps, test_some, and_parts, leb-true, some_is, eqb-true, two_digits)
count_found (ten ∷ digit ∷ more ∷ text) number e = absurd cc

count_only : (number : ℕ) → 1 ≤ number → number ≤ 16 → count_in (decimal number) ≡ Some number
count_only number some few =
    count_cases (λ text. count_in text ≡ Some number) number (omega arith)
    (λ less.
    let low : leb 49 (48 + number) ≡ true = le-leb _ _ (omega arith) in
    let high : leb (48 + number) 57 ≡ true = le-leb _ _ (omega arith) in
    let is : 48 + number - 48 ≡ number = omega arith in
    rw (low, high) (ap (λ (n : ℕ). Some n) is))
    (λ more.
    let low : leb 48 (38 + number) ≡ true = le-leb _ _ (omega arith) in
    let high : leb (38 + number) 54 ≡ true = le-leb _ _ (omega arith) in
    let is : 38 + number - 38 ≡ number = omega arith in
    rw (low, high) (ap (λ (n : ℕ). Some n) is))

-- ---- the user of a slot

field_found : (key : List ℕ) (size : ℕ) (text : List ℕ) (parts : List ℕ × List ℕ) → field_at key size text ≡ Some parts → text ≡ key ++ (parts.0 ++ parts.1)
unfolding field_at
field_found key size text parts e = grind (arith, nat_tests, common_steps, bind_some, guard_some, some_is, behind_found, take-append-drop)

field_only : (key front back : List ℕ) (size : ℕ) → length front ≡ size → field_at key size (key ++ (front ++ back)) ≡ Some (front, back)
unfolding field_at
field_only key front back size long = grind (arith, nat_tests, common_steps, le-ltb, length-append, behind_only, take_at, drop_at)

slot_found : (text : List ℕ) (value : Value Slot) → slot_in text ≡ Some value → Says Slot value text
unfolding slot_in
slot_found text value e =
    let user = bind_some (field_at (codes "user ") 8 text) _ value e in
    let last = bind_some (field_at (codes " last ") 16 user.0.1) _ value user.2 in
    let name = bind_some (behind (codes " name ") last.0.1) _ value last.2 in
    let number = bind_some (number_in user.0.0) _ value name.2 in
    let seconds = bind_some (option_and_then date_in (bytes_in 8 last.0.0)) _ value number.2 in
    let bytes = map_some (option_and_then user_name_of (few_bytes_in name.0)) _ value seconds.2 in
    let is : (number.0, seconds.0, bytes.0) ≡ value = bytes.2 in
    let whole : text ≡ slot_text user.0.0 last.0.0 name.0 =
    field_found (codes "user ") 8 text user.0 user.1
    ∙ ap (λ (rest : List ℕ). codes "user " ++ (user.0.0 ++ rest)) (field_found (codes " last ") 16 user.0.1 last.0 last.1
    ∙ ap (λ (rest : List ℕ). codes " last " ++ (last.0.0 ++ rest)) (behind_found (codes " name ") last.0.1 name.0 name.1)) in
    subst (λ (v : Value Slot). Says Slot v text) is
    (user.0.0, last.0.0, name.0, whole, number_found user.0.0 number.0 number.1, date_found last.0.0 seconds.0 seconds.1, name_found name.0 bytes.0 bytes.1)

slot_only : (value : Value Slot) (text : List ℕ) → Says Slot value text → slot_in text ≡ Some value
unfolding slot_in
slot_only value text is =
    grind (
      arith,
      nat_tests,
      common_steps,
      is.3,
      is.4.0,
      is.5.1,
      is.6.0,
      field_only (codes "user ") is.0 (codes " last " ++ (is.1 ++ (codes " name " ++ is.2))) 8
          (ap length is.4.0 ∙ length-encode_with lower_digits (to_be_bytes w32 value.0)),
      field_only (codes " last ") is.1 (codes " name " ++ is.2) 16
          (omega (arith, ap length is.5.1, length-encode_with lower_digits is.5.0, is.5.2.eight)),
      behind_only (codes " name ") is.2,
      number_only value.0 is.4.1,
      date_only is.5.0 value.1 is.5.2,
      name_only value.2 is.6.1 is.6.2,
    )

-- ---- any text

pub value_found : (kind : ValueKind) (value : Value kind) (text : List ℕ) → value_in kind text ≡ Some value → Says kind value text
value_found Title value text e = grind (arith, nat_tests, common_steps)
value_found Number value text e = number_found text value e
value_found Positive value text e = positive_found text value e
value_found Date value text e = date_found text value e
value_found Name value text e = name_found text value e
value_found Password value text e = password_found text value e
value_found Count value text e = count_found text value e
value_found Slot value text e = slot_found text value e
value_found Stem value text e = stem_in-found text value e

pub value_only : (kind : ValueKind) (value : Value kind) (text : List ℕ) → Says kind value text → value_in kind text ≡ Some value
value_only Title value text is = ap (value_in Title) is
value_only Number value text is = ap (value_in Number) is.0 ∙ number_only value is.1
value_only Positive value text is = ap (value_in Positive) is.0 ∙ positive_only value is.1 is.2
value_only Date value text is = ap (value_in Date) is.1 ∙ date_only is.0 value is.2
value_only Name value text is = ap (value_in Name) is.0 ∙ name_only value is.1 is.2
value_only Password value text is = ap (value_in Password) is.0 ∙ password_only value is.1 is.2
value_only Count value text is = ap (value_in Count) is.0 ∙ count_only value is.1 is.2
value_only Slot value text is = slot_only value text is
value_only Stem value text is = ap (value_in Stem) is.0 ∙ stem_in-only value is.1 is.2

-- ---- what is written of a name

pub name_says : (name : List ℕ) → IsBytes name → length name ≤ 40 → list_any (λ byte. eqb byte 0) name ≡ false → Says Name name (bytes_text name)
name_says name fits few nonzero = grind arith

pub password_says : (password : List ℕ) → IsBytes password → length password ≤ 40 → Says Password password (bytes_text password)
password_says password fits few = grind arith

-- ---- a text stands on one line

number_bytes : (number : ℕ) → IsBytes (to_be_bytes w32 number)
number_bytes number i = grind arith

decimal-no_feed : (number : ℕ) → number < 20 → HasNoFeed (decimal number)
decimal-no_feed number few =
    count_cases HasNoFeed number few
    (λ less. let other : eqb (48 + number) 10 ≡ false = ne_eqb _ _ (λ e. omega arith) in feed_past (48 + number) [] other)
    (λ more.
    let other : eqb (38 + number) 10 ≡ false = ne_eqb _ _ (λ e. omega arith) in
    let digit : HasNoFeed ((38 + number) ∷ []) = feed_past (38 + number) [] other in
    omega (arith, feed_past 49 ((38 + number) ∷ []) refl))

-- the key of a slot's line
pub slot_key-no_feed : (number : ℕ) → number < 20 → HasNoFeed (codes "slot " ++ (decimal number ++ codes " "))
slot_key-no_feed number few = grind (arith, nat_tests, common_steps, no_feed_append, decimal-no_feed)

slot-no_feed : (value : Value Slot) (text : List ℕ) → Says Slot value text → HasNoFeed text
slot-no_feed value text is =
    let user : HasNoFeed is.0 = subst HasNoFeed (sym is.4.0) (encode_lower-no_feed _ (number_bytes value.0)) in
    let last : HasNoFeed is.1 = subst HasNoFeed (sym is.5.1) (encode_lower-no_feed is.5.0 is.5.2.in_range) in
    let name : HasNoFeed is.2 = subst HasNoFeed (sym is.6.0) (bytes_text-no_feed value.2 is.6.1) in
    subst HasNoFeed (sym is.3)
    (no_feed_append (codes "user ") _ refl (no_feed_append is.0 _ user
    (no_feed_append (codes " last ") _ refl (no_feed_append is.1 _ last (no_feed_append (codes " name ") is.2 refl name)))))

digit-no_feed : (number : ℕ) → eqb (hex_digit number) 10 ≡ false
digit-no_feed number = grind (arith, nat_tests, common_steps)

stem_byte-no_feed : (byte : ℕ) → HasNoFeed (stem_byte byte)
unfolding stem_byte
stem_byte-no_feed byte = by (is_plain byte) refl
  where
    by : (plain : Bool) → is_plain byte ≡ plain → HasNoFeed (cond plain (byte ∷ []) (37 ∷ hex_digit (byte / 16) ∷ hex_digit (byte % 16) ∷ []))
    by true is =
        let other : eqb byte 10 ≡ false = ne_eqb _ _ (λ e. let bad : is_plain 10 ≡ true = ap is_plain (sym e) ∙ is in cc) in
        feed_past byte [] other
    by false is =
        let high = digit-no_feed (byte / 16) in
        let low = digit-no_feed (byte % 16) in
        omega (
          arith,
          feed_past 37 (hex_digit (byte / 16) ∷ hex_digit (byte % 16) ∷ []) refl,
          feed_past (hex_digit (byte / 16)) (hex_digit (byte % 16) ∷ []) high,
          feed_past (hex_digit (byte % 16)) [] low,
        )

stem-no_feed : (name : List ℕ) → HasNoFeed (stem_of name)
stem-no_feed [] = refl
stem-no_feed (byte ∷ name) = no_feed_append (stem_byte byte) (stem_of name) (stem_byte-no_feed byte) (stem-no_feed name)

pub on_one_line : (kind : ValueKind) (value : Value kind) (text : List ℕ) → Says kind value text → HasNoFeed text
on_one_line Title value text is = subst HasNoFeed (sym is) refl
on_one_line Date value text is = subst HasNoFeed (sym is.1) (encode_lower-no_feed is.0 is.2.in_range)
on_one_line Name value text is = subst HasNoFeed (sym is.0) (bytes_text-no_feed value is.1)
on_one_line Password value text is = subst HasNoFeed (sym is.0) (bytes_text-no_feed value is.1)
on_one_line Count value text is = grind (arith, nat_tests, common_steps, decimal-no_feed)
on_one_line Slot value text is = slot-no_feed value text is
on_one_line Stem value text is = subst HasNoFeed (sym is.0) (stem-no_feed value)
on_one_line other value text is = subst HasNoFeed (sym is.0) (encode_lower-no_feed _ (number_bytes value))
