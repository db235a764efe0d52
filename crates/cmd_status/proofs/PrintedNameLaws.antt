-- Printed names are one to one, and printable.
use Rattle.std.proofs.lemmas.Grind.{common_steps}
use Rattle.std.proofs.Common.{◌≡◌, ℕ, ◌+◌, ◌*◌, ◌/◌, ◌%◌, ◌<◌, ◌==◌, ◌&&◌, ◌||◌, Bool, true, false, cond, List, [], ◌∷◌, ◌++◌, refl, sym, ap, ◌∙◌, arith}
use Rattle.std.specs.Prelude.{not, nat_lt}
use Rattle.std.specs.List.{AllByRecursion}
use Rattle.std.proofs.lemmas.Bool.Decides.{nat_tests}
use Rattle.pdb_values.specs.Stems.{hex_digit}
use Rattle.cmd_status.specs.PrintedNames.{begins_escape, escape_of, is_escaped, is_printable, printed_byte, printed_name, stands_alone}
use Rattle.run_words.proofs.ActionLaws.{digit_number-hex_digit}

-- what stands for a byte: itself, or its escape
abbrev written : Bool → ℕ → List ℕ
written alone byte = cond alone (byte ∷ []) (escape_of byte)

pub printed_name-more : (byte : ℕ) (rest : List ℕ) → printed_name (byte ∷ rest) ≡ printed_byte byte rest ++ printed_name rest
unfolding printed_name
printed_name-more byte rest = refl

printed_name-written : (byte : ℕ) (rest : List ℕ) → printed_name (byte ∷ rest) ≡ written (stands_alone byte rest) byte ++ printed_name rest
printed_name-written byte rest = printed_name-more byte rest

pub printed_name-nil : printed_name [] ≡ []
unfolding printed_name
printed_name-nil = refl

-- ---- two names that are printed alike

-- what begins with another byte than `%` begins with a byte that stands for itself
head_written : (alone : Bool) (x : ℕ) (s : List ℕ) {h : ℕ} {t : List ℕ} → written alone x ++ s ≡ h ∷ t → (h == 37) ≡ false → (x ≡ h) × (s ≡ t)
head_written true x s e other = (cc, cc)
head_written false x s {h} e other = let percent : 37 ≡ h = cc in grind (arith, nat_tests)

record BeginsWith (name : List ℕ) (h : ℕ) (t : List ℕ) : Type 0 where
  more : List ℕ
  is : name ≡ h ∷ more
  printed : printed_name more ≡ t

begins_with : (name : List ℕ) {h : ℕ} {t : List ℕ} → printed_name name ≡ h ∷ t → (h == 37) ≡ false → BeginsWith name h t
begins_with [] e other = let none = sym printed_name-nil ∙ e in cc
begins_with (x ∷ xs) {h} e other =
    let parts = head_written (stands_alone x xs) x (printed_name xs) (sym (printed_name-written x xs) ∙ e) other in
    record { more = xs; is = ap (λ y. y ∷ xs) parts.0; printed = parts.1 }

hex_digit-other : (n : ℕ) → (hex_digit n == 37) ≡ false
hex_digit-other n = grind (arith, nat_tests)

-- a name that is printed with the digits of an escaped byte in front begins with them
begins_escape-printed : (name : List ℕ) (byte : ℕ) {t : List ℕ} → byte < 256 → is_escaped byte ≡ true
    → printed_name name ≡ hex_digit (byte / 16) ∷ hex_digit (byte % 16) ∷ t → begins_escape name ≡ true
begins_escape-printed name byte small escaped e =
    let one = begins_with name e (hex_digit-other (byte / 16)) in
    let two = begins_with one.more one.printed (hex_digit-other (byte % 16)) in
    let is : name ≡ hex_digit (byte / 16) ∷ hex_digit (byte % 16) ∷ two.more = one.is ∙ ap (λ more. hex_digit (byte / 16) ∷ more) two.is in
    let high = digit_number-hex_digit (byte / 16) (omega arith) in
    let low = digit_number-hex_digit (byte % 16) (omega arith) in
    let whole : byte / 16 * 16 + byte % 16 ≡ byte = omega arith in
    let below : nat_lt (byte / 16) 16 ≡ true = grind (arith, nat_tests) in
    let below_too : nat_lt (byte % 16) 16 ≡ true = grind (arith, nat_tests) in
    rw (is, high, low, below, below_too, whole) escaped

alone_parts : (printable percent escape : Bool) → (printable && not (percent && escape)) ≡ false → (not printable || percent) ≡ true
alone_parts printable percent escape e = grind arith

escaped_of : (byte : ℕ) (rest : List ℕ) → stands_alone byte rest ≡ false → is_escaped byte ≡ true
escaped_of byte rest e = alone_parts (is_printable byte) (byte == 37) (begins_escape rest) e

not_escape : (printable percent escape : Bool) → (printable && not (percent && escape)) ≡ true → percent ≡ true → escape ≡ false
not_escape printable percent escape e is = grind arith

no_escape : (rest : List ℕ) → stands_alone 37 rest ≡ true → begins_escape rest ≡ false
no_escape rest e = not_escape (is_printable 37) (37 == 37) (begins_escape rest) e refl

-- a `%` that stands for itself isn't the first byte of an escape
never_both : (x : ℕ) (xs : List ℕ) (y : ℕ) (t : List ℕ) → stands_alone x xs ≡ true → is_escaped y ≡ true → y < 256
    → x ∷ printed_name xs ≡ escape_of y ++ t → ⊥
never_both x xs y t alone escaped small e =
    let percent : x ≡ 37 = cc in
    let rest : printed_name xs ≡ hex_digit (y / 16) ∷ hex_digit (y % 16) ∷ t = cc in
    let no = no_escape xs (ap (λ b. stands_alone b xs) (sym percent) ∙ alone) in
    let yes = begins_escape-printed xs y small escaped rest in
    cc

digits_apart : (x y : ℕ) {s t : List ℕ} → escape_of x ++ s ≡ escape_of y ++ t → (x ≡ y) × (s ≡ t)
digits_apart x y e = grind (arith, nat_tests, common_steps)

same_head : (p q : Bool) (x y : ℕ) (xs ys : List ℕ) → stands_alone x xs ≡ p → stands_alone y ys ≡ q → x < 256 → y < 256
    → written p x ++ printed_name xs ≡ written q y ++ printed_name ys → (x ≡ y) × (printed_name xs ≡ printed_name ys)
same_head true true x y xs ys p q small small_too e = (cc, cc)
same_head false false x y xs ys p q small small_too e = digits_apart x y e
same_head true false x y xs ys p q small small_too e = absurd (never_both x xs y (printed_name ys) p (escaped_of y ys q) small_too e)
same_head false true x y xs ys p q small small_too e = absurd (never_both y ys x (printed_name xs) q (escaped_of x xs p) small (sym e))

not_nothing : (p : Bool) (x : ℕ) (s : List ℕ) → written p x ++ s ≡ [] → ⊥
not_nothing p x s e = grind arith

pub printed_name-injective : (name other : List ℕ) → AllByRecursion (λ byte. byte < 256) name → AllByRecursion (λ byte. byte < 256) other
    → printed_name name ≡ printed_name other → name ≡ other
printed_name-injective [] [] h k e = refl
printed_name-injective [] (y ∷ ys) h k e = absurd (not_nothing (stands_alone y ys) y (printed_name ys) (sym (printed_name-written y ys) ∙ sym e ∙ printed_name-nil))
printed_name-injective (x ∷ xs) [] h k e = absurd (not_nothing (stands_alone x xs) x (printed_name xs) (sym (printed_name-written x xs) ∙ e ∙ printed_name-nil))
printed_name-injective (x ∷ xs) (y ∷ ys) h k e =
    let parts = same_head (stands_alone x xs) (stands_alone y ys) x y xs ys refl refl h.0 k.0
    (sym (printed_name-written x xs) ∙ e ∙ printed_name-written y ys) in
    let rest = printed_name-injective xs ys h.1 k.1 parts.1 in
    ap (λ b. b ∷ xs) parts.0 ∙ ap (λ more. y ∷ more) rest

-- ---- printable

ArePrintable : List ℕ → Type 0
ArePrintable text = AllByRecursion (λ byte. is_printable byte ≡ true) text

hex_digit-printable : (n : ℕ) → n < 16 → is_printable (hex_digit n) ≡ true
hex_digit-printable n e = grind (arith, nat_tests, e)

alone_printable : (printable other : Bool) → (printable && other) ≡ true → printable ≡ true
alone_printable printable other e = grind arith

written-printable : (p : Bool) (x : ℕ) (xs s : List ℕ) → stands_alone x xs ≡ p → x < 256 → ArePrintable s → ArePrintable (written p x ++ s)
unfolding ArePrintable
written-printable true x xs s e small h = (alone_printable (is_printable x) (not ((x == 37) && begins_escape xs)) e, h)
written-printable false x xs s e small h =
    (refl, (hex_digit-printable (x / 16) (omega arith), (hex_digit-printable (x % 16) (omega arith), h)))

pub printed_name-printable : (name : List ℕ) → AllByRecursion (λ byte. byte < 256) name
    → AllByRecursion (λ byte. is_printable byte ≡ true) (printed_name name)
unfolding ArePrintable
printed_name-printable [] h = rw printed_name-nil tt
printed_name-printable (x ∷ xs) h =
    rw (printed_name-written x xs) (written-printable (stands_alone x xs) x xs (printed_name xs) refl h.0 (printed_name-printable xs h.1))
