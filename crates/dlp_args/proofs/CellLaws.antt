-- What is read is a text of the cells, and each text of them is read.
use Rattle.std.proofs.lemmas.Bool.Decides.{nat_tests}
use Rattle.std.proofs.lemmas.Grind.{common_steps}
use Rattle.std.proofs.Common.{◌≡◌, ℕ, zero, suc, ◌+◌, ◌%◌, ◌^◌, ◌<◌, ◌≤◌, Bool, true, false, cond, eqb, ltb, List, [], ◌∷◌, ◌++◌, length, take, drop, Option}
use Rattle.std.proofs.Common.{Some, None, refl, sym, ap, subst, ◌∙◌, arith}
use Rattle.std.specs.Option.{option_map}
use Rattle.std.specs.List.{position}
use Rattle.std.specs.Int.{Width, w8, w16, w32, byte_len, from_be_bytes, to_be_bytes}
use Rattle.std.proofs.lemmas.Bool.{eqb-true, eq-eqb, ltb-true, ltb-false, le-ltb}
use Rattle.std.proofs.lemmas.List.{append-nil, take_at, drop_at, take-append-drop, length-append, length-take}
use Rattle.dlp_args.proofs.NumberLaws.{IsBytes, IsBytes-drop, IsBytes-take, IsWide, wide16, wide32, front_bytes}
use Rattle.dlp_args.specs.Cells.{CellKind, Byte, Half, Word, Pad, Run, Text, MaybeText, Rest, Counted, Whole, Names, Cell, first_zero, cell_text, CellFits}
use Rattle.dlp_args.specs.Cells.{IsTextCell, IsMaybeTextCell, IsCell}
use Rattle.dlp_args.specs.CellReading.{◌>>=◌, at_most_65500, number_at, some_at, text_in, short_text_in, maybe_text_in, counted_in, names_in, whole, cell_at}
use Rattle.dlp_args.specs.Fields.{Fields, fields_in, fields_text, FieldsFit, AreFields, ends_well}

-- ---- steps that did not fail

pub bind_some : {A B : Type 0} (o : Option A) (f : A → Option B) (y : B) → (o >>= f) ≡ Some y → (x : A) × (o ≡ Some x) × (f x ≡ Some y)
bind_some o f y e = grind arith

pub map_some : {A B : Type 0} (o : Option A) (f : A → B) (y : B) → option_map f o ≡ Some y → (x : A) × (o ≡ Some x) × (f x ≡ y)
map_some o f y e = grind arith

guard_some : {A : Type 0} (b : Bool) (o : Option A) {y : A} → cond b None o ≡ Some y → (b ≡ false) × (o ≡ Some y)
guard_some b o e = grind arith

test_some : {A : Type 0} (b : Bool) (o : Option A) {y : A} → cond b o None ≡ Some y → (b ≡ true) × (o ≡ Some y)
test_some b o e = grind arith

pub some_is : {A : Type 0} (x y : A) → (let o : Option A = Some x in o) ≡ Some y → x ≡ y
some_is x y e = cc

-- ---- numbers

one_byte : (bytes : List ℕ) → length bytes ≡ 1 → IsBytes bytes → to_be_bytes w8 (from_be_bytes w8 bytes) ≡ bytes
one_byte bytes len fits = grind (arith, nat_tests, common_steps)

byte_back : (n : ℕ) → n < 2 ^ 8 → from_be_bytes w8 (to_be_bytes w8 n) ≡ n
byte_back n lt = grind arith

byte_text : (n : ℕ) → n < 2 ^ 8 → to_be_bytes w8 n ≡ n ∷ []
byte_text n lt = let is : n % 256 ≡ n = omega arith in grind arith

wide8 : IsWide w8 (2 ^ 8)
wide8 = grind (arith, one_byte, byte_back)

pub number_takes : {w : Width} {limit : ℕ} (wide : IsWide w limit) (bytes : List ℕ) (n : ℕ) (rest : List ℕ) → IsBytes bytes
    → number_at w bytes ≡ Some (n, rest) → (bytes ≡ to_be_bytes w n ++ rest) × (n < limit) × IsBytes rest
unfolding number_at
number_takes {w} {limit} wide bytes n rest fits e =
    let g = guard_some (ltb (length bytes) (byte_len w)) _ e in
    let long : byte_len w ≤ length bytes = ltb-false _ _ g.0 in
    subst (λ (got : ℕ × List ℕ). (bytes ≡ to_be_bytes w got.0 ++ got.1) × (got.0 < limit) × IsBytes got.1) (some_is _ (n, rest) g.1) (
      sym (ap (λ (xs : List ℕ). xs ++ drop (byte_len w) bytes) (front_bytes wide bytes fits long) ∙ take-append-drop (byte_len w) bytes),
      wide.below (take (byte_len w) bytes) (IsBytes-take (byte_len w) bytes fits),
      IsBytes-drop (byte_len w) bytes fits,
    )

pub number_again : {w : Width} {limit : ℕ} (wide : IsWide w limit) (n : ℕ) (rest : List ℕ) → n < limit → number_at w (to_be_bytes w n ++ rest) ≡ Some (n, rest)
unfolding number_at
number_again wide n rest lt = grind (arith, nat_tests, common_steps, le-ltb, length-append, take_at, drop_at)

-- ---- texts with one zero

pub past_other : (b : ℕ) (bytes : List ℕ) → first_zero (suc b ∷ bytes) ≡ 1 + first_zero bytes
past_other b bytes = grind arith

zero_found : (bytes : List ℕ) → first_zero bytes < length bytes → first_zero bytes + 1 ≡ length bytes → IsTextCell (take (first_zero bytes) bytes) bytes
zero_found [] lt e = absurd (omega arith)
zero_found (zero ∷ []) lt e = (refl, refl)
zero_found (zero ∷ b ∷ bytes) lt e = absurd (omega arith)
zero_found (suc b ∷ bytes) lt e =
    let at : first_zero (suc b ∷ bytes) ≡ suc (first_zero bytes) = omega (arith, past_other b bytes) in
    let more = zero_found bytes (omega arith) (omega arith) in
    let len = more.1 in
    subst (λ (k : ℕ). IsTextCell (take k (suc b ∷ bytes)) (suc b ∷ bytes)) (sym at) (
      ap (λ (xs : List ℕ). suc b ∷ xs) more.0,
      omega (arith, past_other b (take (first_zero bytes) bytes)),
    )

text_takes : (bytes : List ℕ) {text : List ℕ} → text_in bytes ≡ Some text → IsTextCell text bytes
unfolding text_in
text_takes bytes {text} e =
    let place = bind_some (position (λ b. eqb b 0) bytes) _ text e in
    let there = test_some (ltb (first_zero bytes) (length bytes)) _ place.1 in
    let last = test_some (eqb (place.0 + 1) (length bytes)) _ place.2 in
    let at : first_zero bytes ≡ place.0 = some_is _ _ there.1 in
    let lt : first_zero bytes < length bytes = ltb-true _ _ there.0 in
    let is : take place.0 bytes ≡ text = some_is _ _ last.1 in
    let end : place.0 + 1 ≡ length bytes = eqb-true _ _ last.0 in
    subst (λ (t : List ℕ). IsTextCell t bytes) (ap (λ (k : ℕ). take k bytes) at ∙ is) (zero_found bytes lt (omega arith))

text_again : (text bytes : List ℕ) → IsTextCell text bytes → text_in bytes ≡ Some text
unfolding text_in
text_again text bytes is = grind (arith, nat_tests, common_steps)

short_text_takes : (limit : ℕ) (bytes : List ℕ) {text : List ℕ} → short_text_in limit bytes ≡ Some text → IsTextCell text bytes × (length text ≤ limit)
unfolding short_text_in
short_text_takes limit bytes {text} e =
    let found = bind_some (text_in bytes) _ text e in
    let bound = guard_some (ltb limit (length found.0)) _ found.2 in
    let is : found.0 ≡ text = some_is _ _ bound.1 in
    let short : length found.0 ≤ limit = ltb-false _ _ bound.0 in
    subst (λ (t : List ℕ). IsTextCell t bytes × (length t ≤ limit)) is (text_takes bytes found.1, short)

pub short_text_again : (limit : ℕ) (text bytes : List ℕ) → IsTextCell text bytes → length text ≤ limit → short_text_in limit bytes ≡ Some text
unfolding short_text_in
short_text_again limit text bytes is short = grind (arith, le-ltb, text_again)

maybe_text_takes : (limit : ℕ) (bytes : List ℕ) {text : Option (List ℕ)} → maybe_text_in limit bytes ≡ Some text → IsMaybeTextCell limit text bytes
unfolding maybe_text_in
maybe_text_takes limit bytes e = grind (arith, some_is, map_some, short_text_takes)

maybe_text_again : (limit : ℕ) (text : Option (List ℕ)) (bytes : List ℕ) → IsMaybeTextCell limit text bytes → maybe_text_in limit bytes ≡ Some text
unfolding maybe_text_in
maybe_text_again limit text bytes is = grind (arith, nat_tests, common_steps, length-append, short_text_again)

-- ---- bytes up to the end

most_takes : (bytes : List ℕ) {some : List ℕ} → at_most_65500 bytes ≡ Some some → (bytes ≡ some) × (length some ≤ 65500)
most_takes bytes e = grind arith

most_again : (some : List ℕ) → length some ≤ 65500 → at_most_65500 some ≡ Some some
most_again some fits = grind arith

counted_takes : (bytes : List ℕ) {some : List ℕ} → IsBytes bytes → counted_in bytes ≡ Some some
    → (bytes ≡ to_be_bytes w16 (length some) ++ some) × (length some ≤ 65500)
unfolding counted_in
counted_takes bytes {some} fits e =
    let size = bind_some (number_at w16 bytes) _ some e in
    let number = number_takes wide16 bytes size.0.0 size.0.1 fits size.1 in
    let same = test_some (eqb size.0.0 (length size.0.1)) _ size.2 in
    let is = most_takes size.0.1 same.1 in
    let len : size.0.0 ≡ length some = eqb-true _ _ same.0 ∙ ap length is.0 in
    (number.0 ∙ ap (λ (k : ℕ). to_be_bytes w16 k ++ size.0.1) len ∙ ap (λ (xs : List ℕ). to_be_bytes w16 (length some) ++ xs) is.0, is.1)

counted_again : (some : List ℕ) → length some ≤ 65500 → counted_in (to_be_bytes w16 (length some) ++ some) ≡ Some some
unfolding counted_in
counted_again some fits = cc (eq-eqb _ _ refl, number_again wide16 (length some) some (omega arith), most_again some fits)

names_take : (bytes : List ℕ) {names : List ℕ × List ℕ} → IsBytes bytes → names_in bytes ≡ Some names → IsCell Names names bytes []
unfolding names_in some_at
names_take bytes {names} fits e =
    let a = bind_some (number_at w8 bytes) _ names e in
    let b = bind_some (number_at w8 a.0.1) _ names a.2 in
    let c = bind_some (some_at a.0.0 b.0.1) _ names b.2 in
    let t0 = number_takes wide8 bytes a.0.0 a.0.1 fits a.1 in
    let t1 = number_takes wide8 a.0.1 b.0.0 b.0.1 t0.2 b.1 in
    let g = guard_some (ltb (length b.0.1) a.0.0) _ c.1 in
    let long : a.0.0 ≤ length b.0.1 = ltb-false _ _ g.0 in
    let same = test_some (eqb b.0.0 (length c.0.1)) _ c.2 in
    let name : take a.0.0 b.0.1 ≡ c.0.0 = ap (λ (x : List ℕ × List ℕ). x.0) (some_is _ c.0 g.1) in
    let rest : drop a.0.0 b.0.1 ≡ c.0.1 = ap (λ (x : List ℕ × List ℕ). x.1) (some_is _ c.0 g.1) in
    let len0 : a.0.0 ≡ length c.0.0 = (let l : a.0.0 ≡ length (take a.0.0 b.0.1) = omega (arith, length-take a.0.0 b.0.1) in l) ∙ ap length name in
    let len1 : b.0.0 ≡ length c.0.1 = eqb-true _ _ same.0 in
    let both : b.0.1 ≡ c.0.0 ++ c.0.1 = sym (take-append-drop a.0.0 b.0.1) ∙ ap (λ (xs : List ℕ). xs ++ drop a.0.0 b.0.1) name
    ∙ ap (λ (xs : List ℕ). c.0.0 ++ xs) rest in
    let front : bytes ≡ a.0.0 ∷ b.0.0 ∷ b.0.1 = t0.0 ∙ ap (λ (xs : List ℕ). xs ++ a.0.1) (byte_text a.0.0 t0.1)
    ∙ ap (λ (xs : List ℕ). a.0.0 ∷ xs) (t1.0 ∙ ap (λ (xs : List ℕ). xs ++ b.0.1) (byte_text b.0.0 t1.1)) in
    let parts : bytes ≡ length c.0.0 ∷ length c.0.1 ∷ c.0.0 ++ c.0.1 = front ∙ (λ i. len0 i ∷ len1 i ∷ both i) in
    subst (λ (x : List ℕ × List ℕ). IsCell Names x bytes []) (some_is _ names same.1) (parts, omega (arith, len0, t0.1), omega (arith, len1, t1.1), refl)

names_again : (names : List ℕ × List ℕ) (bytes : List ℕ) → IsCell Names names bytes [] → names_in bytes ≡ Some names
unfolding names_in some_at
names_again names bytes is =
    let n0 = length names.0 in
    let n1 = length names.1 in
    let front : bytes ≡ to_be_bytes w8 n0 ++ (to_be_bytes w8 n1 ++ (names.0 ++ names.1)) = is.0
    ∙ (λ i. (sym (byte_text n0 is.1) i) ++ ((sym (byte_text n1 is.2) i) ++ (names.0 ++ names.1))) in
    let g : ltb (length (names.0 ++ names.1)) n0 ≡ false = le-ltb _ _ (omega (arith, length-append names.0 names.1)) in
    let same : eqb n1 n1 ≡ true = eq-eqb _ _ refl in
    ap names_in front ∙ rw (
      number_again wide8 n0 (to_be_bytes w8 n1 ++ (names.0 ++ names.1)) is.1,
      number_again wide8 n1 (names.0 ++ names.1) is.2,
      g,
      take_at names.0 names.1 n0 refl,
      drop_at names.0 names.1 n0 refl,
      same,
    ) refl

-- ---- a cell

abbrev Taken : (k : CellKind) → List ℕ → Cell k × List ℕ → Type 0
Taken k bytes x = (text : List ℕ) × (bytes ≡ text ++ x.1) × IsCell k x.0 text x.1 × IsBytes x.1

-- no bytes are bytes
pub no_bytes : IsBytes []
no_bytes i = omega arith

-- what stands up to the end
ended : (k : CellKind) (bytes : List ℕ) (o : Option (Cell k)) {x : Cell k × List ℕ} → ((y : Cell k) → o ≡ Some y → IsCell k y bytes []) → whole o ≡ Some x
    → Taken k bytes x
ended k bytes o {x} is e =
    let found = map_some o _ x e in
    subst (Taken k bytes) found.2 (bytes, sym (append-nil bytes), is found.0 found.1, no_bytes)

cell_takes : (k : CellKind) (bytes : List ℕ) {x : Cell k × List ℕ} → IsBytes bytes → cell_at k bytes ≡ Some x → Taken k bytes x
unfolding some_at
cell_takes Byte bytes {x} fits e = let t = number_takes wide8 bytes x.0 x.1 fits e in (to_be_bytes w8 x.0, t.0, (byte_text x.0 t.1, t.1), t.2)
cell_takes Half bytes {x} fits e = let t = number_takes wide16 bytes x.0 x.1 fits e in (to_be_bytes w16 x.0, t.0, (refl, t.1), t.2)
cell_takes Word bytes {x} fits e = let t = number_takes wide32 bytes x.0 x.1 fits e in (to_be_bytes w32 x.0, t.0, (refl, t.1), t.2)
cell_takes Pad bytes {x} fits e =
    let n = map_some (number_at w8 bytes) _ x e in
    let t = number_takes wide8 bytes n.0.0 n.0.1 fits n.1 in
    subst (Taken Pad bytes) n.2 (to_be_bytes w8 n.0.0, t.0, refl, t.2)
cell_takes (Run n) bytes {x} fits e = grind (arith, nat_tests, common_steps)
cell_takes Text bytes fits e = ended Text bytes (text_in bytes) (λ y found. (text_takes bytes found, refl)) e
cell_takes (MaybeText limit) bytes fits e =
    grind (arith, nat_tests, common_steps, ended (MaybeText limit) bytes (maybe_text_in limit bytes), maybe_text_takes limit bytes)
cell_takes Rest bytes fits e = grind (arith, nat_tests, common_steps)
cell_takes Counted bytes fits e = ended Counted bytes (counted_in bytes) (λ y found. let t = counted_takes bytes fits found in (t.0, t.1, refl)) e
cell_takes Whole bytes fits e = grind (arith, nat_tests, common_steps)
cell_takes Names bytes fits e = ended Names bytes (names_in bytes) (λ y found. names_take bytes fits found) e

at_end : (text : List ℕ) {rest : List ℕ} → rest ≡ [] → text ++ rest ≡ text
at_end text e = rw e (append-nil text)

cell_again : (k : CellKind) (x : Cell k) (text rest : List ℕ) → IsCell k x text rest → cell_at k (text ++ rest) ≡ Some (x, rest)
unfolding some_at number_at
cell_again Byte n text rest is = grind (arith, nat_tests, common_steps)
cell_again Half n text rest is = grind (arith, nat_tests, common_steps)
cell_again Word n text rest is = grind (arith, nat_tests, common_steps)
cell_again Pad pad [] rest is = absurd (omega arith)
cell_again Pad pad (b ∷ []) rest is = grind (arith, nat_tests, common_steps)
cell_again Pad pad (a ∷ b ∷ text) rest is = absurd (omega arith)
cell_again (Run n) run text rest is = grind (arith, nat_tests, common_steps)
cell_again Text t text rest is = rw (at_end text is.1, text_again t text is.0, is.1) refl
cell_again (MaybeText limit) t text rest is = rw (at_end text is.1, maybe_text_again limit t text is.0, is.1) refl
cell_again Rest some text rest is = rw (at_end text is.2, is.0, most_again some is.1, is.2) refl
cell_again Counted some text rest is = rw (at_end text is.2, is.0, counted_again some is.1, is.2) refl
cell_again Whole some text rest is = rw (at_end text is.1, is.0, is.1) refl
cell_again Names names text rest is = grind (arith, nat_tests, common_steps, at_end, names_again)

-- ---- all cells

pub fields_take : (ks : List CellKind) (bytes : List ℕ) (fields : Fields ks) → IsBytes bytes → fields_in ks bytes ≡ Some fields → AreFields ks fields bytes
fields_take [] bytes fields fits e = grind (arith, nat_tests, common_steps)
fields_take (k ∷ ks) bytes fields fits e =
    let first = bind_some (cell_at k bytes) _ fields e in
    let others = bind_some (fields_in ks first.0.1) _ fields first.2 in
    let taken = cell_takes k bytes fits first.1 in
    subst (λ (f : Fields (k ∷ ks)). AreFields (k ∷ ks) f bytes) (some_is _ fields others.2) (
      taken.0,
      first.0.1,
      taken.1,
      taken.2,
      fields_take ks first.0.1 others.0 taken.3 others.1,
    )

pub fields_again : (ks : List CellKind) (fields : Fields ks) (bytes : List ℕ) → AreFields ks fields bytes → fields_in ks bytes ≡ Some fields
fields_again [] fields bytes is = rw is refl
fields_again (k ∷ ks) fields bytes is = grind (arith, nat_tests, common_steps, fields_again ks fields.1 is.1, cell_again)

-- ---- what is written is a text

last_written : (k : CellKind) (x : Cell k) → CellFits k x → IsCell k x (cell_text k x) []
last_written Byte n fits = (refl, fits)
last_written Half n fits = (refl, fits)
last_written Word n fits = (refl, fits)
last_written Pad pad fits = refl
last_written (Run n) run fits = (refl, fits)
last_written Text text fits = ((refl, fits), refl)
last_written (MaybeText limit) None fits = (refl, refl)
last_written (MaybeText limit) (Some text) fits = (((refl, fits.0), fits.1), refl)
last_written Rest some fits = (refl, fits, refl)
last_written Counted some fits = (refl, fits, refl)
last_written Whole some fits = (refl, refl)
last_written Names names fits = (refl, fits.0, fits.1, refl)

cell_written : (k l : CellKind) (ks : List CellKind) (x : Cell k) (rest : List ℕ) → ends_well (k ∷ l ∷ ks) ≡ true → CellFits k x
    → IsCell k x (cell_text k x) rest × (ends_well (l ∷ ks) ≡ true)
cell_written Byte l ks n rest ends fits = ((refl, fits), ends)
cell_written Half l ks n rest ends fits = ((refl, fits), ends)
cell_written Word l ks n rest ends fits = ((refl, fits), ends)
cell_written Pad l ks pad rest ends fits = (refl, ends)
cell_written (Run n) l ks run rest ends fits = ((refl, fits), ends)
cell_written Text l ks text rest ends fits = absurd cc
cell_written (MaybeText limit) l ks text rest ends fits = absurd cc
cell_written Rest l ks some rest ends fits = absurd cc
cell_written Counted l ks some rest ends fits = absurd cc
cell_written Whole l ks some rest ends fits = absurd cc
cell_written Names l ks names rest ends fits = absurd cc

pub fields_written : (ks : List CellKind) (fields : Fields ks) → ends_well ks ≡ true → FieldsFit ks fields → AreFields ks fields (fields_text ks fields)
fields_written [] fields ends fits = refl
fields_written (k ∷ []) fields ends fits = (cell_text k fields.0, [], sym (append-nil (cell_text k fields.0)), last_written k fields.0 fits, refl)
fields_written (k ∷ l ∷ ks) fields ends fits = grind (arith, nat_tests, common_steps, fields_written (l ∷ ks) fields.1, cell_written)
