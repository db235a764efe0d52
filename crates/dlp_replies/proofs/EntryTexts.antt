-- What is read as entries is a text of them, and each text of entries is read.
use Rattle.std.proofs.lemmas.Bool.Decides.{nat_tests}
use Rattle.std.proofs.lemmas.Grind.{common_steps}
use Rattle.std.proofs.Common.{◌≡◌, ℕ, zero, suc, ◌≤◌, Bool, false, cond, ltb, List, [], ◌∷◌, ◌++◌, length, take, drop, Option, Some, None, refl, sym, ap, subst}
use Rattle.std.proofs.Common.{◌∙◌, arith}
use Rattle.std.specs.Int.{w8}
use Rattle.std.proofs.lemmas.Bool.{ltb-false, le-ltb}
use Rattle.std.proofs.lemmas.List.{length-append, length-take, take_at, drop_at, take-append-drop}
use Rattle.dlp_args.proofs.NumberLaws.{IsBytes, IsBytes-drop, IsBytes-take}
use Rattle.dlp_args.specs.Fields.{fields_in, AreFields}
use Rattle.dlp_args.specs.CellReading.{number_at, some_at}
use Rattle.dlp_args.proofs.CellLaws.{bind_some, some_is, fields_take, fields_again}
use Rattle.dlp_replies.specs.EntryLists.{entry, Row}
use Rattle.dlp_replies.specs.EntryReading.{entry_at, rows_in, AreRows}

byte_at : (n : ℕ) (rest : List ℕ) → number_at w8 (n ∷ rest) ≡ Some (n, rest)
unfolding number_at
byte_at n rest = grind arith

no_guard : {A : Type 0} (b : Bool) (o : Option A) (y : A) → cond b None o ≡ Some y → (b ≡ false) × (o ≡ Some y)
no_guard b o y e = grind arith

-- the first cell is the first byte
first_cell : (byte : ℕ) (bytes : List ℕ) (row : Row) → fields_in entry (byte ∷ bytes) ≡ Some row → byte ≡ row.0
first_cell byte bytes row e = grind (arith, nat_tests, common_steps, bind_some, some_is, byte_at)

no_cells : (row : Row) → fields_in entry [] ≡ Some row → ⊥
unfolding number_at
no_cells row e = absurd cc

abbrev EntryTaken : List ℕ → Row × List ℕ → Type 0
EntryTaken bytes x = (text : List ℕ) × (bytes ≡ text ++ x.1) × AreFields entry x.0 text × (x.0.0 ≡ length text) × IsBytes x.1

sized_cells : (byte size : ℕ) (bytes : List ℕ) (row : Row) → size ≡ byte → fields_in entry (take size (byte ∷ bytes)) ≡ Some row → byte ≡ row.0
sized_cells byte size bytes row same e = grind (arith, nat_tests, common_steps, no_cells, first_cell)

entry_takes : (bytes : List ℕ) (x : Row × List ℕ) → IsBytes bytes → entry_at bytes ≡ Some x → EntryTaken bytes x
unfolding entry_at some_at number_at
entry_takes [] x fits e = absurd cc
entry_takes (byte ∷ bytes) x fits e =
    let size = bind_some (number_at w8 (byte ∷ bytes)) _ x e in
    let n = size.0.0 in
    let whole = bind_some (some_at n (byte ∷ bytes)) _ x size.2 in
    let row = bind_some (fields_in entry whole.0.0) _ x whole.2 in
    let g = no_guard (ltb (length (byte ∷ bytes)) n) _ whole.0 whole.1 in
    let long : n ≤ length (byte ∷ bytes) = ltb-false _ _ g.0 in
    let parts : (take n (byte ∷ bytes), drop n (byte ∷ bytes)) ≡ whole.0 = some_is _ whole.0 g.1 in
    let cells : fields_in entry (take n (byte ∷ bytes)) ≡ Some row.0 = ap (λ (y : List ℕ × List ℕ). fields_in entry y.0) parts ∙ row.1 in
    let byte-is : byte ≡ n = ap (λ (y : ℕ × List ℕ). y.0) (some_is (byte, bytes) size.0 (sym (byte_at byte bytes) ∙ size.1)) in
    let first : byte ≡ row.0.0 = sized_cells byte n bytes row.0 (sym byte-is) cells in
    let len : length (take n (byte ∷ bytes)) ≡ n = omega (arith, length-take n (byte ∷ bytes)) in
    let said : row.0.0 ≡ length (take n (byte ∷ bytes)) = sym first ∙ byte-is ∙ sym len in
    let last : (row.0, whole.0.1) ≡ x = some_is (row.0, whole.0.1) x row.2 in
    let rest : drop n (byte ∷ bytes) ≡ whole.0.1 = ap (λ (y : List ℕ × List ℕ). y.1) parts in
    let is : (row.0, drop n (byte ∷ bytes)) ≡ x = subst (λ (xs : List ℕ). (row.0, xs) ≡ x) (sym rest) last in
    subst (EntryTaken (byte ∷ bytes)) is (
      take n (byte ∷ bytes),
      sym (take-append-drop n (byte ∷ bytes)),
      fields_take entry (take n (byte ∷ bytes)) row.0 (IsBytes-take n (byte ∷ bytes) fits) cells,
      said,
      IsBytes-drop n (byte ∷ bytes) fits,
    )

pub entry_again : (row : Row) (text rest : List ℕ) → AreFields entry row text → row.0 ≡ length text → entry_at (text ++ rest) ≡ Some (row, rest)
unfolding entry_at some_at
entry_again row text rest is size =
    let front : text ≡ row.0 ∷ is.1 = is.2 ∙ ap (λ (xs : List ℕ). xs ++ is.1) is.3.0 in
    let first : number_at w8 (text ++ rest) ≡ Some (row.0, is.1 ++ rest) = ap (λ (xs : List ℕ). number_at w8 (xs ++ rest)) front
    ∙ byte_at row.0 (is.1 ++ rest) in
    let g : ltb (length (text ++ rest)) row.0 ≡ false = le-ltb _ _ (omega (arith, length-append text rest, size)) in
    let read : fields_in entry text ≡ Some row = fields_again entry row text is in
    rw (first, g, take_at text rest row.0 (sym size), drop_at text rest row.0 (sym size), read) refl

pub rows_take : (count : ℕ) (bytes : List ℕ) (rows : List Row) → IsBytes bytes → rows_in count bytes ≡ Some rows → (length rows ≡ count) × AreRows rows bytes
unfolding rows_in
rows_take zero bytes rows fits e = grind (arith, nat_tests, common_steps)
rows_take (suc count) bytes rows fits e =
    let first = bind_some (entry_at bytes) _ rows e in
    let others = bind_some (rows_in count first.0.1) _ rows first.2 in
    let taken = entry_takes bytes first.0 fits first.1 in
    let more = rows_take count first.0.1 others.0 taken.4 others.1 in
    subst (λ (xs : List Row). (length xs ≡ suc count)
    × AreRows xs bytes) (some_is _ rows others.2) (ap (λ (n : ℕ). suc n) more.0, (taken.0, first.0.1, taken.1, taken.2, taken.3, more.1))

pub rows_again : (rows : List Row) (bytes : List ℕ) → AreRows rows bytes → rows_in (length rows) bytes ≡ Some rows
unfolding rows_in
rows_again [] bytes is = rw is refl
rows_again (row ∷ rows) bytes is = grind (arith, nat_tests, common_steps, is.1, is.2, entry_again row is.0 is.1 is.3 is.4, rows_again rows is.1 is.5)
