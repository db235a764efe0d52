-- One ordered pass over three lists: what is ahead of it below an id, and which of the desktop's rows it finds without a base row.
use Rattle.std.proofs.Common.{◌≡◌, ◌≢◌, ◌⊎◌, ⊎_elim, inl, inr, ℕ, zero, suc, ◌+◌, ◌≤◌, ◌<◌, ◌==◌, List, [], ◌∷◌, ◌++◌, refl, ap, ◌∙◌, sym, arith, Option}
use Rattle.std.proofs.Common.{Some, None, Bool, true, false, is_some, length, if◌then◌else◌, slice_get, get_or, take, nat_lt, option_to_list, append-nil}
use Rattle.std.proofs.Common.{append_assoc, rules}
use Rattle.std.specs.List.{find, AllByRecursion}
use Rattle.std.specs.Option.{option_map}
use Rattle.std.proofs.lemmas.Grind.{common_steps}
use Rattle.std.proofs.lemmas.Bool.Decides.{nat_tests}
use Rattle.std.proofs.lemmas.Bool.{cases_lt}
use Rattle.std.proofs.lemmas.List.{take_more, get_or-set_same, get_or-set_other}
use Rattle.std.proofs.Math.Seq.{take-append_seam, take-length}
use Rattle.std.proofs.lemmas.List.Concat.{flat_map-append}
use Rattle.std.proofs.lemmas.List.Folds.{find-append}
use Rattle.pdb_values.specs.declared.record.Record.{Record}
use Rattle.conduit_rules.specs.News.{loose, found_in, noted}
use Rattle.conduit_rules.specs.Runs.{placed_from, placed, under, IsRising, IsRunOf, front_under, IsFrom}
use Rattle.conduit_rules.specs.States.{first}
use Rattle.conduit_rules.proofs.LooseLaws.{is_loose_after, loose-push}
use Rattle.conduit_rules.proofs.RunLaws.{find-under, under-before, first-front, behind_front, rising-behind, under-behind, each-behind, IsAmong}
use Rattle.conduit_rules.proofs.RunLaws.{among-behind, run-has, run-each}

-- what is ahead has every entry of the ids from n on
pub record IsAhead {A : Type 0} (id : A → ℕ) (list : List A) (n : ℕ) (ahead : List (ℕ × A)) : Type 0 where
  pub rising : IsRising id 0 ahead
  pub same : (j : ℕ) → n ≤ j → under id j ahead ≡ under id j (placed list)

pub ahead-start : {A : Type 0} (id : A → ℕ) (list : List A) (run : List (ℕ × A)) → IsRunOf id list run → IsAhead id list 0 run
ahead-start id list run is = record { rising = is.rising; same = λ j l. is.same j }

differ : (i j : ℕ) → i < j → (i == j) ≡ false
differ i j l = grind (arith, nat_tests)

-- the entry of an id in front is passed
pub ahead-pass : {A : Type 0} (id : A → ℕ) (list : List A) (n m i : ℕ) (es : List (ℕ × A)) → IsAhead id list n es → n ≤ m → i < m
    → IsAhead id list m (behind_front id i es)
ahead-pass id list n m i es is more passed = search (rules, rising-behind, under-behind, differ)

-- the first of an id, from n on, is in front
pub ahead-first : {A : Type 0} (id : A → ℕ) (list : List A) (n i : ℕ) (es : List (ℕ × A)) → IsAhead id list n es → n ≤ i → IsFrom id i es
    → find (λ x. id x == i) list ≡ option_map (λ (e : ℕ × A). e.1) (front_under id i es)
ahead-first id list n i es is from least = search (rules, find-under, first-front)

-- no entry bears an id between
pub ahead-none : {A : Type 0} (id : A → ℕ) (list : List A) (n i j : ℕ) (es : List (ℕ × A)) → IsAhead id list n es → n ≤ j → j < i → IsFrom id i es
    → find (λ x. id x == j) list ≡ None
ahead-none id list n i j es is from before least = cc (find-under id j 0 list, is.same j from, under-before id i j 0 es is.rising least before)

pub ahead-end : {A : Type 0} (id : A → ℕ) (list : List A) (n j : ℕ) (es : List (ℕ × A)) → IsAhead id list n es → es ≡ [] → n ≤ j
    → find (λ x. id x == j) list ≡ None
ahead-end id list n j es is ended from = cc (find-under id j 0 list, is.same j from)

-- ---- repeated ids

abbrev rid : Record → ℕ
rid r = r.id

-- an earlier row has its id
abbrev pub is_repeated : List Record → ℕ × Record → Bool
is_repeated rows e = is_some (first e.1.id (take e.0 rows))

abbrev pub AreRepeated : List Record → List (ℕ × Record) → Type 0
AreRepeated rows es = AllByRecursion (λ e. is_repeated rows e ≡ true) es

-- all but the first
abbrev pub FirstIsNew : List Record → List (ℕ × Record) → Type 0
FirstIsNew rows [] = Unit {0}
FirstIsNew rows (e ∷ es) = (is_repeated rows e ≡ false) × AreRepeated rows es

take_front : (pre xs : List Record) → take (length pre) (pre ++ xs) ≡ pre
take_front pre xs = take-append_seam pre xs

some_more : (i : ℕ) (pre : List Record) (x : Record) → is_some (first i pre) ≡ true → is_some (first i (pre ++ x ∷ [])) ≡ true
some_more i pre x some = search (rules, find-append)

some_last : (i : ℕ) (pre : List Record) (x : Record) → (x.id == i) ≡ true → is_some (first i (pre ++ x ∷ [])) ≡ true
some_last i [] x is = grind (arith, common_steps)
some_last i (r ∷ pre) x is = grind (arith, common_steps, some_last i pre x is)

none_last : (i : ℕ) (pre : List Record) (x : Record) → is_some (first i pre) ≡ false → (x.id == i) ≡ false → is_some (first i (pre ++ x ∷ [])) ≡ false
none_last i [] x none is = grind (arith, common_steps)
none_last i (r ∷ pre) x none is = by (r.id == i) none (λ later. none_last i pre x later is)
  where
    by : (b : Bool) → is_some (if b then Some r else first i pre) ≡ false → (is_some (first i pre) ≡ false → is_some (first i (pre ++ x ∷ [])) ≡ false)
        → is_some (if b then Some r else first i (pre ++ x ∷ [])) ≡ false
    by true none rest = none
    by false none rest = rest none

at_place : (rows pre : List Record) (x : Record) (xs : List Record) (i : ℕ) → rows ≡ pre ++ x ∷ xs → (x.id == i) ≡ true
    → is_repeated rows (length pre, x) ≡ is_some (first i pre)
at_place rows pre x xs i whole is = search (rules, take_front)

one_longer : (pre : List Record) (x : Record) → suc (length pre) ≡ length (pre ++ x ∷ [])
one_longer [] x = refl
one_longer (r ∷ pre) x = ap suc (one_longer pre x)

repeated-under : (rows pre xs : List Record) (i : ℕ) → rows ≡ pre ++ xs → is_some (first i pre) ≡ true
    → AreRepeated rows (under rid i (placed_from (length pre) xs))
repeated-under rows pre [] i whole some = tt
repeated-under rows pre (x ∷ xs) i whole some =
    by (x.id == i) refl (rw (one_longer pre x) (repeated-under rows (pre ++ x ∷ []) xs i (whole ∙ sym (append_assoc pre (x ∷ []) xs)) (some_more i pre x some)))
  where
    by : (b : Bool) → (x.id == i) ≡ b → AreRepeated rows (under rid i (placed_from (suc (length pre)) xs))
        → AreRepeated rows (if b then (length pre, x) ∷ under rid i (placed_from (suc (length pre)) xs) else under rid i (placed_from (suc (length pre)) xs))
    by true is later = (at_place rows pre x xs i whole is ∙ some, later)
    by false is later = later

first-under : (rows pre xs : List Record) (i : ℕ) → rows ≡ pre ++ xs → is_some (first i pre) ≡ false
    → FirstIsNew rows (under rid i (placed_from (length pre) xs))
first-under rows pre [] i whole none = tt
first-under rows pre (x ∷ xs) i whole none = by (x.id == i) refl (first-under rows (pre ++ x ∷ []) xs i (whole ∙ sym (append_assoc pre (x ∷ []) xs)))
  where
    next : rows ≡ (pre ++ x ∷ []) ++ xs
    next = whole ∙ sym (append_assoc pre (x ∷ []) xs)

    by : (b : Bool) → (x.id == i) ≡ b → (is_some (first i (pre ++ x ∷ [])) ≡ false → FirstIsNew rows (under rid i (placed_from (length (pre ++ x ∷ [])) xs)))
        → FirstIsNew rows (if b then (length pre, x) ∷ under rid i (placed_from (suc (length pre)) xs) else under rid i (placed_from (suc (length pre)) xs))
    by true is later = (at_place rows pre x xs i whole is ∙ none, rw (one_longer pre x) (repeated-under rows (pre ++ x ∷ []) xs i next (some_last i pre x is)))
    by false is later = rw (one_longer pre x) (later (none_last i pre x none is))

-- of the ids below n all that is ahead is repeated; of the others all but the first
pub record Repeats (rows : List Record) (n : ℕ) (ahead : List (ℕ × Record)) : Type 0 where
  pub old : (j : ℕ) → j < n → AreRepeated rows (under rid j ahead)
  pub new : (j : ℕ) → n ≤ j → FirstIsNew rows (under rid j ahead)

pub repeats-start : (rows : List Record) (run : List (ℕ × Record)) → IsRunOf rid rows run → Repeats rows 0 run
repeats-start rows run is = record {
  old = λ j l. absurd (omega arith);
  new = λ j l. rw (is.same j) (first-under rows [] rows j refl refl);
}

repeated-behind : (rows : List Record) (i j : ℕ) (es : List (ℕ × Record)) → AreRepeated rows (under rid j es)
    → AreRepeated rows (under rid j (behind_front rid i es))
repeated-behind rows i j es all = search (rules)

repeated-first : (rows : List Record) (i low : ℕ) (es : List (ℕ × Record)) → IsRising rid low es → IsFrom rid i es → FirstIsNew rows (under rid i es)
    → AreRepeated rows (under rid i (behind_front rid i es))
repeated-first rows i low [] rising from is = tt
repeated-first rows i low (e ∷ es) rising from is = by (e.1.id == i) refl is
  where
    by : (t : Bool) → (e.1.id == i) ≡ t → FirstIsNew rows (if t then e ∷ under rid i es else under rid i es)
        → AreRepeated rows (under rid i (if t then es else e ∷ es))
    by true here first_new = first_new.1
    by false here first_new =
        let above : suc i ≤ e.1.id = grind (arith, nat_tests, here) in
        rw (under-before rid (suc i) i e.1.id (e ∷ es) (omega arith, rising.1) above (omega arith)) tt

-- the row of an id in front is passed
pub repeats-pass : (rows : List Record) (n m i : ℕ) (es : List (ℕ × Record)) → Repeats rows n es → IsRising rid 0 es → IsFrom rid i es → n ≤ m → i < m
    → (m ≡ n) ⊎ (m ≡ i + 1) → Repeats rows m (behind_front rid i es)
repeats-pass rows n m i es is rising from more passed reach = record {
  old = λ j l. ⊎_elim
      (λ (before : j < n). repeated-behind rows i j es (is.old j before))
      (λ (after : n ≤ j). ⊎_elim
      (λ (less : j < i). rw (under-behind rid i j es (differ_back i j less) ∙ under-before rid i j 0 es rising from less) tt)
      (λ (there : i ≤ j).
      let here : i ≡ j = ⊎_elim (λ (same : m ≡ n). absurd (omega arith)) (λ (one : m ≡ i + 1). omega arith) reach in
      rw (← here) (repeated-first rows i 0 es rising from (is.new i (omega arith))))
      (cases_lt j i))
      (cases_lt j n);
  new = λ j l. rw (under-behind rid i j es (differ i j (omega arith))) (is.new j (omega arith));
}
  where
    differ_back : (i j : ℕ) → j < i → (i == j) ≡ false
    differ_back i j l = grind (arith, nat_tests, l)

-- whether the row in front is repeated
pub front-repeated : (rows : List Record) (n i : ℕ) (es : List (ℕ × Record)) (e : ℕ × Record) → Repeats rows n es → front_under rid i es ≡ Some e
    → is_repeated rows e ≡ nat_lt i n
front-repeated rows n i [] e is front = cc
front-repeated rows n i (x ∷ es) e is front = by (x.1.id == i) refl front (cases_lt i n)
  where
    head_old : (t : Bool) → t ≡ true → AreRepeated rows (if t then x ∷ under rid i es else under rid i es) → is_repeated rows x ≡ true
    head_old true is all = all.0
    head_old false is all = cc

    head_new : (t : Bool) → t ≡ true → FirstIsNew rows (if t then x ∷ under rid i es else under rid i es) → is_repeated rows x ≡ false
    head_new true is all = all.0
    head_new false is all = cc

    by : (t : Bool) → (x.1.id == i) ≡ t → (if t then Some x else None) ≡ Some e → (i < n) ⊎ (n ≤ i) → is_repeated rows e ≡ nat_lt i n
    by true here same (inl before) =
        let found : x ≡ e = cc in
        ap (is_repeated rows) (sym found) ∙ head_old (x.1.id == i) here (is.old i before) ∙ grind (arith, nat_tests, before)
    by true here same (inr after) =
        let found : x ≡ e = cc in
        ap (is_repeated rows) (sym found) ∙ head_new (x.1.id == i) here (is.new i after) ∙ grind (arith, nat_tests, after)
    by false here same order = cc

-- ---- the rows without a base row, by their places

-- what stands at the place of a row
abbrev pub slot_of : (ℕ → Bool) → List Record → ℕ × Record → Option Record
slot_of based rows e = if is_loose_after based (take e.0 rows) e.1.id then Some e.1 else None

-- each row is ahead, or its slot says whether it has a base row
pub record Slotted (based : ℕ → Bool) (rows : List Record) (ahead : List (ℕ × Record)) (slots : List (Option Record)) : Type 0 where
  pub len : length slots ≡ length rows
  pub there : AllByRecursion (λ e. slice_get rows e.0 ≡ Some e.1) ahead
  pub each : (e : ℕ × Record) → slice_get rows e.0 ≡ Some e.1 → IsAmong e ahead ⊎ (get_or slots e.0 None ≡ slot_of based rows e)

placed-has : (p k : ℕ) (xs : List Record) (x : Record) → slice_get xs k ≡ Some x → IsAmong (p + k, x) (placed_from p xs)
placed-has p k [] x e = cc
placed-has p zero (y ∷ xs) x e = let same : y ≡ x = cc in let at_p : p ≡ p + 0 = omega arith in inl (λ i. (at_p i, same i))
placed-has p (suc k) (y ∷ xs) x e =
    let more : suc p + k ≡ p + suc k = omega arith in
    inr (rw more at (placed-has (suc p) k xs x e))

placed-there : (p : ℕ) (pre xs : List Record) → AllByRecursion (λ e. slice_get (pre ++ xs) e.0 ≡ Some e.1) (placed_from (length pre) xs)
placed-there p pre [] = tt
placed-there p pre (x ∷ xs) = (
  here pre,
  rw (append_assoc pre (x ∷ []) xs) at (rw (← one_longer pre x) at (placed-there p (pre ++ x ∷ []) xs)),
)
  where
    here : (pre : List Record) → slice_get (pre ++ x ∷ xs) (length pre) ≡ Some x
    here [] = refl
    here (r ∷ pre) = here pre

pub slotted-start : (based : ℕ → Bool) (rows : List Record) (run : List (ℕ × Record)) (slots : List (Option Record)) → IsRunOf rid rows run
    → length slots ≡ length rows → Slotted based rows run slots
slotted-start based rows run slots is len = record {
  len = len;
  there = run-each rid (λ e. slice_get rows e.0 ≡ Some e.1) rows run is (placed-there 0 [] rows);
  each = λ e at. inl (run-has rid rows run e is (rw (← let none : 0 + e.0 ≡ e.0 = omega arith in none) (placed-has 0 e.0 rows e.1 at)));
}

front-there : (P : ℕ × Record → Type 0) (i : ℕ) (es : List (ℕ × Record)) (e : ℕ × Record) → AllByRecursion P es → front_under rid i es ≡ Some e → P e
front-there P i es e all front = search (rules)

pub front-within : (based : ℕ → Bool) (rows : List Record) (i : ℕ) (es : List (ℕ × Record)) (slots : List (Option Record)) (e : ℕ × Record)
    → Slotted based rows es slots → front_under rid i es ≡ Some e → e.0 < length slots
front-within based rows i es slots e is front =
    omega (arith, is.len, within rows e.0 e.1 (front-there (λ x. slice_get rows x.0 ≡ Some x.1) i es e is.there front))
  where
    within : (xs : List Record) (k : ℕ) (x : Record) → slice_get xs k ≡ Some x → k < length xs
    within [] k x e = cc
    within (y ∷ xs) zero x e = omega arith
    within (y ∷ xs) (suc k) x e = let rest : k < length xs = within xs k x e in omega arith

pub slotted-pass : (based : ℕ → Bool) (rows : List Record) (i : ℕ) (es : List (ℕ × Record)) (slots : List (Option Record)) (is_loose : Bool)
    → Slotted based rows es slots
    → ((e : ℕ × Record) → front_under rid i es ≡ Some e → is_loose ≡ is_loose_after based (take e.0 rows) e.1.id)
    → Slotted based rows (behind_front rid i es) (noted (front_under rid i es) is_loose slots)
slotted-pass based rows i es slots is_loose is says = go (front_under rid i es) refl
  where
    len_noted : (o : Option (ℕ × Record)) → length (noted o is_loose slots) ≡ length slots
    len_noted None = refl
    len_noted (Some e) = grind (arith, common_steps)

    written : (e x : ℕ × Record) → e.0 < length slots → slice_get rows e.0 ≡ Some e.1 → slice_get rows x.0 ≡ Some x.1
        → is_loose ≡ is_loose_after based (take e.0 rows) e.1.id
        → get_or slots x.0 None ≡ slot_of based rows x → get_or (noted (Some e) is_loose slots) x.0 None ≡ slot_of based rows x
    written e x within at_e at_x loose_is was = by (x.0 == e.0) refl
      where
        by : (t : Bool) → (x.0 == e.0) ≡ t → get_or (noted (Some e) is_loose slots) x.0 None ≡ slot_of based rows x
        by true same =
            let place : x.0 ≡ e.0 = grind (arith, nat_tests) in
            let both : Some x.1 ≡ Some e.1 = cc in
            let item : x.1 ≡ e.1 = cc in
            ap (λ p. get_or (noted (Some e) is_loose slots) p None) place
            ∙ get_or-set_same slots e.0 (if is_loose then Some e.1 else None) None within
            ∙ ap (λ b. if b then Some e.1 else None) loose_is
            ∙ ap (slot_of based rows) (λ k. (sym place k, sym item k))
        by false same =
            let other : x.0 ≢ e.0 = λ place. absurd (let h : (x.0 == e.0) ≡ true = grind (arith, nat_tests) in let no : true ≡ false = cc in cc) in
            get_or-set_other slots e.0 x.0 (if is_loose then Some e.1 else None) None other ∙ was

    now_written : (e x : ℕ × Record) → e.0 < length slots → e ≡ x → is_loose ≡ is_loose_after based (take e.0 rows) e.1.id
        → get_or (noted (Some e) is_loose slots) x.0 None ≡ slot_of based rows x
    now_written e x within same loose_is =
        ap (λ (y : ℕ × Record). get_or (noted (Some e) is_loose slots) y.0 None) (sym same)
        ∙ get_or-set_same slots e.0 (if is_loose then Some e.1 else None) None within
        ∙ ap (λ b. if b then Some e.1 else None) loose_is
        ∙ ap (slot_of based rows) same

    ahead : (o : Option (ℕ × Record)) → front_under rid i es ≡ o → (x : ℕ × Record) → slice_get rows x.0 ≡ Some x.1
        → IsAmong x es ⊎ (get_or slots x.0 None ≡ slot_of based rows x)
        → IsAmong x (behind_front rid i es) ⊎ (get_or (noted o is_loose slots) x.0 None ≡ slot_of based rows x)
    ahead None front x at_x (inl there) = ⊎_elim (λ (here : front_under rid i es ≡ Some x). cc) (λ (later : IsAmong x (behind_front rid i es)). inl later)
        (among-behind rid i x es there)
    ahead None front x at_x (inr was) = inr was
    ahead (Some e) front x at_x (inl there) =
        ⊎_elim
        (λ (here : front_under rid i es ≡ Some x).
        let both : Some e ≡ Some x = cc in
        let same : e ≡ x = cc in
        inr (now_written e x (front-within based rows i es slots e is front) same (says e front)))
        (λ (later : IsAmong x (behind_front rid i es)). inl later)
        (among-behind rid i x es there)
    ahead (Some e) front x at_x (inr was) =
        inr (written e x (front-within based rows i es slots e is front) (front-there (λ y. slice_get rows y.0 ≡ Some y.1) i es e is.there front) at_x
        (says e front) was)

    go : (o : Option (ℕ × Record)) → front_under rid i es ≡ o → Slotted based rows (behind_front rid i es) (noted (front_under rid i es) is_loose slots)
    go o front = record {
      len = len_noted (front_under rid i es) ∙ is.len;
      there = each-behind rid (λ e. slice_get rows e.0 ≡ Some e.1) i es is.there;
      each = λ x at_x. ahead (front_under rid i es) refl x at_x (is.each x at_x);
    }

slot_list : (b : Bool) (r : Record) → option_to_list (if b then Some r else None) ≡ (if b then r ∷ [] else [])
slot_list true r = refl
slot_list false r = refl

found_upto : (based : ℕ → Bool) (rows : List Record) (slots : List (Option Record)) → length slots ≡ length rows
    → ((e : ℕ × Record) → slice_get rows e.0 ≡ Some e.1 → get_or slots e.0 None ≡ slot_of based rows e)
    → (k : ℕ) → k ≤ length rows → found_in (take k slots) ≡ loose based (take k rows)
found_upto based rows slots len each zero within = grind (arith, common_steps)
found_upto based rows slots len each (suc k) within = go (at rows k (omega arith)) (found_upto based rows slots len each k (omega arith))
  where
    at : (xs : List Record) (k : ℕ) → k < length xs → (r : Record) × (slice_get xs k ≡ Some r) × (get_or xs k r ≡ r)
    at [] k within = absurd (omega arith)
    at (x ∷ xs) zero within = (x, refl, refl)
    at (x ∷ xs) (suc k) within = at xs k (omega arith)

    go : (r : Record) × (slice_get rows k ≡ Some r) × (get_or rows k r ≡ r) → found_in (take k slots) ≡ loose based (take k rows)
        → found_in (take (suc k) slots) ≡ loose based (take (suc k) rows)
    go found below =
        let r = found.0 in
        let one : suc k ≡ k + 1 = omega arith in
        let slots_more : take (k + 1) slots ≡ take k slots ++ get_or slots k None ∷ [] = take_more slots k None (omega arith) in
        let rows_more : take (k + 1) rows ≡ take k rows ++ r ∷ [] = cc (take_more rows k r (omega arith)) in
        ap (λ n. found_in (take n slots)) one
        ∙ ap found_in slots_more
        ∙ flat_map-append option_to_list (take k slots) (get_or slots k None ∷ [])
        ∙ ap {A = List Record × List Record} (λ p. p.0 ++ p.1)
        (λ j. (
          below j,
          (append-nil (option_to_list (get_or slots k None)) ∙ ap option_to_list (each (k, r) found.1)
              ∙ slot_list (is_loose_after based (take k rows) r.id) r) j,
        ))
        ∙ sym (loose-push based (take k rows) r)
        ∙ ap (loose based) (sym rows_more)
        ∙ ap (λ n. loose based (take n rows)) (sym one)

-- once none is ahead the slots hold the rows without a base row, in their order
pub slotted-end : (based : ℕ → Bool) (rows : List Record) (es : List (ℕ × Record)) (slots : List (Option Record)) → Slotted based rows es slots → es ≡ []
    → found_in slots ≡ loose based rows
slotted-end based rows es slots is ended =
    cc (
      take-length slots,
      found_upto based rows slots is.len
          (λ e at. ⊎_elim (λ (there : IsAmong e es). absurd (rw ended at there)) (λ (was : get_or slots e.0 None ≡ slot_of based rows e). was)
          (is.each e at)) (length rows) (omega arith),
      take-length rows,
    )
