-- How the slot of a handheld is found.
use Rattle.std.proofs.lemmas.Grind.{common_steps}
use Rattle.std.proofs.lemmas.Bool.Decides.{nat_tests}
use Rattle.std.proofs.Common.{◌≡◌, ◌⊎◌, ◌∙◌, ◌<◌, ◌≤◌, ap, refl, sym, subst, inl, inr, arith, ℕ, Bool, true, false, List, []}
use Rattle.std.proofs.Common.{length, get_or}
use Rattle.std.specs.Prelude.{◌≢◌, Option, Some, None, position, slice_get, option_and_then, ◌==◌, ◌&&◌, ◌||◌, not, nat_lt, slice_index, if◌then◌else◌}
use Rattle.std.specs.Option.{option_map_or, option_or}
use Rattle.std.proofs.lemmas.List.{length-map}
use Rattle.std.proofs.lemmas.List.Quantifiers.{position-Some}
use Rattle.pdb_values.specs.Slots.{newcomer as comes_new, slot_at}
use Rattle.pdb_values.specs.declared.slot.Slot.{Slot}
use Rattle.pdb_values.specs.declared.slot.Slot.TheVariants.{New, Old, Refused, Full}
use Rattle.pdb_values.specs.declared.user.Marks.{Marks}
use Rattle.pdb_values.specs.declared.user.UserInfo.{UserInfo}
use Rattle.folder_files.specs.Slots.{AreUsers}
use Rattle.desk_store.specs.Desks.{place_of}
use Rattle.desktop_session.specs.declared.seat.UserWish.{UserWish}
use Rattle.desktop_session.specs.Seats.{has_name, is_another, is_another_at, is_empty, is_nobody, is_other_user, is_same, no_wish, numbers_of, place_known, place_named, place_numbered, seat_for}
use Rattle.session_parts.specs.Meets.{IsSeated}
use Rattle.sync_session.proofs.SeatLaws.{number_at, position-none}

-- ---- a slot that is known

-- no name is asked for, or this one
abbrev pub IsAsked : List ℕ → List ℕ → Type 0
IsAsked name own = (is_empty name ≡ true) ⊎ (is_same own name ≡ true)

-- where no name is asked for, or the own one is, no other one is
pub no_other : (name : List ℕ) (user : ℕ) (own : List ℕ) → IsAsked name own → is_another name user own ≡ false
no_other name user own (inl empty) = rw empty refl
no_other name user own (inr same) = by (is_empty name) (user == 0)
  where
    by : (e n : Bool) → (not e && (not n && not (is_same own name))) ≡ false
    by true n = refl
    by false true = refl
    by false false = rw same refl

no_other_at : (marks : List Marks) (name : List ℕ) (place : ℕ) (slot : Marks) → slice_get marks place ≡ Some slot
    → IsAsked name slot.name → is_another_at marks name (Some place) ≡ false
no_other_at marks name place slot is own =
    ap (λ (o : Option Marks). option_map_or (λ (s : Marks). is_another name s.user s.name) o false) is ∙ no_other name slot.user slot.name own

none_at : (marks : List Marks) (name : List ℕ) (place : Option ℕ) → is_empty name ≡ true → is_another_at marks name place ≡ false
none_at marks name place empty = by (option_and_then (slice_get marks) place)
  where
    by : (o : Option Marks) → option_map_or (λ (s : Marks). is_another name s.user s.name) o false ≡ false
    by None = refl
    by (Some slot) = no_other name slot.user slot.name (inl empty)

-- a handheld that is known at a place has the slot there
pub at_known : (marks : List Marks) (wish : UserWish) (u : UserInfo) (place count : ℕ) (slot : Marks) → place_known marks wish.name u ≡ Some place
    → slice_get marks place ≡ Some slot → is_nobody wish.name u ≡ false → IsAsked wish.name slot.name
    → (u.user == 0) ≡ true ⊎ IsAsked wish.name u.name → place_of count (seat_for marks wish u) ≡ place
at_known marks wish u place count slot known there some own mine =
    let one : is_another wish.name u.user u.name ≡ false = elim mine [
      | inl none ↦ numberless none
      | inr same ↦ no_other wish.name u.user u.name same
    ] in
    let two : is_another_at marks wish.name (place_known marks wish.name u) ≡ false
    = ap (is_another_at marks wish.name) known ∙ no_other_at marks wish.name place slot there own in
    rw (one, two, some, known) refl
  where
    numberless : (u.user == 0) ≡ true → is_another wish.name u.user u.name ≡ false
    numberless none = by (is_empty wish.name)
      where
        by : (e : Bool) → (not e && (not (u.user == 0) && not (is_same u.name wish.name))) ≡ false
        by true = refl
        by false = rw none refl

-- a handheld without a number, for which no name is asked, has slot 0
pub at_nobody : (marks : List Marks) (wish : UserWish) (u : UserInfo) (count : ℕ) → (u.user == 0) ≡ true → is_empty wish.name ≡ true
    → place_of count (seat_for marks wish u) ≡ 0
at_nobody marks wish u count none empty =
    let one : is_another wish.name u.user u.name ≡ false = no_other wish.name u.user u.name (inl empty) in
    let two = none_at marks wish.name (place_known marks wish.name u) empty in
    let nobody : is_nobody wish.name u ≡ true = rw (none, empty) refl in
    rw (one, two, nobody) refl

-- ---- the ways

-- none of the slots passes
abbrev pub NonePasses : (Marks → Bool) → List Marks → Marks → Type 0
NonePasses test marks new = (i : ℕ) → i < length marks → test (get_or marks i new) ≡ false

pub data Found (marks : List Marks) (new : Marks) (name : List ℕ) (h : UserInfo) (own : Marks) (place : ℕ) : Type 0 where
  nobody : (h.user == 0) ≡ true → is_empty name ≡ true → place ≡ 0 → Found marks new name h own place
  named : (h.user == 0) ≡ true → is_empty name ≡ false → has_name name own ≡ true
      → ((i : ℕ) → i < place → has_name name (get_or marks i new) ≡ false) → Found marks new name h own place
  first : (h.user == 0) ≡ true → is_empty name ≡ false → own.user ≡ 0 → NonePasses (has_name name) marks new → Found marks new name h own place
  numbered : (h.user == 0) ≡ false → own.user ≡ h.user → IsAsked name h.name
      → ((i : ℕ) → i < length marks → i ≢ place → ((get_or marks i new).user == h.user) ≡ false) → Found marks new name h own place
  by_name : (h.user == 0) ≡ false → is_empty h.name ≡ false → has_name h.name own ≡ true → IsAsked name h.name
      → NonePasses (λ (slot : Marks). slot.user == h.user) marks new
      → ((i : ℕ) → i < place → has_name h.name (get_or marks i new) ≡ false) → Found marks new name h own place
  newcomer : (h.user == 0) ≡ false → own.user ≡ 0 → IsAsked name h.name → Found marks new name h own place

-- ---- which way it was

either_false : (a b : Bool) → (a || b) ≡ false → a ≡ false
either_false true b is = absurd (let never : true ≡ false = is in cc)
either_false false b is = refl

asked_by : (name : List ℕ) (user : ℕ) (own : List ℕ) → (user == 0) ≡ false → is_another name user own ≡ false → IsAsked name own
asked_by name user own some none = by (is_empty name) refl (is_same own name) refl
  where
    by : (e : Bool) → is_empty name ≡ e → (s : Bool) → is_same own name ≡ s → IsAsked name own
    by true empty s _ = inl empty
    by false full true same = inr same
    by false full false apart = absurd (let never : true ≡ false = sym (rw (full, some, apart) refl) ∙ none in cc)

module _ (marks : List Marks) (new : Marks) (new_none : new.user ≡ 0) (wish : UserWish) (h : UserInfo) (own : Marks) {place : ℕ}
    (are : AreUsers (numbers_of marks)) (some : 1 ≤ length marks)
    (has : place < length marks → own ≡ get_or marks place new) (past : length marks ≤ place → own ≡ new) where
  newcomer_own : (add : Bool) → IsSeated (comes_new (numbers_of marks) add) → place ≡ place_of (length marks) (comes_new (numbers_of marks) add)
      → own.user ≡ 0
  newcomer_own add seated at = by (slice_index (numbers_of marks) 0 == 0) refl add (nat_lt (length (numbers_of marks)) 16) seated at
    where
      by : (b : Bool) → (slice_index (numbers_of marks) 0 == 0) ≡ b → (a l : Bool)
          → IsSeated (if b then Old 0 else if a then (if l then New else Full) else Refused)
          → place ≡ place_of (length marks) (if b then Old 0 else if a then (if l then New else Full) else Refused) → own.user ≡ 0
      by true is a l seated at =
          let mine = has (omega (arith, at, some)) in
          let zero_first : slice_index (numbers_of marks) 0 ≡ 0 = grind (arith, nat_tests, is) in
          ap (λ (s : Marks). s.user) mine ∙ ap (λ n. (get_or marks n new).user) at ∙ sym (number_at marks 0 new (omega (arith, some))) ∙ zero_first
      by false is true true seated at = ap (λ (s : Marks). s.user) (past (omega (arith, at))) ∙ new_none
      by false is true false seated at = absurd seated
      by false is false l seated at = absurd seated

  others_apart : (p : ℕ) → place_numbered marks h.user ≡ Some p → (i : ℕ) → i < length marks → i ≢ p → ((get_or marks i new).user == h.user) ≡ false
  others_apart p found i less differ =
      let at = position-Some (λ (slot : Marks). slot.user == h.user) marks p new found in
      let mine = number_at marks p new at.0 in
      let others = number_at marks i new less in
      let count = length-map marks (λ (slot : Marks). slot.user) in
      grind (arith, common_steps, nat_tests, are i p, are p i)

  pub found : IsSeated (seat_for marks wish h) → place ≡ place_of (length marks) (seat_for marks wish h) → Found marks new wish.name h own place
  found seated at =
      by (is_other_user marks wish.name h) refl (h.user == 0) refl (is_empty wish.name) refl (place_numbered marks h.user) refl
      (is_empty h.name) refl seated at
    where
      seat : Bool → Bool → Bool → Option ℕ → Bool → Slot
      seat o n e k f =
          if o then Refused else if n && e then Old 0
          else slot_at (if n then (if e then None else position (has_name wish.name) marks)
          else option_or k (if f then None else position (has_name h.name) marks)) (numbers_of marks) wish.add

      named_at : (name : List ℕ) (k : Option ℕ) → position (has_name name) marks ≡ k → IsSeated (slot_at k (numbers_of marks) wish.add)
          → place ≡ place_of (length marks) (slot_at k (numbers_of marks) wish.add)
          → ((has_name name own ≡ true) × ((i : ℕ) → i < place → has_name name (get_or marks i new) ≡ false))
          ⊎ ((own.user ≡ 0) × ((i : ℕ) → i < length marks → has_name name (get_or marks i new) ≡ false))
      named_at name (Some p) is seated at =
          let found = position-Some (has_name name) marks p new is in
          let mine = has (omega (arith, at, found.0)) in
          inl (
            ap (has_name name) mine ∙ ap (λ n. has_name name (get_or marks n new)) at ∙ found.1,
            λ i less. found.2 i (omega (arith, at, less)),
          )
      named_at name None is seated at = inr (newcomer_own wish.add seated at, position-none (has_name name) marks new is)

      by : (o : Bool) → is_other_user marks wish.name h ≡ o → (n : Bool) → (h.user == 0) ≡ n → (e : Bool) → is_empty wish.name ≡ e
          → (k : Option ℕ) → place_numbered marks h.user ≡ k → (f : Bool) → is_empty h.name ≡ f
          → IsSeated (seat o n e k f) → place ≡ place_of (length marks) (seat o n e k f) → Found marks new wish.name h own place
      by true is n _ e _ k _ f _ seated at = absurd seated
      by false is true none true empty k _ f _ seated at = nobody none empty at
      by false is true none false full k _ f _ seated at = elim (named_at wish.name (position (has_name wish.name) marks) refl seated at) [
        | inl there ↦ named none full there.0 there.1
        | inr nowhere ↦ first none full nowhere.0 nowhere.1
      ]
      by false is false number e _ (Some p) there f _ seated at =
          let found = position-Some (λ (slot : Marks). slot.user == h.user) marks p new there in
          let mine : own ≡ get_or marks p new = has (omega (arith, at, found.0)) ∙ ap (λ n. get_or marks n new) at in
          let own_user : own.user ≡ h.user = ap (λ (s : Marks). s.user) mine ∙ (let same = found.1 in grind (arith, nat_tests, same)) in
          numbered number own_user (asked_by wish.name h.user h.name number (either_false _ _ is))
          (λ i less differ. others_apart p there i less (λ same. differ (same ∙ sym at)))
      by false is false number e _ None nowhere true empty seated at =
          newcomer number (newcomer_own wish.add seated at) (asked_by wish.name h.user h.name number (either_false _ _ is))
      by false is false number e _ None nowhere false full seated at =
          elim (named_at h.name (position (has_name h.name) marks) refl seated at) [
            | inl there ↦ by_name number full there.0 (asked_by wish.name h.user h.name number (either_false _ _ is))
                (position-none (λ (slot : Marks). slot.user == h.user) marks new nowhere) there.1
            | inr none ↦ newcomer number none.0 (asked_by wish.name h.user h.name number (either_false _ _ is))
          ]

-- ---- where it is, whatever may be added

known_near : (marks : List Marks) (name : List ℕ) (h : UserInfo) (k : ℕ) → place_known marks name h ≡ Some k → k < length marks
known_near marks name h k is =
    by (h.user == 0) (place_numbered marks h.user) refl (is_empty name) (position (has_name name) marks) refl (is_empty h.name)
    (position (has_name h.name) marks) refl is
  where
    within : (test : Marks → Bool) (o : Option ℕ) → position test marks ≡ o → o ≡ Some k → k < length marks
    within test (Some p) at is =
        let here : p ≡ k = cc in
        subst (λ n. n < length marks) here (position-Some test marks p (record { pc = 0; user = 0; last = 0; name = [] }) at).0
    within test None at is = absurd (let never : ⊥ = cc in never)

    by : (n : Bool) (o : Option ℕ) → place_numbered marks h.user ≡ o → (e : Bool) (q : Option ℕ) → position (has_name name) marks ≡ q
        → (f : Bool) (r : Option ℕ) → position (has_name h.name) marks ≡ r
        → (if n then (if e then None else q) else option_or o (if f then None else r)) ≡ Some k → k < length marks
    by true o _ true q _ f r _ is = absurd (let never : ⊥ = cc in never)
    by true o _ false q at f r _ is = within (has_name name) q at is
    by false (Some p) at e q _ f r _ is = within (λ (slot : Marks). slot.user == h.user) (Some p) at is
    by false None _ e q _ true r _ is = absurd (let never : ⊥ = cc in never)
    by false None _ e q _ false r at is = within (has_name h.name) r at is

pub place-near : (marks : List Marks) (wish : UserWish) (h : UserInfo) (count : ℕ) → length marks ≡ count → place_of count (seat_for marks wish h) ≤ count
place-near marks wish h count same = by (is_other_user marks wish.name h) (is_nobody wish.name h) (place_known marks wish.name h) refl
  where
    new_near : (b a l : Bool) → place_of count (if b then Old 0 else if a then (if l then New else Full) else Refused) ≤ count
    new_near true a l = omega arith
    new_near false true true = omega arith
    new_near false true false = omega arith
    new_near false false l = omega arith

    by : (o n : Bool) (k : Option ℕ) → place_known marks wish.name h ≡ k
        → place_of count (if o then Refused else if n then Old 0 else slot_at k (numbers_of marks) wish.add) ≤ count
    by true n k _ = omega arith
    by false true k _ = omega arith
    by false false (Some p) is = let less = known_near marks wish.name h p is in omega (arith, less, same)
    by false false None _ = new_near (slice_index (numbers_of marks) 0 == 0) wish.add (nat_lt (length (numbers_of marks)) 16)

-- whether a user may be added changes no place
any_slot : (count : ℕ) (k : Option ℕ) (numbers : List ℕ) (add other : Bool)
    → place_of count (slot_at k numbers add) ≡ place_of count (slot_at k numbers other)
any_slot count (Some p) numbers add other = refl
any_slot count None numbers add other = by (slice_index numbers 0 == 0) add other (nat_lt (length numbers) 16)
  where
    by : (b a c l : Bool) → place_of count (if b then Old 0 else if a then (if l then New else Full) else Refused)
        ≡ place_of count (if b then Old 0 else if c then (if l then New else Full) else Refused)
    by true a c l = refl
    by false true true l = refl
    by false true false true = refl
    by false true false false = refl
    by false false true true = refl
    by false false true false = refl
    by false false false l = refl

pub same_seat : (marks : List Marks) (count : ℕ) (wish other : UserWish) (h u : UserInfo) → other.name ≡ wish.name → u.user ≡ h.user → u.name ≡ h.name
    → place_of count (seat_for marks other u) ≡ place_of count (seat_for marks wish h)
same_seat marks count wish other h u asks user name =
    (λ i. place_of count (seat_for marks (record { name = asks i; add = other.add }) (record u { user = user i; name = name i })))
    ∙ any (is_other_user marks wish.name h) (is_nobody wish.name h) (place_known marks wish.name h)
  where
    any : (o n : Bool) (k : Option ℕ) → place_of count (if o then Refused else if n then Old 0 else slot_at k (numbers_of marks) other.add)
        ≡ place_of count (if o then Refused else if n then Old 0 else slot_at k (numbers_of marks) wish.add)
    any true n k = refl
    any false true k = refl
    any false false k = any_slot count k (numbers_of marks) other.add wish.add

-- a handheld that has a number and a slot has that one whatever name is asked for
unnamed_slot : (o n e : Bool) (asked known : Option ℕ) (numbers : List ℕ) (add : Bool) → o ≡ false → n ≡ false
    → (if o then Refused else if n && e then Old 0 else slot_at (if n then asked else known) numbers add) ≡ slot_at known numbers add
unnamed_slot true n e asked known numbers add is number = absurd (let never : true ≡ false = is in cc)
unnamed_slot false true e asked known numbers add is number = absurd (let never : true ≡ false = number in cc)
unnamed_slot false false e asked known numbers add is number = refl

not_refused : (o : Bool) (found : Slot) → IsSeated (if o then Refused else found) → o ≡ false
not_refused true found seated = absurd seated
not_refused false found seated = refl

pub unnamed_seat : (marks : List Marks) (count : ℕ) (wish : UserWish) (u : UserInfo) → (u.user == 0) ≡ false → IsSeated (seat_for marks wish u)
    → place_of count (seat_for marks no_wish u) ≡ place_of count (seat_for marks wish u)
unnamed_seat marks count wish u number seated =
    let own = not_refused (is_other_user marks wish.name u)
    (if is_nobody wish.name u then Old 0 else slot_at (place_known marks wish.name u) (numbers_of marks) wish.add) seated in
    ap (place_of count) (unnamed_slot (is_other_user marks [] u) (u.user == 0) true None known (numbers_of marks) false none number)
    ∙ any_slot count known (numbers_of marks) false wish.add
    ∙ sym (ap (place_of count)
    (unnamed_slot (is_other_user marks wish.name u) (u.user == 0) (is_empty wish.name) (place_named marks wish.name) known (numbers_of marks) wish.add own number))
  where
    known : Option ℕ
    known = option_or (place_numbered marks u.user) (place_named marks u.name)

    none : is_other_user marks [] u ≡ false
    none = none_at marks [] (place_known marks [] u) refl
