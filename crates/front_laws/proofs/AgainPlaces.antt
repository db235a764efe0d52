-- Once a session has ended in a handheld's slot, that slot is found again, for the handheld as it was and as it is then.
use Rattle.std.proofs.lemmas.Bool.Decides.{nat_tests}
use Rattle.std.proofs.Common.{◌≡◌, ◌⊎◌, ◌∙◌, ◌<◌, ◌≤◌, ap, refl, sym, subst, inl, inr, arith, ℕ, zero, suc, Bool, true, false, List, [], ◌∷◌}
use Rattle.std.proofs.Common.{length, get_or}
use Rattle.std.specs.Prelude.{◌≢◌, Some, None, slice_get, ◌==◌, ◌&&◌, ◌||◌, not, if◌then◌else◌}
use Rattle.std.specs.List.{list_any}
use Rattle.std.specs.Option.{option_or}
use Rattle.std.proofs.lemmas.List.{length-map}
use Rattle.std.proofs.lemmas.List.Folds.{list_any_at}
use Rattle.pdb_values.specs.declared.user.Marks.{Marks}
use Rattle.pdb_values.specs.declared.user.UserInfo.{UserInfo}
use Rattle.pdb_values.proofs.NamedLaws.{bytes_eq-own}
use Rattle.folder_files.specs.Slots.{AreSlots}
use Rattle.desk_store.specs.Desks.{place_of}
use Rattle.desk_store.specs.Shelves.{SlotValue, marks_of, new_slot, number_of, slot_at as desk_slot}
use Rattle.desk_store.proofs.SlotListLaws.{marks-length}
use Rattle.desktop_session.specs.declared.seat.UserWish.{UserWish}
use Rattle.desktop_session.specs.Seats.{has_name, is_empty, is_nobody, is_same, numbers_of, place_known, place_named, place_numbered, seat_for}
use Rattle.session_parts.specs.Meets.{IsSeated}
use Rattle.session_plan.specs.Losses.{is_stranger_to}
use Rattle.session_plan.specs.Numbers.{is_taken}
use Rattle.session_plan.specs.Users.{agreed_name, begins_life, done_marks, gets_number, has_name_too, has_own_name, is_named_first, kept_user, other_user, slots_user_stays}
use Rattle.session_plan.specs.declared.wishes.Wishes.{Wishes}
use Rattle.session_plan.proofs.NumberLaws.{number_is_free, number_is_some}
use Rattle.sync_session.proofs.SeatLaws.{number_at, seat-picked}
use Rattle.front_laws.proofs.FoundPlaces.{Found, IsAsked, NonePasses, at_known, at_nobody, found, place-near}
use Rattle.front_laws.proofs.FoundPlaces.{by_name, first, named, newcomer, nobody, numbered}
use Rattle.front_laws.proofs.PickLaws.{base, base-other, base-there, got-set, placed, position-set, position-set_none}

-- ---- it is found again

-- as it was, or as it is then
abbrev pub IsKnownAs : UserInfo → UserInfo → Marks → Type 0
IsKnownAs u h done = ((u.user ≡ h.user) × (u.name ≡ h.name)) ⊎ ((u.user ≡ done.user) × (u.name ≡ done.name))

-- the same name is asked for, or none for a handheld that has a number
abbrev pub AsksAgain : List ℕ → List ℕ → ℕ → Type 0
AsksAgain name other user = (other ≡ name) ⊎ ((other ≡ []) × ((user == 0) ≡ false))

asked_too : (name other own : List ℕ) (user : ℕ) → AsksAgain name other user → IsAsked name own → IsAsked other own
asked_too name other own user (inl same) asked = subst (λ n. IsAsked n own) (sym same) asked
asked_too name other own user (inr none) asked = inl (ap is_empty none.0)

asked_same : (name other : List ℕ) (user : ℕ) → AsksAgain name other user → (user == 0) ≡ true → other ≡ name
asked_same name other user (inl same) is = same
asked_same name other user (inr none) is = absurd (let never : true ≡ false = sym is ∙ none.1 in cc)

module _ (marks : List Marks) (new : Marks) (date : ℕ) (name : List ℕ) (h : UserInfo) (own : Marks) (place : ℕ) (near : place ≤ length marks)
    (few : length marks ≤ 16)
    (free : (i : ℕ) → i < length marks → i ≢ place → ((get_or marks i new).user == (done_marks date name marks h own).user) ≡ false) where
  abbrev done : Marks
  done = done_marks date name marks h own

  abbrev after : List Marks
  after = placed marks place new done

  there : slice_get after place ≡ Some done
  there = got-set (base marks place new near) place done (base-there marks place new near)

  numbers-length : length (numbers_of marks) ≡ length marks
  numbers-length = length-map marks (λ (slot : Marks). slot.user)

  -- a new number is none, and not the handheld's
  new_free : is_taken (h.user ∷ numbers_of marks) (other_user date name marks h own) ≡ false
  new_free = number_is_free date (agreed_name name h own) own.user (h.user ∷ numbers_of marks) (omega (arith, few, numbers-length))

  new_some : (other_user date name marks h own == 0) ≡ false
  new_some = let some = number_is_some date (agreed_name name h own) own.user (h.user ∷ numbers_of marks) in grind (arith, nat_tests, some)

  new_other : (other_user date name marks h own == h.user) ≡ false
  new_other = by (h.user == other_user date name marks h own) refl
    where
      by : (b : Bool) → (h.user == other_user date name marks h own) ≡ b → (other_user date name marks h own == h.user) ≡ false
      by true is = absurd (let never : true ≡ false = sym (ap (λ b. b || is_taken (numbers_of marks) (other_user date name marks h own)) is) ∙ new_free in cc)
      by false is = grind (arith, nat_tests, is)

  -- by its number
  number_again : (n : ℕ) → n ≡ done.user → place_numbered after n ≡ Some place
  number_again n same =
      position-set (λ (slot : Marks). slot.user == n) (base marks place new near) place done new (grind (arith, nat_tests, same))
      (base-there marks place new near) (λ i less.
      let other = base-other marks place new near i new (let l = base-there marks place new near in omega (arith, l, less)) (λ is. omega (arith, is, less)) in
      ap (λ (s : Marks). s.user == n) other.1 ∙ ap (λ k. (get_or marks i new).user == k) same ∙ free i other.0 (λ is. omega (arith, is, less)))

  number_gone : (n : ℕ) → (done.user == n) ≡ false
      → ((i : ℕ) → i < length marks → i ≢ place → ((get_or marks i new).user == n) ≡ false) → place_numbered after n ≡ None
  number_gone n differs others =
      position-set_none (λ (slot : Marks). slot.user == n) (base marks place new near) place done new differs (λ i less differ.
      let other = base-other marks place new near i new less differ in ap (λ (s : Marks). s.user == n) other.1 ∙ others i other.0 differ)

  -- by its name
  name_again : (own_name : List ℕ) → is_empty own_name ≡ false → has_name own_name done ≡ true
      → ((i : ℕ) → i < place → has_name own_name (get_or marks i new) ≡ false) → place_named after own_name ≡ Some place
  name_again own_name some here before =
      rw some (position-set (has_name own_name) (base marks place new near) place done new here (base-there marks place new near) (λ i less.
      let other = base-other marks place new near i new (let l = base-there marks place new near in omega (arith, l, less)) (λ is. omega (arith, is, less)) in
      ap (has_name own_name) other.1 ∙ before i less))

  module _ (other : UserWish) (u : UserInfo) (asks : AsksAgain name other.name u.user) (count : ℕ) where
    -- a handheld that has the number
    numbered_again : (done.user == 0) ≡ false → u.user ≡ done.user → IsAsked name done.name → IsAsked name u.name
        → place_of count (seat_for after other u) ≡ place
    numbered_again some same own_asked mine =
        let number : (u.user == 0) ≡ false = ap (λ n. n == 0) same ∙ some in
        let known : place_known after other.name u ≡ Some place = rw number (ap (λ o. option_or o (place_named after u.name)) (number_again u.user same)) in
        let nobody : is_nobody other.name u ≡ false = rw number refl in
        at_known after other u place count done known there nobody (asked_too name other.name done.name u.user asks own_asked) (inr (asked_too name other.name u.name u.user asks mine))

    -- one that has another number, and the name
    named_again : (u.user == 0) ≡ false → (done.user == u.user) ≡ false
        → ((i : ℕ) → i < length marks → i ≢ place → ((get_or marks i new).user == u.user) ≡ false) → is_empty u.name ≡ false
        → has_name u.name done ≡ true → ((i : ℕ) → i < place → has_name u.name (get_or marks i new) ≡ false) → IsAsked name done.name
        → IsAsked name u.name → place_of count (seat_for after other u) ≡ place
    named_again number differs others some here before own_asked mine =
        let known : place_known after other.name u ≡ Some place =
        rw number (rw (number_gone u.user differs others) (name_again u.name some here before)) in
        let nobody : is_nobody other.name u ≡ false = rw number refl in
        at_known after other u place count done known there nobody (asked_too name other.name done.name u.user asks own_asked) (inr (asked_too name other.name u.name u.user asks mine))

    -- one without a number, for which the name is asked
    asked_again : (u.user == 0) ≡ true → is_empty name ≡ false → has_name name done ≡ true
        → ((i : ℕ) → i < place → has_name name (get_or marks i new) ≡ false) → IsAsked name done.name → place_of count (seat_for after other u) ≡ place
    asked_again none some here before own_asked =
        let same = asked_same name other.name u.user asks none in
        let known : place_known after other.name u ≡ Some place = rw (none, same) (name_again name some here before) in
        let nobody : is_nobody other.name u ≡ false = rw (none, same, some) refl in
        at_known after other u place count done known there nobody (asked_too name other.name done.name u.user asks own_asked) (inl none)

  -- ---- each way

  true_both : (a b : Bool) → (a && b) ≡ true → (a ≡ true) × (b ≡ true)
  true_both true true is = (refl, refl)
  true_both true false is = absurd (let no : false ≡ true = is in cc)
  true_both false b is = absurd (let no : false ≡ true = is in cc)

  apart_false : (a b : Bool) → (a && not b) ≡ false → b ≡ false → a ≡ false
  apart_false true b is none = absurd (let no : true ≡ false = sym (ap not none) ∙ is in cc)
  apart_false false b is none = refl

  bool_not : (b : Bool) → not b ≡ true → b ≡ false
  bool_not true is = absurd (let no : false ≡ true = is in cc)
  bool_not false is = refl

  same_name : (a b : List ℕ) → a ≡ b → is_same a b ≡ true
  same_name a b is = rw is (bytes_eq-own b)

  module _ (other : UserWish) (u : UserInfo) (asks : AsksAgain name other.name u.user) (count : ℕ) (known : IsKnownAs u h done) where
    -- neither side's number is asked for
    place_nobody : (h.user == 0) ≡ true → is_empty name ≡ true → place ≡ 0 → place_of count (seat_for after other u) ≡ place
    place_nobody none empty at = by (u.user == 0) refl known
      where
        by : (b : Bool) → (u.user == 0) ≡ b → IsKnownAs u h done → place_of count (seat_for after other u) ≡ place
        by true is either = at_nobody after other u count is (rw (asked_same name other.name u.user asks is) empty) ∙ sym at
        by false is (inl same) = absurd (let never : true ≡ false = sym (ap (λ n. n == 0) same.0 ∙ none) ∙ is in cc)
        by false is (inr same) =
            numbered_again other u asks count (sym (ap (λ n. n == 0) same.0) ∙ is) same.0 (inl empty) (inl empty)

    -- a handheld without a number, for which the name is asked
    place_asked : (h.user == 0) ≡ true → is_empty name ≡ false → (done.user == 0) ≡ false → is_same done.name name ≡ true
        → ((i : ℕ) → i < place → has_name name (get_or marks i new) ≡ false) → place_of count (seat_for after other u) ≡ place
    place_asked none some number same before = elim known [
      | inl was ↦ asked_again other u asks count (ap (λ n. n == 0) was.0 ∙ none) some (rw (number, same) refl) before (inr same)
      | inr is ↦ numbered_again other u asks count number is.0 (inr same) (inr (ap (λ n. is_same n name) is.1 ∙ same))
    ]

    -- one that keeps its number
    place_kept : (h.user == 0) ≡ false → done.user ≡ h.user → done.name ≡ h.name → IsAsked name h.name → place_of count (seat_for after other u) ≡ place
    place_kept number user_is name_is asked =
        let own : IsAsked name done.name = rw name_is asked in
        elim known [
          | inl was ↦ numbered_again other u asks count (ap (λ n. n == 0) user_is ∙ number) (was.0 ∙ sym user_is) own
              (subst (IsAsked name) (sym was.1) asked)
          | inr is ↦ numbered_again other u asks count (ap (λ n. n == 0) user_is ∙ number) is.0 own (subst (IsAsked name) (sym is.1) own)
        ]

    -- one that gets another, and is found by its name
    place_new : (h.user == 0) ≡ false → (done.user == 0) ≡ false → (done.user == h.user) ≡ false → done.name ≡ h.name → is_empty h.name ≡ false
        → ((i : ℕ) → i < length marks → i ≢ place → ((get_or marks i new).user == h.user) ≡ false)
        → ((i : ℕ) → i < place → has_name h.name (get_or marks i new) ≡ false) → IsAsked name h.name → place_of count (seat_for after other u) ≡ place
    place_new number some differs name_is full others before asked =
        let own : IsAsked name done.name = rw name_is asked in
        elim known [
          | inl was ↦ named_again other u asks count (ap (λ n. n == 0) was.0 ∙ number) (ap (λ n. done.user == n) was.0 ∙ differs)
              (λ i less differ. ap (λ n. (get_or marks i new).user == n) was.0 ∙ others i less differ) (ap is_empty was.1 ∙ full)
              (rw (was.1, some, name_is) (same_name h.name h.name refl)) (λ i less. ap (λ n. has_name n (get_or marks i new)) was.1 ∙ before i less) own
              (subst (IsAsked name) (sym was.1) asked)
          | inr is ↦ numbered_again other u asks count some is.0 own (subst (IsAsked name) (sym is.1) own)
        ]

  -- ---- what both sides agree on

  user_new : gets_number marks name h own ≡ true → done.user ≡ other_user date name marks h own
  user_new is = ap (λ b. if b then other_user date name marks h own else kept_user h own) is

  user_kept : gets_number marks name h own ≡ false → done.user ≡ kept_user h own
  user_kept is = ap (λ b. if b then other_user date name marks h own else kept_user h own) is

  -- a number is agreed on where the one that would be kept is one
  user_some : (kept_user h own == 0) ≡ false → (done.user == 0) ≡ false
  user_some kept = by (gets_number marks name h own) refl
    where
      by : (b : Bool) → gets_number marks name h own ≡ b → (done.user == 0) ≡ false
      by true is = ap (λ n. n == 0) (user_new is) ∙ new_some
      by false is = ap (λ n. n == 0) (user_kept is) ∙ kept

  -- the handheld has a number
  module _ (number : (h.user == 0) ≡ false) where
    kept_own : kept_user h own ≡ h.user
    kept_own = ap (λ b. if b && not (own.user == 0) then own.user else h.user) number

    name_own : done.name ≡ h.name
    name_own = by (is_empty name) (own.user == 0)
      where
        by : (e o : Bool) → agreed_name name h own ≡ h.name
        by e o = rw number (kept_name (not (is_empty name)))
          where
            kept_name : (b : Bool) → (if b && false then name else h.name) ≡ h.name
            kept_name true = refl
            kept_name false = refl

    begins : gets_number marks name h own ≡ begins_life marks name h own
    begins =
        ap (λ b. (not (is_empty name) && (b && (own.user == 0))) || begins_life marks name h own) number
        ∙ first_none (not (is_empty name)) (begins_life marks name h own)
      where
        first_none : (b c : Bool) → ((b && false) || c) ≡ c
        first_none true c = refl
        first_none false c = refl

  owned : (name_of : List ℕ) → has_name name_of own ≡ true → ((own.user == 0) ≡ false) × (is_same own.name name_of ≡ true)
  owned name_of is = let both = true_both (not (own.user == 0)) (is_same own.name name_of) is in (bool_not (own.user == 0) both.0, both.1)

  module _ (other : UserWish) (u : UserInfo) (asks : AsksAgain name other.name u.user) (count : ℕ) (known : IsKnownAs u h done) where
    -- the slot was found by the name that is asked for
    place_named_again : (h.user == 0) ≡ true → is_empty name ≡ false → has_name name own ≡ true
        → ((i : ℕ) → i < place → has_name name (get_or marks i new) ≡ false) → place_of count (seat_for after other u) ≡ place
    place_named_again none some here before =
        let is = owned name here in
        let stays : slots_user_stays h own ≡ true = rw (none, is.0) refl in
        let unnamed : is_named_first name h own ≡ false = rw (some, none, is.0) refl in
        let name_is : done.name ≡ own.name = ap (λ b. if b then name else if slots_user_stays h own then own.name else h.name) unnamed
        ∙ ap (λ b. if b then own.name else h.name) stays in
        let kept : kept_user h own ≡ own.user = ap (λ b. if b then own.user else h.user) stays in
        place_asked other u asks count known none some (user_some (ap (λ n. n == 0) kept ∙ is.0)) (ap (λ n. is_same n name) name_is ∙ is.1) before

    -- no slot had the name, and neither side a number
    place_first : (h.user == 0) ≡ true → is_empty name ≡ false → own.user ≡ 0 → NonePasses (has_name name) marks new
        → place_of count (seat_for after other u) ≡ place
    place_first none some zero_own before =
        let free_own : (own.user == 0) ≡ true = ap (λ n. n == 0) zero_own in
        let named_first : is_named_first name h own ≡ true = rw (some, none, free_own) refl in
        let name_is : done.name ≡ name = ap (λ b. if b then name else if slots_user_stays h own then own.name else h.name) named_first in
        let new_user : gets_number marks name h own ≡ true = ap (λ b. b || begins_life marks name h own) named_first in
        place_asked other u asks count known none some (ap (λ n. n == 0) (user_new new_user) ∙ new_some) (same_name done.name name name_is)
        (λ i less. before i (omega (arith, near, less)))

    -- the slot had the handheld's number
    place_numbered_again : (h.user == 0) ≡ false → own.user ≡ h.user → IsAsked name h.name
        → ((i : ℕ) → i < length marks → i ≢ place → ((get_or marks i new).user == h.user) ≡ false) → place_of count (seat_for after other u) ≡ place
    place_numbered_again number same asked others = by (begins_life marks name h own) refl
      where
        by : (b : Bool) → begins_life marks name h own ≡ b → place_of count (seat_for after other u) ≡ place
        by false is = place_kept other u asks count known number (user_kept (begins number ∙ is) ∙ kept_own number) (name_own number) asked
        by true is =
            let parts = true_both (not (own.user == 0))
            (not (is_nobody name h) && (is_stranger_to h own && (not (h.user == own.user) || has_own_name marks h))) is in
            let met = true_both (not (is_nobody name h)) (is_stranger_to h own && (not (h.user == own.user) || has_own_name marks h)) parts.1 in
            let more = true_both (is_stranger_to h own) (not (h.user == own.user) || has_own_name marks h) met.1 in
            let equal : (h.user == own.user) ≡ true = grind (arith, nat_tests, same) in
            let alone : has_own_name marks h ≡ true = sym (ap (λ b. not b || has_own_name marks h) equal) ∙ more.1 in
            let both = true_both (not (is_empty h.name)) (not (list_any (has_name_too h) marks)) alone in
            let user_is = user_new (begins number ∙ is) in
            place_new other u asks count known number (ap (λ n. n == 0) user_is ∙ new_some) (ap (λ n. n == h.user) user_is ∙ new_other)
            (name_own number) (bool_not (is_empty h.name) both.0) others
            (λ i less. none_named (bool_not (list_any (has_name_too h) marks) both.1) i (omega (arith, near, less)) (λ at. omega (arith, at, less))) asked
          where
            none_named : list_any (has_name_too h) marks ≡ false → (i : ℕ) → i < length marks → i ≢ place
                → has_name h.name (get_or marks i new) ≡ false
            none_named none i less differ = each (has_name_too h (get_or marks i new)) refl
              where
                each : (b : Bool) → has_name_too h (get_or marks i new) ≡ b → has_name h.name (get_or marks i new) ≡ false
                each true one = absurd (let never : true ≡ false = sym (list_any_at (has_name_too h) marks i new less one) ∙ none in cc)
                each false one = apart_false (has_name h.name (get_or marks i new)) ((get_or marks i new).user == h.user) one (others i less differ)

    -- it had the handheld's name, and another number
    place_by_name : (h.user == 0) ≡ false → is_empty h.name ≡ false → has_name h.name own ≡ true → IsAsked name h.name
        → NonePasses (λ (slot : Marks). slot.user == h.user) marks new
        → ((i : ℕ) → i < place → has_name h.name (get_or marks i new) ≡ false) → place_of count (seat_for after other u) ≡ place
    place_by_name number full here asked others before = by (begins_life marks name h own) refl
      where
        by : (b : Bool) → begins_life marks name h own ≡ b → place_of count (seat_for after other u) ≡ place
        by false is = place_kept other u asks count known number (user_kept (begins number ∙ is) ∙ kept_own number) (name_own number) asked
        by true is =
            let user_is = user_new (begins number ∙ is) in
            place_new other u asks count known number (ap (λ n. n == 0) user_is ∙ new_some) (ap (λ n. n == h.user) user_is ∙ new_other)
            (name_own number) full (λ i less differ. others i less) before asked

    -- it had no number
    place_newcomer : (h.user == 0) ≡ false → own.user ≡ 0 → IsAsked name h.name → place_of count (seat_for after other u) ≡ place
    place_newcomer number zero_own asked =
        let free_own : (own.user == 0) ≡ true = ap (λ n. n == 0) zero_own in
        let none : begins_life marks name h own ≡ false = ap (λ b. not b && (not (is_nobody name h) && (is_stranger_to h own && (not (h.user == own.user) || has_own_name marks h)))) free_own in
        place_kept other u asks count known number (user_kept (begins number ∙ none) ∙ kept_own number) (name_own number) asked

    pub place_again : Found marks new name h own place → place_of count (seat_for after other u) ≡ place
    place_again (nobody none empty at) = place_nobody other u asks count known none empty at
    place_again (named none some here before) = place_named_again none some here before
    place_again (first none some zero_own before) = place_first none some zero_own before
    place_again (numbered number same asked others) = place_numbered_again number same asked others
    place_again (by_name number full here asked others before) = place_by_name number full here asked others before
    place_again (newcomer number zero_own asked) = place_newcomer number zero_own asked

-- ---- on a desktop

marks_at : (slots : List SlotValue) (i : ℕ) (d : SlotValue) → get_or (marks_of slots) i d.marks ≡ (get_or slots i d).marks
marks_at [] i d = refl
marks_at (slot ∷ slots) zero d = refl
marks_at (slot ∷ slots) (suc i) d = marks_at slots i d

behind_all : (marks : List Marks) (i : ℕ) (d : Marks) → length marks ≤ i → get_or marks i d ≡ d
behind_all [] i d past = refl
behind_all (slot ∷ marks) zero d past = absurd (omega (arith, past))
behind_all (slot ∷ marks) (suc i) d past = behind_all marks i d (omega (arith, past))

-- where a handheld has a slot, it has the same one once its session has ended there, as it was and as it is then, for whoever asks again
pub found_again : (wishes : Wishes) (other : UserWish) (slots : List SlotValue) (h u : UserInfo) {place : ℕ} → AreSlots (marks_of slots)
    → IsSeated (seat_for (marks_of slots) wishes.user h) → place ≡ place_of (length slots) (seat_for (marks_of slots) wishes.user h)
    → AsksAgain wishes.user.name other.name u.user
    → IsKnownAs u h (done_marks wishes.date wishes.user.name (marks_of slots) h (desk_slot slots place).marks)
    → place_of
    (length (placed (marks_of slots) place (new_slot (number_of slots)).marks
    (done_marks wishes.date wishes.user.name (marks_of slots) h (desk_slot slots place).marks)))
    (seat_for (placed (marks_of slots) place (new_slot (number_of slots)).marks
    (done_marks wishes.date wishes.user.name (marks_of slots) h (desk_slot slots place).marks)) other u) ≡ place
found_again wishes other slots h u {place} formed seated picked asks known =
    place_again marks new wishes.date wishes.user.name h own place near formed.few free other u asks
    (length (placed marks place new (done_marks wishes.date wishes.user.name marks h own))) known
    (found marks new refl wishes.user h own formed.users formed.some has past seated at)
  where
    marks : List Marks
    marks = marks_of slots

    new : Marks
    new = (new_slot (number_of slots)).marks

    own : Marks
    own = (desk_slot slots place).marks

    at : place ≡ place_of (length marks) (seat_for marks wishes.user h)
    at = picked ∙ ap (λ n. place_of n (seat_for marks wishes.user h)) (sym (marks-length slots))

    near : place ≤ length marks
    near = let less = place-near marks wishes.user h (length marks) refl in omega (arith, less, at)

    has : place < length marks → own ≡ get_or marks place new
    has less = sym (marks_at slots place (new_slot (number_of slots)))

    past : length marks ≤ place → own ≡ new
    past behind = sym (marks_at slots place (new_slot (number_of slots))) ∙ behind_all marks place new behind

    free : (i : ℕ) → i < length marks → i ≢ place
        → ((get_or marks i new).user == (done_marks wishes.date wishes.user.name marks h own).user) ≡ false
    free i less differ = by ((get_or marks i new).user == (done_marks wishes.date wishes.user.name marks h own).user) refl
      where
        by : (b : Bool) → ((get_or marks i new).user == (done_marks wishes.date wishes.user.name marks h own).user) ≡ b → b ≡ false
        by true same =
            let seat = seat-picked slots h wishes formed formed.few refl seated picked in
            absurd (seat.own i (let count = marks-length slots in omega (arith, less, count)) differ
            (number_at marks i new less ∙ (grind (arith, nat_tests, same))))
        by false apart = refl
