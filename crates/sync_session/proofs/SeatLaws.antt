-- The user that both sides agree on is that of no other slot.
use Rattle.std.proofs.lemmas.Grind.{common_steps}
use Rattle.std.proofs.lemmas.Bool.Decides.{nat_tests}
use Rattle.std.proofs.Common.{◌≡◌, ◌∙◌, ◌<◌, ◌≤◌, inl, inr, refl, ap, sym, subst, ℕ, zero, suc, Bool, true, false, cond, List, [], ◌∷◌, arith, length, get_or}
use Rattle.std.specs.Prelude.{◌≢◌, ◌==◌, ◌&&◌, ◌||◌, not, Option, Some, None, position, slice_index, if◌then◌else◌}
use Rattle.std.specs.Option.{option_map, option_or}
use Rattle.std.proofs.lemmas.Bool.{cases_lt, eqb-false, eqb-true}
use Rattle.std.proofs.lemmas.List.{length-map}
use Rattle.std.proofs.lemmas.List.Folds.{list_any_at}
use Rattle.std.proofs.lemmas.List.Quantifiers.{position-Some}
use Rattle.pdb_values.specs.Slots.{slot_at as found_at}
use Rattle.pdb_values.specs.declared.slot.Slot.{Slot}
use Rattle.pdb_values.specs.declared.slot.Slot.TheVariants.{Old, Refused}
use Rattle.pdb_values.specs.declared.user.Marks.{Marks}
use Rattle.pdb_values.specs.declared.user.UserInfo.{UserInfo}
use Rattle.pdb_values.proofs.PlaceLaws.{position-cons}
use Rattle.folder_files.specs.Slots.{AreSlots, AreUsers}
use Rattle.desk_store.specs.Desks.{place_of}
use Rattle.desk_store.specs.Shelves.{SlotValue, marks_of, new_slot, number_of, slot_at}
use Rattle.desk_store.proofs.BearLaws.{user_at}
use Rattle.desk_store.proofs.SlotListLaws.{marks-length, slot_at-any}
use Rattle.desktop_session.specs.Seats.{is_empty, is_other_user, numbers_of, place_named, place_numbered, seat_for}
use Rattle.desktop_session.specs.declared.seat.UserWish.{UserWish}
use Rattle.session_parts.specs.Meets.{IsSeated}
use Rattle.session_plan.specs.Fits.{IsSeat}
use Rattle.session_plan.specs.Numbers.{is_taken, new_number}
use Rattle.session_plan.specs.Users.{agreed_name, done_marks, gets_number, is_named_first, kept_user}
use Rattle.session_plan.specs.declared.wishes.Wishes.{Wishes}
use Rattle.session_plan.proofs.NumberLaws.{number_is_free, number_is_some}

pub no_place : {X : Type 0} (test : X → Bool) (x : X) (xs : List X) → (b : Bool) → test x ≡ b → (o : Option ℕ)
    → cond b (Some 0) (option_map (λ place. suc place) o) ≡ None → (b ≡ false) × (o ≡ None)
no_place test x xs b is o none = grind (arith, common_steps)

-- none passes
pub position-none : {X : Type 0} (test : X → Bool) (xs : List X) (d : X) → position test xs ≡ None → (i : ℕ) → i < length xs → test (get_or xs i d) ≡ false
position-none test [] d none i less = absurd (omega (arith, less))
position-none test (x ∷ xs) d none zero less =
    let both = no_place test x xs (test x) refl (position test xs) (sym (position-cons test x xs) ∙ none) in both.0
position-none test (x ∷ xs) d none (suc i) less =
    let both = no_place test x xs (test x) refl (position test xs) (sym (position-cons test x xs) ∙ none) in
    position-none test xs d both.1 i (omega (arith, less))

-- ---- numbers

-- the number of a slot
pub number_at : (marks : List Marks) (i : ℕ) (d : Marks) → i < length marks → slice_index (numbers_of marks) i ≡ (get_or marks i d).user
number_at [] i d less = absurd (omega (arith, less))
number_at (slot ∷ marks) zero d less = refl
number_at (slot ∷ marks) (suc i) d less = number_at marks i d (omega (arith, less))

numbers-length : (marks : List Marks) → length (numbers_of marks) ≡ length marks
numbers-length marks = length-map marks (λ (slot : Marks). slot.user)

-- a number that nobody has is that of no slot
not_among : (numbers : List ℕ) (user number other : ℕ) → is_taken (user ∷ numbers) number ≡ false → other < length numbers → slice_index numbers other ≢ number
not_among numbers user number other free less same =
    let there : (get_or numbers other 0 == number) ≡ true = grind (arith, nat_tests, same) in
    let among = list_any_at (λ other. other == number) numbers other 0 less there in
    grind (arith, common_steps, free, among)

-- two slots have different numbers
numbers-apart : (xs : List ℕ) → AreUsers xs → (i j : ℕ) → i < length xs → j < length xs → i ≢ j → slice_index xs i ≢ slice_index xs j
numbers-apart xs are i j first second differ same = elim (cases_lt i j) [
  | inl before ↦ (are i j before second).1 same
  | inr behind ↦ (are j i (let less : j < i = omega (arith, differ) in less) first).1 (sym same)
]

-- ---- where a handheld is found

-- how the place of a handheld's slot comes about: it has no number, and where no name is asked for it is slot 0's; or the slot has its number;
-- or no slot has it
pub data Comes (marks : List Marks) (handheld : UserInfo) (name : List ℕ) (place : ℕ) : Type 0 where
  without : (handheld.user == 0) ≡ true → (is_empty name ≡ true → place ≡ 0) → Comes marks handheld name place
  known : (handheld.user == 0) ≡ false → place_numbered marks handheld.user ≡ Some place → Comes marks handheld name place
  unknown : (handheld.user == 0) ≡ false → place_numbered marks handheld.user ≡ None → Comes marks handheld name place

pub comes : (marks : List Marks) (wish : UserWish) (handheld : UserInfo) (count : ℕ) → IsSeated (seat_for marks wish handheld)
    → Comes marks handheld wish.name (place_of count (seat_for marks wish handheld))
comes marks wish handheld count seated =
    by (is_other_user marks wish.name handheld) (handheld.user == 0) refl (is_empty wish.name) refl (place_numbered marks handheld.user) refl seated
  where
    seat : Bool → Bool → Bool → Option ℕ → Slot
    seat other none empty numbered =
        if other then Refused else if none && empty then Old 0
        else found_at (if none then place_named marks wish.name else option_or numbered (place_named marks handheld.name)) (numbers_of marks) wish.add

    by : (o n : Bool) → (handheld.user == 0) ≡ n → (e : Bool) → is_empty wish.name ≡ e → (k : Option ℕ) → place_numbered marks handheld.user ≡ k
        → IsSeated (seat o n e k) → Comes marks handheld wish.name (place_of count (seat o n e k))
    by true n _ e _ k _ seated = absurd seated
    by false true is true empty k _ seated = without is (λ _. refl)
    by false true is false empty k _ seated = without is (λ none. absurd (let never : true ≡ false = sym none ∙ empty in cc))
    by false false is e empty (Some k) at seated = known is at
    by false false is e empty None none seated = unknown is none

-- ---- the user that is kept

-- the slot's where it has one and the handheld has none, and else the handheld's
record Keeps (handheld : UserInfo) (own kept : ℕ) : Type 0 where
  slots : (handheld.user == 0) ≡ true → (own == 0) ≡ false → kept ≡ own
  none : (handheld.user == 0) ≡ true → (own == 0) ≡ true → kept ≡ 0
  handhelds : (handheld.user == 0) ≡ false → kept ≡ handheld.user

keeps : (handheld : UserInfo) (slot : Marks) → Keeps handheld slot.user (kept_user handheld slot)
keeps handheld slot = record {
  slots = λ nobody has. rw (nobody, has) refl;
  none = λ nobody free. rw (nobody, free) (eqb-true handheld.user 0 nobody);
  handhelds = λ has. rw has refl;
}

-- slot 0 is the one that has no number, where no name is asked for
first_slot : (handheld : UserInfo) (name : List ℕ) (place own : ℕ) → (handheld.user == 0) ≡ true
    → (not (is_empty name) && ((handheld.user == 0) && (own == 0))) ≡ false → (own == 0) ≡ true → (is_empty name ≡ true → place ≡ 0) → place ≡ 0
first_slot handheld name place own nobody unnamed free first =
    let both : ((handheld.user == 0) && (own == 0)) ≡ true = rw (nobody, free) refl in
    by (is_empty name) refl (sym (ap (λ b. not (is_empty name) && b) both) ∙ unnamed)
  where
    by : (e : Bool) → is_empty name ≡ e → (not e && true) ≡ false → place ≡ 0
    by true empty fails = first empty
    by false some fails = absurd (let never : true ≡ false = fails in cc)

module _ (marks : List Marks) (handheld : UserInfo) (name : List ℕ) (place own kept : ℕ) (are : AreUsers (numbers_of marks))
    (has : place < length marks → own ≡ slice_index (numbers_of marks) place) (past : length marks ≤ place → own ≡ 0)
    (keep : Keeps handheld own kept) (unnamed : (not (is_empty name) && ((handheld.user == 0) && (own == 0))) ≡ false) where
  within_numbers : (i : ℕ) → i < length marks → i < length (numbers_of marks)
  within_numbers i less = omega (arith, less, numbers-length marks)

  free_kept : Comes marks handheld name place → (other : ℕ) → other < length marks → other ≢ place → slice_index (numbers_of marks) other ≢ kept
  free_kept (without none first) other less differ same = by (own == 0) refl
    where
      by : (b : Bool) → (own == 0) ≡ b → ⊥
      by true free =
          let at : place ≡ 0 = first_slot handheld name place own none unnamed free first in
          let behind : 0 < other = omega (arith, differ, at) in
          (are 0 other behind (within_numbers other less)).0 (same ∙ keep.none none free)
      by false some = elim (cases_lt place (length marks)) [
        | inl within ↦ numbers-apart (numbers_of marks) are other place (within_numbers other less) (within_numbers place within) differ (same ∙ keep.slots none some ∙ has within)
        | inr behind ↦ eqb-false own 0 some (past behind)
      ]
  free_kept (known some there) other less differ same =
      let at = position-Some (λ (slot : Marks). slot.user == handheld.user) marks place (new_slot 0).marks there in
      let own_is : (get_or marks place (new_slot 0).marks).user ≡ handheld.user = eqb-true (get_or marks place (new_slot 0).marks).user handheld.user at.1 in
      numbers-apart (numbers_of marks) are other place (within_numbers other less) (within_numbers place at.0) differ
      (same ∙ keep.handhelds some ∙ sym own_is ∙ sym (number_at marks place (new_slot 0).marks at.0))
  free_kept (unknown some none) other less differ same =
      let fails = position-none (λ (slot : Marks). slot.user == handheld.user) marks (new_slot 0).marks none other less in
      eqb-false (get_or marks other (new_slot 0).marks).user handheld.user fails
      (sym (number_at marks other (new_slot 0).marks less) ∙ same ∙ keep.handhelds some)

  first_kept : Comes marks handheld name place → kept ≡ 0 → place ≡ 0
  first_kept (without none first) zero_kept = by (own == 0) refl
    where
      by : (b : Bool) → (own == 0) ≡ b → place ≡ 0
      by true free = first_slot handheld name place own none unnamed free first
      by false some = absurd (eqb-false own 0 some (sym (keep.slots none some) ∙ zero_kept))
  first_kept (known some there) zero_kept = absurd (eqb-false handheld.user 0 some (sym (keep.handhelds some) ∙ zero_kept))
  first_kept (unknown some there) zero_kept = absurd (eqb-false handheld.user 0 some (sym (keep.handhelds some) ∙ zero_kept))

-- ---- the picked slot

not_named : (n l : Bool) → (n || l) ≡ false → n ≡ false
not_named false l is = refl
not_named true l is = is

-- the picked slot is the seat of the user that both sides agree on
pub seat-picked : (slots : List SlotValue) (user : UserInfo) (wishes : Wishes) {marks : List Marks} {place : ℕ} → AreSlots (marks_of slots)
    → length marks ≤ 16 → marks ≡ marks_of slots → IsSeated (seat_for marks wishes.user user)
    → place ≡ place_of (length slots) (seat_for marks wishes.user user)
    → IsSeat slots place (done_marks wishes.date wishes.user.name marks user (slot_at slots place).marks).user
seat-picked slots user wishes {marks} {place} formed room are seated picked =
    by (gets_number marks wishes.user.name user (slot_at slots place).marks) refl
  where
    count : length marks ≡ length slots
    count = ap (λ (ms : List Marks). length ms) are ∙ marks-length slots

    own : ℕ
    own = (slot_at slots place).marks.user

    users_are : AreUsers (numbers_of marks)
    users_are = rw are formed.users

    come : Comes marks user wishes.user.name place
    come = rw picked (comes marks wishes.user user (length slots) seated)

    has : place < length marks → own ≡ slice_index (numbers_of marks) place
    has less =
        let there : place < length slots = omega (arith, less, count) in
        sym (user_at slots place there (slot_at-any slots place (new_slot (number_of slots)) (slot_at slots place) there))
        ∙ ap (λ (ms : List Marks). slice_index (numbers_of ms) place) (sym are)

    past : length marks ≤ place → own ≡ 0
    past behind = let no : length slots ≤ place = omega (arith, behind, count) in grind (arith, common_steps, nat_tests)

    new : ℕ
    new = new_number wishes.date (agreed_name wishes.user.name user (slot_at slots place).marks) own (user.user ∷ numbers_of marks)

    new_free : is_taken (user.user ∷ numbers_of marks) new ≡ false
    new_free = number_is_free wishes.date (agreed_name wishes.user.name user (slot_at slots place).marks) own (user.user ∷ numbers_of marks)
        (omega (arith, room, numbers-length marks))

    kept : ℕ
    kept = kept_user user (slot_at slots place).marks

    by : (b : Bool) → gets_number marks wishes.user.name user (slot_at slots place).marks ≡ b → IsSeat slots place (if b then new else kept)
    by true is = record {
      own = λ other less differ. subst (λ (ms : List Marks). slice_index (numbers_of ms) other ≢ new) are
          (not_among (numbers_of marks) user.user new other new_free (omega (arith, less, count, numbers-length marks)));
      first = λ none. absurd (number_is_some wishes.date (agreed_name wishes.user.name user (slot_at slots place).marks) own (user.user ∷ numbers_of marks) none);
    }
    by false is =
        let unnamed = not_named (is_named_first wishes.user.name user (slot_at slots place).marks) _ is in
        record {
          own = λ other less differ. subst (λ (ms : List Marks). slice_index (numbers_of ms) other ≢ kept) are
              (free_kept marks user wishes.user.name place own kept users_are has past (keeps user (slot_at slots place).marks) unnamed come other
              (omega (arith, less, count)) differ);
          first = first_kept marks user wishes.user.name place own kept users_are has past (keeps user (slot_at slots place).marks) unnamed come;
        }
