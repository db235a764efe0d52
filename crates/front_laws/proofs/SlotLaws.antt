-- The slots once the picked one is merged: it is picked again.
use Rattle.std.proofs.lemmas.Bool.Decides.{nat_tests}
use Rattle.std.proofs.Common.{◌≡◌, ◌⊎◌, ◌∙◌, ◌≤◌, inl, inr, refl, ap, sym, arith, ℕ, Bool, true, false, List, [], ◌∷◌, ◌++◌, length, set, if◌then◌else◌}
use Rattle.std.specs.Prelude.{◌==◌, ◌&&◌, not, nat_lt}
use Rattle.std.proofs.lemmas.List.{map-append, map-set}
use Rattle.pdb_values.specs.declared.user.Marks.{Marks}
use Rattle.folder_files.specs.Slots.{AreSlots}
use Rattle.desk_store.specs.Desks.{place_of}
use Rattle.desk_store.specs.Shelves.{SlotValue, marks_of, new_slot, number_of, slot_at, with_place}
use Rattle.desk_store.proofs.SlotListLaws.{marks-length, place_there, slot_at-set_same}
use Rattle.desktop_session.specs.Seats.{no_wish, numbers_of, seat_for}
use Rattle.desktop_session.specs.declared.seat.UserWish.{UserWish}
use Rattle.session_parts.specs.Meets.{IsSeated}
use Rattle.session_plan.specs.Merges.{merged_slot, merged_slots}
use Rattle.session_plan.specs.Tasks.{Meeting, place_for, slot_of}
use Rattle.session_plan.specs.Users.{agreed_name, done_of, gets_number, other_user}
use Rattle.session_plan.proofs.NumberLaws.{number_is_some}
use Rattle.front_laws.proofs.AgainPlaces.{AsksAgain, found_again}
use Rattle.front_laws.proofs.FoundPlaces.{place-near, same_seat, unnamed_seat}
use Rattle.front_laws.proofs.PickLaws.{placed}

-- ---- the marks

marks-place : (slots : List SlotValue) (place : ℕ) → marks_of (with_place slots place)
    ≡ (if nat_lt place (length (marks_of slots)) then marks_of slots else marks_of slots ++ (new_slot (number_of slots)).marks ∷ [])
marks-place slots place = by (nat_lt place (length slots))
    ∙ ap (λ n. if nat_lt place n then marks_of slots else marks_of slots ++ (new_slot (number_of slots)).marks ∷ []) (sym (marks-length slots))
  where
    by : (b : Bool) → marks_of (if b then slots else slots ++ new_slot (number_of slots) ∷ [])
        ≡ (if b then marks_of slots else marks_of slots ++ (new_slot (number_of slots)).marks ∷ [])
    by true = refl
    by false = map-append (λ (slot : SlotValue). slot.marks) slots (new_slot (number_of slots) ∷ [])

marks-merged : (m : Meeting) (given : List ℕ)
    → marks_of (merged_slots m given) ≡ placed (marks_of m.slots) m.picked (new_slot (number_of m.slots)).marks (done_of m)
unfolding merged_slots merged_slot
marks-merged m given =
    map-set (λ (slot : SlotValue). slot.marks) (with_place m.slots m.picked) m.picked (merged_slot m given)
    ∙ ap (λ ms. set ms m.picked (done_of m)) (marks-place m.slots m.picked)

-- ---- the place

pub picked-near : (m : Meeting) (wish : UserWish) → m.picked ≡ place_for m.device m.slots wish → m.picked ≤ length m.slots
picked-near m wish picked =
    let near = place-near (marks_of m.slots) wish m.device.user (length m.slots) (marks-length m.slots) in omega (arith, near, picked)

-- the same slots, the same user, and the same name asked for
pub same-place : (m next : Meeting) → m.picked ≡ place_for m.device m.slots m.wishes.user → next.picked ≡ place_for next.device next.slots next.wishes.user
    → next.wishes.user.name ≡ m.wishes.user.name → next.slots ≡ m.slots
    → (next.device.user.user ≡ m.device.user.user) × (next.device.user.name ≡ m.device.user.name) → next.picked ≡ m.picked
same-place m next picked next_picked asks slots user =
    next_picked ∙ ap (λ (s : List SlotValue). place_of (length s) (seat_for (marks_of s) next.wishes.user next.device.user)) slots
    ∙ same_seat (marks_of m.slots) (length m.slots) m.wishes.user next.wishes.user m.device.user next.device.user asks user.0 user.1
    ∙ sym picked

-- so it is where the handheld has a number and a slot, and no name is asked for
pub place-again : (m next : Meeting) → IsSeated (seat_for (marks_of m.slots) m.wishes.user m.device.user)
    → m.picked ≡ place_for m.device m.slots m.wishes.user → next.picked ≡ place_for next.device next.slots next.wishes.user
    → AsksAgain m.wishes.user.name next.wishes.user.name next.device.user.user → next.slots ≡ m.slots
    → (next.device.user.user ≡ m.device.user.user) × (next.device.user.name ≡ m.device.user.name) → next.picked ≡ m.picked
place-again m next seated picked next_picked (inl asks) slots user = same-place m next picked next_picked asks slots user
place-again m next seated picked next_picked (inr none) slots user =
    same-place (record m { picked = place_for m.device m.slots no_wish; wishes = record m.wishes { user = no_wish } }) next refl next_picked none.0 slots user
    ∙ unnamed_seat (marks_of m.slots) (length m.slots) m.wishes.user m.device.user (sym (ap (λ n. n == 0) user.0) ∙ none.1) seated
    ∙ sym picked

-- where both sides agree on no number, the handheld had none
pub done-none : (m : Meeting) → (done_of m).user ≡ 0 → m.device.user.user ≡ 0
done-none m none =
    by (gets_number (marks_of m.slots) m.wishes.user.name m.device.user slot) (m.device.user.user == 0) refl (slot.user == 0) refl none
  where
    slot : Marks
    slot = (slot_of m).marks

    new : ℕ
    new = other_user m.wishes.date m.wishes.user.name (marks_of m.slots) m.device.user slot

    by : (g h : Bool) → (m.device.user.user == 0) ≡ h → (s : Bool) → (slot.user == 0) ≡ s
        → (if g then new else if h && not s then slot.user else m.device.user.user) ≡ 0 → m.device.user.user ≡ 0
    by true h _ s _ is =
        absurd (number_is_some m.wishes.date (agreed_name m.wishes.user.name m.device.user slot) slot.user
        (m.device.user.user ∷ numbers_of (marks_of m.slots)) is)
    by false true here s _ is = grind (arith, nat_tests, here)
    by false false here s _ is = is

-- the merged slots, and the user of before or the agreed one
pub merged-place : (m next : Meeting) (given : List ℕ) → AreSlots (marks_of m.slots) → IsSeated (seat_for (marks_of m.slots) m.wishes.user m.device.user)
    → m.picked ≡ place_for m.device m.slots m.wishes.user → next.picked ≡ place_for next.device next.slots next.wishes.user
    → AsksAgain m.wishes.user.name next.wishes.user.name next.device.user.user → next.slots ≡ merged_slots m given
    → ((next.device.user.user ≡ m.device.user.user) × (next.device.user.name ≡ m.device.user.name))
    ⊎ ((next.device.user.user ≡ (done_of m).user) × (next.device.user.name ≡ (done_of m).name)) → next.picked ≡ m.picked
merged-place m next given formed seated picked next_picked asks slots user =
    let here : slot_at m.slots m.picked ≡ slot_of m = refl in
    let marks : marks_of next.slots ≡ placed (marks_of m.slots) m.picked (new_slot (number_of m.slots)).marks (done_of m)
    = ap marks_of slots ∙ marks-merged m given in
    next_picked
    ∙ ap (λ n. place_of n (seat_for (marks_of next.slots) next.wishes.user next.device.user)) (sym (marks-length next.slots))
    ∙ ap (λ (ms : List Marks). place_of (length ms) (seat_for ms next.wishes.user next.device.user)) marks
    ∙ found_again m.wishes next.wishes.user m.slots m.device.user next.device.user formed seated picked asks user

-- so it is by any name, where the handheld has a slot then; one without a number is asked for by the same
pub merged-seated : (m next : Meeting) (given : List ℕ) → AreSlots (marks_of m.slots) → IsSeated (seat_for (marks_of m.slots) m.wishes.user m.device.user)
    → IsSeated (seat_for (marks_of next.slots) next.wishes.user next.device.user)
    → m.picked ≡ place_for m.device m.slots m.wishes.user → next.picked ≡ place_for next.device next.slots next.wishes.user
    → (next.device.user.user ≡ 0 → next.wishes.user.name ≡ m.wishes.user.name) → next.slots ≡ merged_slots m given
    → ((next.device.user.user ≡ m.device.user.user) × (next.device.user.name ≡ m.device.user.name))
    ⊎ ((next.device.user.user ≡ (done_of m).user) × (next.device.user.name ≡ (done_of m).name)) → next.picked ≡ m.picked
merged-seated m next given formed seated again picked next_picked asks slots user = by (next.device.user.user == 0) refl
  where
    by : (b : Bool) → (next.device.user.user == 0) ≡ b → next.picked ≡ m.picked
    by true is =
        let none : next.device.user.user ≡ 0 = grind (arith, nat_tests, is) in
        merged-place m next given formed seated picked next_picked (inl (asks none)) slots user
    by false is =
        merged-place m (record next { wishes = record next.wishes { user = no_wish } }) given formed seated picked
        (next_picked ∙ sym (unnamed_seat (marks_of next.slots) (length next.slots) next.wishes.user next.device.user is again)) (inr (refl, is)) slots user

pub merged-picked : (m : Meeting) (given : List ℕ) → m.picked ≤ length m.slots → slot_at (merged_slots m given) m.picked ≡ merged_slot m given
unfolding merged_slots
merged-picked m given near = slot_at-set_same (with_place m.slots m.picked) m.picked (merged_slot m given) (place_there m.slots m.picked near)
