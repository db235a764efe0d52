-- Two sessions of the same sides: what the second finds behind the first, where that ended and where it stopped.
use Rattle.std.proofs.lemmas.List.{length-set}
use Rattle.std.proofs.Math.Seq.{map-set_same}
use Rattle.std.proofs.Common.{arith, ◌≡◌, ◌∙◌, ◌<◌, ap, refl, sym, ℕ, List, [], ◌∷◌, length}
use Rattle.std.specs.Prelude.{IsOk}
use Rattle.std.specs.List.{AllByRecursion}
use Rattle.pdb_values.specs.Databases.{DatabaseValue}
use Rattle.pdb_values.specs.declared.record.Record.{Record}
use Rattle.palm_device.specs.Bounds.{IsBoundedDatabase, IsBoundedRecord}
use Rattle.palm_device.specs.Devices.{Device}
use Rattle.pdb_values.specs.declared.user.Marks.{Marks}
use Rattle.desktop_session.specs.Seats.{no_wish, seat_for}
use Rattle.pdb_values.specs.declared.slot.Slot.{Slot}
use Rattle.pdb_values.specs.declared.slot.Slot.TheVariants as slot
use Rattle.pdb_values.specs.declared.user.UserInfo.{UserInfo}
use Rattle.desk_store.specs.Desks.{place_of}
use Rattle.desk_store.specs.Shelves.{AreOrdered, SlotValue, marks_of, new_slot, number_of}
use Rattle.desk_store.proofs.BoundLaws.{bounded_at}
use Rattle.desk_store.specs.declared.change.DbChange.{DbChange}
use Rattle.desk_store.proofs.SlotListLaws.{marks-length, ordered_at}
use Rattle.desktop_session.specs.Greetings.{user_with}
use Rattle.session_parts.specs.Meets.{IsSeated}
use Rattle.category_mirror.specs.FilingEnds.{IsFileable, marks_in}
use Rattle.category_mirror.proofs.MeetLaws.{seat_within}
use Rattle.session_parts.specs.Rests.{IsAtRest}
use Rattle.category_mirror.specs.FilingActs.{marked_user}
use Rattle.category_mirror.specs.Filings.{AreOfCategories}
use Rattle.category_mirror.specs.Sides.{Filing, block_writes, device_among, filed_device, filed_slots, filing_changes, filing_of, names, shelves_of}
use Rattle.category_mirror.proofs.DoneLaws.{among_all}
use Rattle.category_mirror.proofs.MadeAgain.{next, next_device, next_slots}
use Rattle.category_mirror.proofs.MarkLaws.{marked_twice}
use Rattle.category_mirror.proofs.RepeatLaws.{AreFileable, behind, changes_none, device_again, slots_again, writes_none}

seat_ok : (marks : List Marks) (user : UserInfo) (found : Slot) → IsOk (user_with marks user found) → IsSeated found
seat_ok marks user (slot.Old place) is = tt
seat_ok marks user slot.New is = tt
seat_ok marks user slot.Refused is = absurd (let never : ⊥ = cc in never)
seat_ok marks user slot.Full is = absurd (let never : ⊥ = cc in never)

-- the mark leaves what a slot is found by
pub marked-seat : (changes : List DbChange) (user : UserInfo) (marks : List Marks)
    → seat_for marks no_wish (marked_user changes user) ≡ seat_for marks no_wish user
marked-seat [] user marks = refl
marked-seat (change ∷ changes) user marks = refl

module _ (device : Device) (slots : List SlotValue) where
  pub stopped_device : (done : List (List ℕ))
      → filed_device (filing_of (device_among (filing_of device slots) done) slots) ≡ filed_device (filing_of device slots)
  unfolding device_among
  stopped_device done = next_device (filing_of device slots) done device.user refl

  pub stopped_slots : (done : List (List ℕ))
      → filed_slots (filing_of (device_among (filing_of device slots) done) slots) ≡ filed_slots (filing_of device slots)
  unfolding device_among
  stopped_slots done = next_slots (filing_of device slots) done device.user

  -- behind its mark
  module _ (rests : IsAtRest device) where
    abbrev own : Filing
    own = filing_of device slots

    abbrev marked : UserInfo
    marked = marked_user (filing_changes own) device.user

    marked_next : filing_of (filed_device own) slots ≡ next own (names own) marked
    unfolding filed_device device_among
    marked_next = λ k. record {
      device = record device { databases = (sym (among_all own rests)) k; user = marked };
      slots = slots;
      picked = place_of (length slots) (marked-seat (filing_changes own) device.user (marks_of slots) k);
    }

    pub marked_device : filed_device (filing_of (filed_device own) slots) ≡ filed_device own
    marked_device = ap filed_device marked_next ∙ next_device own (names own) marked (marked_twice (filing_changes own) device.user)

    pub marked_slots : filed_slots (filing_of (filed_device own) slots) ≡ filed_slots own
    marked_slots = ap filed_slots marked_next ∙ next_slots own (names own) marked

  module _ (may : IsFileable device slots) where
    abbrev first : Filing
    first = filing_of device slots

    picked_within : first.picked < length slots
    picked_within =
        let count : length (marks_in first) ≡ length slots = marks-length slots in
        let more = may.formed.some in
        let marks = marks-length slots in
        let below = seat_within (marks_in first) device.user (length slots) (omega (arith, count, more, marks))
        (seat_ok (marks_in first) device.user (seat_for (marks_in first) no_wish device.user) may.seated) in
        omega (arith, count, below)

    marks_same : marks_of (filed_slots first) ≡ marks_of slots
    unfolding filed_slots
    marks_same = map-set_same (λ (s : SlotValue). s.marks) slots first.picked _ (new_slot (number_of slots)) refl

    count_same : length (filed_slots first) ≡ length slots
    unfolding filed_slots
    count_same = length-set slots first.picked _

    picked_same : place_of (length (filed_slots first)) (seat_for (marks_of (filed_slots first)) no_wish (filed_device first).user)
        ≡ first.picked
    unfolding filed_device
    picked_same =
        let seat = ap (λ (ms : List Marks). seat_for ms no_wish (marked_user (filing_changes first) device.user)) marks_same
        ∙ marked-seat (filing_changes first) device.user (marks_of slots) in
        λ k. place_of (count_same k) (seat k)

    second_is : filing_of (filed_device first) (filed_slots first) ≡ behind first picked_within
    second_is = λ k. record { device = filed_device first; slots = filed_slots first; picked = picked_same k }

    own_ordered : AreOrdered (shelves_of first)
    own_ordered = ordered_at slots first.picked may.ordered

    own_fileable : AreFileable (shelves_of first).rows
    own_fileable = all_rows (shelves_of first).rows (bounded_at slots first.picked may.bounded).shelves.rows
      where
        all_records : (items : List Record) → AllByRecursion IsBoundedRecord items → AreOfCategories items
        all_records [] bounded = tt
        all_records (item ∷ items) bounded = (let small = bounded.0.category in omega (arith, small), all_records items bounded.1)

        all_rows : (rows : List DatabaseValue) → AllByRecursion IsBoundedDatabase rows → AreFileable rows
        all_rows [] bounded = tt
        all_rows (d ∷ rows) bounded = (all_records d.records bounded.0.records, all_rows rows bounded.1)

    pub second_device : filed_device (filing_of (filed_device first) (filed_slots first)) ≡ filed_device first
    second_device = ap filed_device second_is ∙ device_again first picked_within own_fileable may.rests.proper.sound.names

    pub second_slots : filed_slots (filing_of (filed_device first) (filed_slots first)) ≡ filed_slots first
    second_slots = ap filed_slots second_is ∙ slots_again first picked_within own_fileable own_ordered.rows

    pub second_changes : filing_changes (filing_of (filed_device first) (filed_slots first)) ≡ []
    second_changes = ap filing_changes second_is ∙ changes_none first picked_within own_fileable

    pub second_writes : block_writes (filing_of (filed_device first) (filed_slots first)) ≡ 0
    second_writes = ap (λ (filing : Filing). block_writes filing) second_is ∙ writes_none first picked_within own_fileable
