-- What both sides know of each other: the user that they agree on, and what each knows once a
-- session is done.
use Rattle.std.specs.Prelude.{ℕ, ◌==◌, ◌&&◌, ◌||◌, not, Bool, List, ◌∷◌, if◌then◌else◌}
use Rattle.std.specs.List.{list_any}
use Rattle.pdb_values.specs.declared.user.Marks.{Marks}
use Rattle.pdb_values.specs.declared.user.UserInfo.{UserInfo}
use Rattle.desk_store.specs.Shelves.{marks_of}
use Rattle.desktop_session.specs.Seats.{has_name, is_empty, is_nobody, numbers_of}
use Rattle.session_plan.specs.Losses.{is_stranger_to}
use Rattle.session_plan.specs.Numbers.{new_number}
use Rattle.session_plan.specs.Tasks.{Meeting, slot_of}

-- ---- the user

-- the slot's user is agreed on where the handheld has none and the slot has one; else the
-- handheld's is
abbrev pub slots_user_stays : UserInfo → Marks → Bool
slots_user_stays handheld slot = (handheld.user == 0) && not (slot.user == 0)

-- neither side has a number, and a name is asked for
abbrev pub is_named_first : List ℕ → UserInfo → Marks → Bool
is_named_first name handheld slot =
    not (is_empty name) && ((handheld.user == 0) && (slot.user == 0))

-- a slot has the handheld's name, and a number other than its own
abbrev pub has_name_too : UserInfo → Marks → Bool
has_name_too handheld slot = has_name handheld.name slot && not (slot.user == handheld.user)

-- a handheld has a name, and no slot of another number has it
abbrev pub has_own_name : List Marks → UserInfo → Bool
has_own_name marks handheld =
    not (is_empty handheld.name) && not (list_any (has_name_too handheld) marks)

-- A stranger meets a slot that has a number: one that has a number, too, or for which a name is asked.
-- One that has the slot's own number has to be found by its name from then on, since a session may
-- stop before it gets the new one.
abbrev pub begins_life : List Marks → List ℕ → UserInfo → Marks → Bool
begins_life marks name handheld slot =
    not (slot.user == 0) && (not (is_nobody name handheld) && (is_stranger_to handheld slot
    && (not (handheld.user == slot.user) || has_own_name marks handheld)))

-- both sides get a new number
abbrev pub gets_number : List Marks → List ℕ → UserInfo → Marks → Bool
gets_number marks name handheld slot =
    is_named_first name handheld slot || begins_life marks name handheld slot

-- the name of the user that both sides agree on
abbrev pub agreed_name : List ℕ → UserInfo → Marks → List ℕ
agreed_name name handheld slot =
    if is_named_first name handheld slot then name
    else if slots_user_stays handheld slot then slot.name else handheld.name

-- its number, where neither side gets a new one
abbrev pub kept_user : UserInfo → Marks → ℕ
kept_user handheld slot = if slots_user_stays handheld slot then slot.user else handheld.user

-- a new one: none of another slot, and not the handheld's
abbrev pub other_user : ℕ → List ℕ → List Marks → UserInfo → Marks → ℕ
other_user date name marks handheld slot =
    new_number date (agreed_name name handheld slot) slot.user (handheld.user ∷ numbers_of marks)

-- the number of the user that both sides agree on
abbrev pub agreed_user : ℕ → List ℕ → List Marks → UserInfo → Marks → ℕ
agreed_user date name marks handheld slot =
    if gets_number marks name handheld slot then other_user date name marks handheld slot
    else kept_user handheld slot

-- ---- what both know

-- while a session is under way the handheld's last desktop is none
abbrev pub begun_user : UserInfo → UserInfo
begun_user handheld = record handheld { pc = 0 }

-- what the desktop knows once a session of this date is done, where it has slots with these marks,
-- and this name is asked for: the agreed user, and the date
abbrev pub done_marks : ℕ → List ℕ → List Marks → UserInfo → Marks → Marks
done_marks date name marks handheld slot = record {
  pc = slot.pc;
  user = agreed_user date name marks handheld slot;
  last = date;
  name = agreed_name name handheld slot;
}

-- what it knows once a session of both sides is done
abbrev pub done_of : Meeting → Marks
done_of meeting =
    done_marks meeting.wishes.date meeting.wishes.user.name (marks_of meeting.slots)
    meeting.device.user (slot_of meeting).marks

-- what the handheld knows then: the same user, this desktop, and the date as both of its dates
abbrev pub done_user : UserInfo → Marks → UserInfo
done_user handheld done = record handheld {
  user = done.user;
  pc = done.pc;
  good = done.last;
  last = done.last;
  name = done.name;
}
