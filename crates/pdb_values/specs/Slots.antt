-- The slots of a desktop, one for each user that it serves: at most sixteen, and slot 0 may wait
-- for its first user (user id 0 in pilot-link's
-- pi-dlp.h: none yet).
use Rattle.std.specs.Prelude.{◌≡◌, ◌<◌, ⊤, ℕ, Bool, List, Option, None, Some, length, position, slice_index, ◌==◌, nat_lt, if◌then◌else◌}
use Rattle.pdb_values.specs.declared.slot.Slot.{Slot}
use Rattle.pdb_values.specs.declared.slot.Slot.TheVariants.{Old, New, Refused, Full}

-- the slots that a desktop can have
abbrev pub most_slots : ℕ
most_slots = 16

-- slot 0 has no user yet, and so takes the first that comes
abbrev pub is_unclaimed : List ℕ → Bool
is_unclaimed users = slice_index users 0 == 0

-- the slot of a user that none has: slot 0 where it has no user yet, else a new one where one may
-- be added and there is room
abbrev pub newcomer : List ℕ → Bool → Slot
newcomer users add =
    if is_unclaimed users then Old 0 else if add
    then (if nat_lt (length users) most_slots then New else Full) else Refused

-- the slot at this place, or that of a newcomer
abbrev pub slot_at : Option ℕ → List ℕ → Bool → Slot
slot_at (Some place) users add = Old place
slot_at None users add = newcomer users add

-- the slot of a user: slot 0 for a handheld without a user, else the one that has the user
abbrev pub slot_for : List ℕ → ℕ → Bool → Slot
slot_for users user add =
    if user == 0 then Old 0 else slot_at (position (λ other. other == user) users) users add

-- what is told of a slot holds on a desktop with so many slots: an old one is there, a new one has
-- room, and one is refused for want of room where all
-- are taken
abbrev pub IsWithin : ℕ → Slot → Type 0
IsWithin count (Old place) = place < count
IsWithin count New = count < most_slots
IsWithin count Refused = ⊤
IsWithin count Full = count ≡ most_slots
