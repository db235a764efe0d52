-- The slot that a handheld gets, by what a desktop knows of its users and by the name that is asked
-- for: a slot of its number, or of its name.
use Rattle.std.specs.Prelude.{ℕ, ◌==◌, ◌&&◌, ◌||◌, not, Bool, false, List, [], Option, None, Some, bytes_eq, length, map, option_and_then, position, slice_get, if◌then◌else◌}
use Rattle.std.specs.Option.{option_map_or, option_or}
use Rattle.pdb_values.specs.Slots.{slot_at}
use Rattle.pdb_values.specs.declared.slot.Slot.{Slot}
use Rattle.pdb_values.specs.declared.slot.Slot.TheVariants.{Old, Refused}
use Rattle.pdb_values.specs.declared.user.Marks.{Marks}
use Rattle.pdb_values.specs.declared.user.UserInfo.{UserInfo}
use Rattle.desktop_session.specs.declared.seat.UserWish.{UserWish}

-- ---- what is asked

-- nothing is asked of the user
abbrev pub no_wish : UserWish
no_wish = record { name = []; add = false }

-- a slot that waits for its first user
abbrev pub unclaimed : Marks
unclaimed = record { pc = 0; user = 0; last = 0; name = [] }

-- ---- the slot

-- the numbers of slots
abbrev pub numbers_of : List Marks → List ℕ
numbers_of marks = map (λ (slot : Marks). slot.user) marks

-- a name is none
abbrev pub is_empty : List ℕ → Bool
is_empty name = length name == 0

abbrev pub is_same : List ℕ → List ℕ → Bool
is_same name other = bytes_eq name other

-- a slot has a number and this name
abbrev pub has_name : List ℕ → Marks → Bool
has_name name slot = not (slot.user == 0) && is_same slot.name name

-- the first slot of a name, if it is one
abbrev pub place_named : List Marks → List ℕ → Option ℕ
place_named marks name = if is_empty name then None else position (has_name name) marks

-- the slot of a number
abbrev pub place_numbered : List Marks → ℕ → Option ℕ
place_numbered marks user = position (λ (slot : Marks). slot.user == user) marks

-- the slot of a handheld: the one of its number, else the first one of its name; where it has no
-- number, the first one of the name that is asked for
abbrev pub place_known : List Marks → List ℕ → UserInfo → Option ℕ
place_known marks name handheld =
    if handheld.user == 0 then place_named marks name
    else option_or (place_numbered marks handheld.user) (place_named marks handheld.name)

-- a name is asked for, and a side that has a number has another one
abbrev pub is_another : List ℕ → ℕ → List ℕ → Bool
is_another name user own = not (is_empty name) && (not (user == 0) && not (is_same own name))

-- so the slot at this place has, if there is one
abbrev pub is_another_at : List Marks → List ℕ → Option ℕ → Bool
is_another_at marks name place =
    option_map_or (λ (slot : Marks). is_another name slot.user slot.name)
    (option_and_then (slice_get marks) place) false

-- the handheld has another name than the one that is asked for, or its slot has
abbrev pub is_other_user : List Marks → List ℕ → UserInfo → Bool
is_other_user marks name handheld =
    is_another name handheld.user handheld.name
    || is_another_at marks name (place_known marks name handheld)

-- a handheld without a number, for which no name is asked
abbrev pub is_nobody : List ℕ → UserInfo → Bool
is_nobody name handheld = (handheld.user == 0) && is_empty name

-- the slot of a handheld: none where another name is asked for; slot 0 where it has no number and
-- none is asked for; else the one that it is known in, or that of a newcomer
abbrev pub seat_for : List Marks → UserWish → UserInfo → Slot
seat_for marks wish handheld =
    if is_other_user marks wish.name handheld then Refused
    else if is_nobody wish.name handheld then Old 0
    else slot_at (place_known marks wish.name handheld) (numbers_of marks) wish.add
