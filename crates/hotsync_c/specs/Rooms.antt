-- What a call puts into the room that its caller brings.
use Rattle.std.specs.Prelude.{◌≡◌, ℕ, ℤ, pos, List, ◌++◌, take, drop, length}

-- the text as far as it fits, and behind it what stood there before
abbrev pub filled : List ℕ → List ℕ → List ℕ
filled text room = take (length room) text ++ drop (length text) room

-- the answer is how long the text is, and the room has it as far as it fits
pub record PutsIn (text room room_after : List ℕ) (answer : ℤ) : Type 0 where
  pub length_is : answer ≡ pos (length text)
  pub room_is : room_after ≡ filled text room

-- a list at the front of a room, and what stood behind it
abbrev pub put_first : {A : Type 0} → List A → List A → List A
put_first list room = list ++ drop (length list) room
