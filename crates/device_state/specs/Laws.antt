-- What calls one after the other come to.
use Rattle.std.specs.Prelude.{◌≡◌, ◌<◌, ◌^◌, ℕ, Bool, List, ◌∷◌, length, Option}
use Rattle.device_stream.specs.Alikeness.{Alike}
use Rattle.device_stream.specs.Hands.{Hand}
use Rattle.device_stream.specs.declared.talk_end.TalkEnd.{TalkEnd}
use Rattle.device_state.specs.Calls.{GoesOn}
use Rattle.device_state.specs.Hearing.{HearsBytes}
use Rattle.device_state.specs.States.{IsState}

-- what bytes are is one handheld: its hand but for texts of what was performed before, and what it
-- holds
pub record IsOneHandheld (x y : Hand) (held left : List ℕ) : Type 0 where
  pub alike : Alike x y
  pub held_is : held ≡ left

-- a handheld heard these bytes in one, said this, and is now in this state
pub record HeardAsOne (old : Hand) (bytes said last : List ℕ) : Type 0 where
  pub new : Hand
  pub left : List ℕ
  pub hears : HearsBytes old bytes said new left
  pub is : IsState last new left

-- a call with some bytes, from one state to the next, which are fewer than 2^64 bytes each
pub record HearsSome (state bytes next said : List ℕ) : Type 0 where
  pub first : ℕ
  pub later : List ℕ
  pub some : bytes ≡ first ∷ later
  pub over : Option TalkEnd
  pub spent : Bool
  pub goes_on : GoesOn state bytes next said over spent
  pub short : length next < 2 ^ 64

-- two such calls, one after the other, from a state of fewer than 2^64 bytes
pub record HearInTurn (state bytes said more later last : List ℕ) : Type 0 where
  pub short : length state < 2 ^ 64
  pub next : List ℕ
  pub first : HearsSome state bytes next said
  pub second : HearsSome next more last later
