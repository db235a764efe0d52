-- The frames that a step adds, and the fates that a script gives.
use Rattle.std.specs.Prelude.{◌≡◌, ◌⊎◌, ℕ, ◌+◌, false, ⊤, List, [], ◌∷◌, ◌++◌, length}
use Rattle.trace_text.specs.declared.frame.End.{End}
use Rattle.trace_text.specs.declared.frame.Frame.{Frame}
use Rattle.trace_text.specs.Fates.{FateValue, fate_value}
use Rattle.line_script.specs.Rules.{RuleValue}
use Rattle.line_script.specs.Scripts.{fate_by}

-- one frame more, with the next number and this fate, that didn't come yet
pub record AddsFrame (given : FateValue) (old new : List Frame) : Type 0 where
  pub frame : Frame
  pub is : new ≡ old ++ frame ∷ []
  pub number_is : frame.number ≡ length old + 1
  pub fate_is : fate_value frame.fate ≡ given
  pub came_is : frame.came ≡ false

-- one or none
abbrev pub AddsOne : FateValue → List Frame → List Frame → Type 0
AddsOne given old new = (new ≡ old) ⊎ AddsFrame given old new

-- two, one or none
abbrev pub AddsTwo : FateValue → FateValue → List Frame → List Frame → Type 0
AddsTwo given other old new =
    AddsOne given old new ⊎ (mid : List Frame) × AddsFrame given old mid × AddsFrame other mid new

-- the first frame more, before any others, is of this end
pub record StartsWith (X : End) (old new : List Frame) : Type 0 where
  pub first : Frame
  pub later : List Frame
  pub is : new ≡ old ++ first ∷ later
  pub from_is : first.from ≡ X

-- it is, where there is one
abbrev pub IsFirst : End → List Frame → List Frame → Type 0
IsFirst X old new = (new ≡ old) ⊎ StartsWith X old new

-- each frame has its number, from this one on, and the fate that the script gives it
abbrev pub AllBy : List RuleValue → ℕ → List Frame → Type 0
AllBy script number [] = ⊤
AllBy script number (frame ∷ later) =
    (frame.number ≡ number) × (fate_value frame.fate ≡ fate_by script number)
    × AllBy script (number + 1) later
