-- What a link says of its faults, and when it may be asked.
use Rattle.std.specs.Prelude.{◌≡◌, ◌⊎◌, ◌≤◌, ◌<◌, ℕ, Bool, true, Option, Some, None, IsSome}
use Rattle.dlp_commands.specs.declared.link.LinkFault.{LinkFault}
use Rattle.dlp_commands.specs.declared.link.LinkFault.TheVariants.{Down}

-- what stays answered: the first fault
abbrev pub first_fault : Option LinkFault → Option LinkFault → Option LinkFault
first_fault None answered = answered
first_fault (Some fault) answered = Some fault

-- an exchange may be asked for: the link has begun, or it answered a fault and will do so again
abbrev pub MayExchange : Bool → Option LinkFault → Type 0
MayExchange begun fault = (begun ≡ true) ⊎ IsSome fault

-- a count never falls; it rose where a link went down, or it went down before
pub record WentDown (fault : Option LinkFault) (before now : ℕ) (Answered : Type 0) : Type 0 where
  pub later : before ≤ now
  pub rose : Answered → (fault ≡ Some Down) ⊎ (before < now)
