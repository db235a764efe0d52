-- What a session leaves of its link.
use Rattle.std.specs.Prelude.{◌≡◌, ℕ, Option, Some}
use Rattle.dlp_commands.specs.declared.link.LinkFault.{LinkFault}
use Rattle.dlp_commands.specs.declared.link.LinkFault.TheVariants.{Down}
use Rattle.dlp_commands.specs.Links.{WentDown}

-- The link's own relation holds, and it is down only where its count rose or it was down before.
pub record Leaves {L : Type 0} (since : L → L → Type 0) (fault : L → Option LinkFault)
    (downs : L → ℕ) (old new : L) : Type 0 where
  pub later : since old new
  pub fell : WentDown (fault old) (downs old) (downs new) (fault new ≡ Some Down)
