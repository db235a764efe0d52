-- What requests that change nothing leave of a handheld.
use Rattle.std.proofs.lemmas.Grind.{common_steps}
use Rattle.std.proofs.Common.{arith, ◌≡◌, ◌∙◌, ℕ, Bool, false, cond, List, [], ◌∷◌}
use Rattle.std.specs.Prelude.{filter}
use Rattle.palm_device.specs.Devices.{Device}
use Rattle.dlp_commands.specs.Changes.{changes}
use Rattle.dlp_commands.specs.DeviceRuns.{Ran, exchanged}
use Rattle.dlp_commands.proofs.StepLaws.{stepped, store_kept}

pub record IsKept (old new : Device) : Type 0 where
  pub databases : new.databases ≡ old.databases
  pub user : new.user ≡ old.user

none_first : (b : Bool) (x : List ℕ) (xs : List (List ℕ)) → cond b (x ∷ xs) xs ≡ [] → (b ≡ false) × (xs ≡ [])
none_first b x xs none = grind (arith, common_steps)

pub quiet-run : (requests replies : List (List ℕ)) (old new : Device) → filter changes requests ≡ [] → Ran old (exchanged requests replies) new → IsKept old new
quiet-run [] replies old new none ran = grind arith
quiet-run (x ∷ requests) [] old new none ran = grind arith
quiet-run (x ∷ requests) (y ∷ replies) old new none ran =
    let first = none_first (changes x) x (filter changes requests) none in
    let step = store_kept old ran.0 x y first.0 (stepped old ran.0 x y ran.1) in
    let rest = quiet-run requests replies ran.0 new first.1 ran.2 in
    record { databases = rest.databases ∙ step.0; user = rest.user ∙ step.1 }
