-- A link behind which a handheld of another make stands.
use Rattle.std.specs.Prelude.{◌≡◌, ◌⊎◌, List, [], ◌∷◌, ℕ, Ok}
use Rattle.dlp_requests.specs.RequestReading.{request_at}
use Rattle.dlp_requests.specs.RequestTexts.{request_text}
use Rattle.dlp_requests.specs.RequestValues.{RequestValue}
use Rattle.palm_device.specs.Devices.{Device}
use Rattle.dlp_commands.specs.DeviceSteps.{DeviceStep}
use Rattle.dlp_commands.specs.Tries.{Answered, Try, Unanswered}
use Rattle.dlp_commands.specs.declared.link.Link.{Ghosts}
use Rattle.foreign_laws.specs.Endings.{TakesEach}
use Rattle.foreign_laws.specs.Foreign.{Foreign, ForeignStep, twin}

-- the handheld that it leads to at each moment took what was heard between two moments
pub record LeadsTo {L : Type 0} (link : Ghosts L) (hand : L → Foreign) : Type 0 where
  pub takes : (old new : L) (tries : List Try) → link.heard old tries new
      → TakesEach ForeignStep (hand old) tries (hand new)

-- ---- what changes

-- our own device took the step of a request under handle 1
pub record OwnStep (old : Device) (bytes : List ℕ) (new : Device) : Type 0 where
  pub request : RequestValue
  pub asked : request_at bytes ≡ Ok request
  pub own : List ℕ
  pub step : DeviceStep old (request_text (twin request)) own new

abbrev pub OwnStepOrNone : Device → List ℕ → Device → Type 0
OwnStepOrNone old bytes new = (new ≡ old) ⊎ OwnStep old bytes new

-- by each request at most one step, in order
abbrev pub ChangesBy : Device → List Try → Device → Type 0
ChangesBy old [] new = new ≡ old
ChangesBy old (Answered bytes reply ∷ tries) new =
    (between : Device) × OwnStepOrNone old bytes between × ChangesBy between tries new
ChangesBy old (Unanswered bytes ∷ tries) new =
    (between : Device) × OwnStepOrNone old bytes between × ChangesBy between tries new
