-- What a handheld makes of an inquiry that ends with an answer.
use Rattle.std.specs.Prelude.{◌≡◌, ◌⊎◌, List, [], ◌∷◌, ℕ, Ok}
use Rattle.dlp_requests.specs.RequestTexts.{IsRequest, request_text}
use Rattle.dlp_commands.specs.Tries.{Answered, Try, Unanswered}
use Rattle.desktop_session.specs.Inquiries.{Asks, Ends, Inquiry}

-- a handheld that takes such steps answers each request of an inquiry, and that ends so
abbrev pub EndsOver : {S A : Type 0} → (S → List ℕ → List ℕ → S → Type 0) → Inquiry A → S → A
    → S → Type 0
EndsOver Step (Ends answer) old x new = (answer ≡ Ok x) × (new ≡ old)
EndsOver {S} Step (Asks request more) old x new =
    (reply : List ℕ) × (between : S) × IsRequest request
    × Step old (request_text request) reply between × EndsOver Step (more reply) between x new

-- the handheld is as before, or it took one step by the request
abbrev pub OneOrNone : {S : Type 0} → (S → List ℕ → List ℕ → S → Type 0) → S → List ℕ → S → Type 0
OneOrNone Step old bytes new = (new ≡ old) ⊎ ((answer : List ℕ) × Step old bytes answer new)

-- it took one step for each try that was answered; the last one may be without an answer, and then
-- it took one step or none
abbrev pub TakesEach : {S : Type 0} → (S → List ℕ → List ℕ → S → Type 0) → S → List Try → S → Type 0
TakesEach Step old [] new = new ≡ old
TakesEach {S} Step old (Answered bytes reply ∷ tries) new =
    (between : S) × Step old bytes reply between × TakesEach Step between tries new
TakesEach Step old (Unanswered bytes ∷ tries) new = (tries ≡ []) × OneOrNone Step old bytes new
