-- What steps that may end with an error keep.
use Rattle.std.proofs.lemmas.Bool.Decides.{nat_tests}
use Rattle.std.proofs.lemmas.Grind.{common_steps}
use Rattle.std.proofs.Common.{◌≡◌, ◌<◌, ◌^◌, ℕ, Bool, true, Option, Some, Result, Ok, Err, arith}
use Rattle.std.specs.Prelude.{nat_lt, ◌&&◌}
use Rattle.dlp_commands.specs.Errors.{◌>>=◌, check, need}

-- an error that a reply can bear
abbrev pub IsCode : ℕ → Type 0
IsCode code = (0 < code) × (code < 2 ^ 16)

-- the fact holds of what was done, or there was an error
abbrev pub Keeps : {A : Type 0} → (A → Type 0) → Result A ℕ → Type 0
Keeps P (Ok x) = P x
Keeps P (Err code) = IsCode code

-- a test of that
abbrev pub may_be_code : ℕ → Bool
may_be_code code = nat_lt 0 code && nat_lt code 0x10000

pub keeps_check : {B : Type 0} (code : ℕ) (b : Bool) (next : Unit {0} → Result B ℕ) (P : B → Type 0) → may_be_code code ≡ true
    → (b ≡ true → Keeps P (next tt)) → Keeps P (check code b >>= next)
keeps_check code b next P is each = grind (arith, nat_tests, common_steps)

pub keeps_need : {A B : Type 0} (code : ℕ) (o : Option A) (next : A → Result B ℕ) (P : B → Type 0) → may_be_code code ≡ true
    → ((x : A) → o ≡ Some x → Keeps P (next x)) → Keeps P (need code o >>= next)
keeps_need code o next P is each = grind (arith, nat_tests, common_steps)

pub keeps_then : {A B : Type 0} (r : Result A ℕ) (next : A → Result B ℕ) (Q : A → Type 0) (P : B → Type 0) → Keeps Q r
    → ((x : A) → Q x → Keeps P (next x)) → Keeps P (r >>= next)
keeps_then r next Q P holds each = grind (arith, nat_tests, common_steps)
