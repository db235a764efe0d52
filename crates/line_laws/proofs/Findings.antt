-- Proofs that computing finds: `Some` holds the proof.
use Rattle.std.proofs.Common.{◌≡◌, ℕ, zero, suc, ◌<◌, ◌≤◌, Bool, true, false, not, nat_le, Option, Some, None, refl, arith, below_more}
use Rattle.std.specs.Bool.{Decides, MatchBool}
use Rattle.std.specs.Option.{is_some}
use Rattle.std.proofs.lemmas.Bool.{both_ways, not-true, not_from_false, leb-true, le-leb}

infixl 20 ◌>>=◌
-- the proof that was found
pub proof : {P : Type 0} → (found : Option P) → is_some found ≡ true → P
proof (Some p) some = p
proof None some = absurd cc

-- and then: the second is looked for only where the first was found
abbrev pub ◌>>=◌ : {P Q : Type 0} → Option P → (P → Option Q) → Option Q
◌>>=◌ (Some p) later = later p
◌>>=◌ None later = None

-- a fact that a test decides
abbrev pub decide : {P : Type 0} → (test : Bool) → Decides test P → Option P
decide true decides = Some (decides.0 refl)
decide false decides = None

-- What follows from such a fact: it is looked for only where the fact holds.
abbrev pub where_so : {H P : Type 0} → (test : Bool) → Decides test H → (H → Option P) → Option (H → P)
where_so true decides find = find (decides.0 refl) >>= λ p. Some (λ h. p)
where_so false decides find = Some (λ h. absurd (both_ways _ refl (decides.1 h)))

abbrev pub branch : {P Q : Type 0} → (test : Bool) → (test ≡ true → Option P) → (test ≡ false → Option Q) → Option (MatchBool test P Q)
branch true p q = p refl
branch false p q = q refl

-- at the largest number up to this one at which it is found
abbrev pub newest_found : {P : Type 0} → (ℕ → Option P) → ℕ → Option P
newest_found find zero = None
newest_found find (suc n) = elim (find (suc n)) [ Some p ↦ Some p | None ↦ newest_found find n ]

-- at each number below this one
abbrev pub found_below : (P : ℕ → Type 0) → ((n : ℕ) → Option (P n)) → (bound : ℕ) → Option ((n : ℕ) → n < bound → P n)
found_below P find zero = Some (λ n less. absurd (omega arith))
found_below P find (suc bound) = do
  below ← found_below P find bound
  here ← find bound
  Some (λ n less. below_more P bound below here n (omega arith))

pub Decides-true : (test : Bool) → Decides test (test ≡ true)
Decides-true test = (λ e. e, λ e. e)

pub Decides-false : (test : Bool) → Decides (not test) (test ≡ false)
Decides-false test = (not-true test, not_from_false test)

pub Decides-nat_le : (a b : ℕ) → Decides (nat_le a b) (a ≤ b)
Decides-nat_le a b = (leb-true a b, le-leb a b)
