-- Equal contents: the test decides equality.
use Rattle.std.proofs.Common.{◌≡◌, ◌↔◌, ℕ, List, Bool, true, false, IsTrue, refl, arith}
use Rattle.std.specs.Bool.{beq}
use Rattle.pdb_values.specs.Contents.{ContentValue}
use Rattle.pdb_values.proofs.NamedLaws.{bytes_eq-is, bytes_eq-own}
use Rattle.conduit_rules.specs.Contents.{same_content}
use Rattle.std.proofs.lemmas.Grind.{common_steps}
use Rattle.std.proofs.lemmas.Bool.Decides.{nat_tests}

beq_same : (b : Bool) → beq b b ≡ true
beq_same true = refl
beq_same false = refl

beq_is : (a b : Bool) → beq a b ≡ true → a ≡ b
beq_is true false e = cc
beq_is false true e = cc
beq_is a b e = refl

pub same_content-same : (a : ContentValue) → same_content a a ≡ true
unfolding same_content
same_content-same a = grind (arith, bytes_eq-own a.bytes, beq_same a.secret)

pub same_content-is : (a b : ContentValue) → same_content a b ≡ true → a ≡ b
unfolding same_content
same_content-is a b e =
    let category : a.category ≡ b.category = grind arith in
    let secret : a.secret ≡ b.secret = beq_is a.secret b.secret (grind arith) in
    let bytes : a.bytes ≡ b.bytes = bytes_eq-is a.bytes b.bytes (grind arith) in
    λ k. record { category = category k; secret = secret k; bytes = bytes k }

other : (r : Bool) (a b : ContentValue) → same_content a b ≡ r → (a ≡ b → IsTrue false) → false ≡ r
other true a b e is = absurd (let h : false ≡ true = is (same_content-is a b e) in cc)
other false a b e is = refl

-- a test that decides equality is this one
pub same_content-from : (r : Bool) (a b : ContentValue) → (IsTrue r ↔ (a ≡ b)) → r ≡ same_content a b
same_content-from r a b is = grind (arith, common_steps, nat_tests, same_content-same, other)
