-- A byte that names a function is that function's.
use Rattle.std.proofs.lemmas.Bool.Decides.{nat_tests}
use Rattle.std.proofs.lemmas.Grind.{common_steps}
use Rattle.std.proofs.Common.{◌≡◌, ℕ, cond, eqb, Option, Some, None, arith}
use Rattle.dlp_args.specs.declared.function.Function.{Function}
use Rattle.dlp_args.specs.declared.function.Function.TheVariants as function
use Rattle.dlp_args.specs.Functions.{function_of, number_of}

named : (n : ℕ) {k : ℕ} (g : Function) {f : Function} (rest : Option Function) → k ≡ number_of g → (rest ≡ Some f → n ≡ number_of f)
    → cond (eqb n k) (Some g) rest ≡ Some f
    → n ≡ number_of f
named n g rest is more e = grind (arith, nat_tests, common_steps)

unnamed : (n : ℕ) {f : Function} → (let none : Option Function = None in none) ≡ Some f → n ≡ number_of f
unnamed n e = absurd cc

pub number_is : (n : ℕ) (f : Function) → function_of n ≡ Some f → n ≡ number_of f
unfolding function_of
number_is n f function_of = grind (arith, nat_tests, common_steps)
