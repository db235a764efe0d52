-- How a count of faults goes on over a run of calls.
use Rattle.std.proofs.Common.{◌≡◌, ◌∙◌, ℕ, Err, Ok, ap, arith, subst}
use Rattle.std.specs.Prelude.{IsErrOf}
use Rattle.hs_folders.specs.Causes.{HasCause, Rose}

-- what was done answers no fault
pub ok_is_no_fault : {A E : Type 0} (x : A) (fault : E) → IsErrOf (Ok x) fault → ⊥
ok_is_no_fault x fault is = cc

pub same_fault : {A E : Type 0} (fault other : E) → IsErrOf {T = A} (Err fault) other → fault ≡ other
same_fault fault other is = cc

-- a refusal is passed on with its cause
pub cause_on : {A B E : Type 0} (before mid now : ℕ) (fault other : E) → mid ≡ before
    → HasCause mid now (IsErrOf {T = A} (Err fault) other) → HasCause before now (IsErrOf {T = B} (Err fault) other)
cause_on before mid now fault other same cause =
    record {
      later = omega (arith, cause.later, same);
      rose = λ is. subst (λ n. Rose n now) same (cause.rose (ap Err (same_fault fault other is)));
      still = λ not. cause.still (λ is. not (ap Err (same_fault fault other is))) ∙ same;
    }
