-- The line of a session between made folders: its script is fair, and neither stops a run nor changes a byte.
use Rattle.std.proofs.lemmas.Grind.{common_steps}
use Rattle.std.proofs.Common.{◌≡◌, ◌+◌, ◌*◌, ◌/◌, ◌%◌, ◌<◌, ◌≤◌, ◌⊎◌, inl, ℕ, zero, suc, false, refl, sym, subst, arith, ne_eqb, List}
use Rattle.std.specs.Prelude.{Some, cond}
use Rattle.std.proofs.lemmas.Bool.{cases_lt}
use Rattle.line_script.specs.Scripts.{fate_by}
use Rattle.line_steps.specs.Sending.{StopsBy}
use Rattle.line_steps.specs.declared.harm.Stop.{Stop}
use Rattle.line_world.specs.Stops.{EndsBy}
use Rattle.trace_text.specs.Fates.{FateValue, Lost, Untouched, is_fault}
use Rattle.trace_text.specs.Proper.{AreNumbered}
use Rattle.trace_text.specs.Tallies.{IsFairUpTo, faults_from}
use Rattle.trace_text.specs.TraceLines.{FrameValue}
use Rattle.cmd_session.specs.Makes.{losses, made_script}
use Rattle.call_parts.proofs.UndisturbedLaws.{last_fate}

-- ---- what becomes of a frame

-- a frame is lost or goes through
fate_is : (first count number : ℕ) → (fate_by (losses first count) number ≡ Untouched) ⊎ (fate_by (losses first count) number ≡ Lost)
unfolding losses
fate_is first zero number = inl refl
fate_is first (suc count) number = grind (arith, fate_is (first + 20) count number)

-- between two multiples of 20 it goes through
goes_through : (start count whole part : ℕ) → suc part < 20 → fate_by (losses (20 * start) count) (20 * whole + suc part) ≡ Untouched
unfolding losses
goes_through start zero whole part less = refl
goes_through start (suc count) whole part less =
    grind (arith, false, ne_eqb (20 * start) (20 * whole + suc part), goes_through (suc start) count whole part less)

-- ---- the script is fair

-- what may be left over behind the last multiple of 20
abbrev slack : ℕ → ℕ
slack zero = 19
slack (suc part) = part

abbrev weight : FateValue → ℕ
weight fate = cond (is_fault fate) 1 0

fault_one : (fate : FateValue) → weight fate ≤ 1
fault_one fate = grind arith

-- behind a frame that goes through
few_later : (whole part count : ℕ) → suc part < 20
    → (suc (suc part) < 20 → 20 * faults_from (fate_by made_script) (20 * whole + suc (suc part)) count ≤ count + suc part)
    → 20 * faults_from (fate_by made_script) (20 * suc whole + zero) count ≤ count + 19
    → 20 * faults_from (fate_by made_script) (20 * whole + suc part + 1) count ≤ count + suc part
few_later whole part count less near far = grind (arith, cases_lt (suc (suc part)) 20, zero)

few_faults : (whole part count : ℕ) → part < 20 → 20 * faults_from (fate_by made_script) (20 * whole + part) count ≤ count + slack part
few_faults whole zero zero less = omega arith
few_faults whole (suc part) zero less = omega arith
few_faults whole zero (suc count) less =
    grind (arith, weight ((fate_by made_script) (20 * whole + 0)), fault_one ((fate_by made_script) (20 * whole + 0)), few_faults whole 1 count (omega arith))
few_faults whole (suc part) (suc count) less =
    grind (
      arith,
      weight ((fate_by made_script) (20 * whole + suc part)),
      goes_through 1 1000 whole part less,
      few_later whole part count less,
      few_faults whole (suc (suc part)) count,
      few_faults (suc whole) zero count (omega arith),
    )

-- of 64 neighbouring frames it loses four at most
pub made_fair : (last : ℕ) → IsFairUpTo last (fate_by made_script)
made_fair last number count some short near = grind (arith, few_faults (number / 20) (number % 20) count (omega arith), slack (number % 20))

-- ---- no frame ends the run

-- one that is lost or goes through does not
pub no_stop : {given : FateValue} (bytes : List ℕ) (why : Stop) → (given ≡ Untouched) ⊎ (given ≡ Lost) → StopsBy given bytes (Some why) → ⊥
no_stop bytes why e stops = grind (arith, common_steps)

-- a run by this script does not end by a frame
pub never_stops : {why : Stop} {frames : List FrameValue} → AreNumbered 1 (fate_by made_script) frames → EndsBy why frames → ⊥
never_stops {why} are ends =
    let found = last_fate 1 (fate_by made_script) ends.before ends.last (subst (AreNumbered 1 (fate_by made_script)) ends.is are) in
    let known : (ends.last.fate ≡ Untouched) ⊎ (ends.last.fate ≡ Lost) =
    subst (λ (f : FateValue). (f ≡ Untouched) ⊎ (f ≡ Lost)) (sym found.1) (fate_is 20 1000 found.0) in
    no_stop ends.last.bytes why known ends.stops
