-- What standard output took.
use Rattle.std.proofs.lemmas.Grind.{common_steps}
use Rattle.std.proofs.Common.{arith, ◌≡◌, inl, inr, refl, ℕ, List}
use Rattle.std.specs.Prelude.{Option}
use Rattle.hs_folders.specs.Appends.{AppendsPrefix}
use Rattle.hs_folders.specs.Causes.{Rose}
use Rattle.hs_folders.proofs.Prefixes.{none_taken}
use Rattle.cmd_status.specs.Lines.{no_memory_line, refusal_line}
use Rattle.cmd_status.specs.Printed.{IsPrinted, IsShown, IsSomeLines, TookSomeLines}
use Rattle.cmd_status.specs.Told.{SinkTold}
use Rattle.cmd_status.specs.declared.status.Status.{Status}
use Rattle.cmd_status.specs.declared.status.Status.TheVariants.{Usage, OutWrite, NoMemory}

-- where memory did not serve for any line
pub memory_alone : (IsText : List ℕ → Type 0) {old new : Option (List ℕ)} → AppendsPrefix old new no_memory_line → TookSomeLines IsText old new
memory_alone IsText {old} took = record {
  lines = refusal_line Usage;
  are_lines = inr (Usage, refl);
  took = record { between = old; first = none_taken old (refusal_line Usage); then = took };
}

-- so the status is told by what was taken
pub memory_printed : (IsText : List ℕ → Type 0) (out out_after : SinkTold) (status : Status) → status ≡ NoMemory
    → AppendsPrefix out.taken out_after.taken no_memory_line → out_after.paths ≡ out.paths → IsPrinted IsText out out_after status
memory_printed IsText out out_after status is took path = grind (arith, memory_alone IsText took)

some_lines : (P Q : List ℕ → Type 0) → ((text : List ℕ) → P text → Q text) → (lines : List ℕ) → IsSomeLines P lines → IsSomeLines Q lines
some_lines P Q leads lines e = grind (arith, common_steps)

-- what follows of the text that was printed
pub printed_weaken : {P : List ℕ → Type 0} (Q : List ℕ → Type 0) {out out_after : SinkTold} {status : Status} → ((text : List ℕ) → P text → Q text)
    → IsPrinted P out out_after status → IsPrinted Q out out_after status
printed_weaken {P} Q leads printed = grind (arith, some_lines P Q leads)

-- a result that standard output failed to take is told by its count
pub shown_failed : (IsText : List ℕ → Type 0) {out out_after err err_after : SinkTold} {status : Status} → IsShown IsText out out_after err err_after status
    → status ≡ OutWrite → Rose out.faults out_after.faults
shown_failed IsText (inl text) is = text.printed.failed is
shown_failed IsText (inr line) is = absurd (line.printed.in_part is).is_text
