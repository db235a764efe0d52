-- An answer of a call that exports, in one value.
use Rattle.std.proofs.Common.{◌≡◌, ap, refl, sym, ℕ, Bool, true, false, List, Err, Ok}
use Rattle.std.specs.Prelude.{IfErr, IfOk, Option, None, Some, Result}
use Rattle.palm_records.specs.Choices.{BadItem}
use Rattle.palm_records.specs.declared.choice.BrokenRecords.{BrokenRecords}
use Rattle.palm_records.specs.declared.choice.BrokenRecords.TheVariants.{Kept, Refused}
use Rattle.palm_records.specs.declared.fault.ExportFault.{ExportFault}
use Rattle.palm_records.specs.declared.fault.ExportFault.TheVariants as fault
use Rattle.hotsync_c.specs.Exports.{SaysFault, if_held, unless_bad}

-- what is said where a call exports what a database holds, if it does
module _ {T : Type 0} (bytes : T → List ℕ) (text : List ℕ) where
  pub refusal_says : (held : Bool) (broken : BrokenRecords) (bad : Option BadItem) (result : Result T ExportFault)
      → (held ≡ false → result ≡ Err fault.CannotExport) → (result ≡ Err fault.CannotExport → held ≡ false)
      → ((index place : ℕ) → result ≡ Err (fault.BadRecord index place) → (broken ≡ Refused) × (bad ≡ Some (record { index = index; place = place })))
      → IfErr result (SaysFault (if_held held (unless_bad broken bad text)))
  refusal_says held broken bad (Ok t) none kind found = tt
  refusal_says false broken bad (Err fault.CannotExport) none kind found = refl
  refusal_says true broken bad (Err fault.CannotExport) none kind found = cc (kind refl)
  refusal_says false broken bad (Err (fault.BadRecord index place)) none kind found = cc (none refl)
  refusal_says true broken bad (Err (fault.BadRecord index place)) none kind found =
      let is = found index place refl in rw (is.0, is.1) refl
  refusal_says held broken bad (Err fault.NoMemory) none kind found = tt
