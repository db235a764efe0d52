-- An answer of a call that exports, in one value.
use Rattle.std.proofs.Common.{◌≡◌, ap, refl, sym, ℕ, Bool, true, false, List, Err, Ok}
use Rattle.std.specs.Prelude.{IfErr, IfOk, Option, None, Some, Result}
use Rattle.palm_records.specs.Choices.{BadItem}
use Rattle.palm_records.specs.declared.choice.BrokenRecords.{BrokenRecords}
use Rattle.palm_records.specs.declared.choice.Privacy.{Privacy}
use Rattle.palm_records.specs.declared.choice.BrokenRecords.TheVariants.{Kept, Refused}
use Rattle.palm_records.specs.declared.fault.ExportFault.{ExportFault}
use Rattle.palm_records.specs.declared.fault.ExportFault.TheVariants as fault
use Rattle.hotsync_looks.specs.ExportTexts.{SaysNoText, if_held, unless_bad}

-- what is said where a call exports what a database holds, if it does
module _ {T : Type 0} (bytes : T → List ℕ) (text : List ℕ) where
  pub text_says : (held : Bool) (broken : BrokenRecords) (bad : Option BadItem) (result : Result T ExportFault)
      → (held ≡ false → result ≡ Err fault.CannotExport) → IfOk result (λ t. bytes t ≡ text) → IfOk result (λ t. broken ≡ Refused → bad ≡ None)
      → IfOk result (λ t. if_held held (unless_bad broken bad text) ≡ Ok (bytes t))
  text_says held broken bad (Err e) kind is read = tt
  text_says false broken bad (Ok t) kind is read = cc (kind refl)
  text_says true Kept bad (Ok t) kind is read = ap Ok (sym is)
  text_says true Refused None (Ok t) kind is read = ap Ok (sym is)
  text_says true Refused (Some b) (Ok t) kind is read = cc (read refl)

  pub refusal_says : (held : Bool) (broken : BrokenRecords) (bad : Option BadItem) (result : Result T ExportFault)
      → (held ≡ false → result ≡ Err fault.CannotExport) → (result ≡ Err fault.CannotExport → held ≡ false)
      → ((index place : ℕ) → result ≡ Err (fault.BadRecord index place) → (broken ≡ Refused) × (bad ≡ Some (record { index = index; place = place })))
      → IfErr result (SaysNoText (if_held held (unless_bad broken bad text)))
  refusal_says held broken bad (Ok t) none kind found = tt
  refusal_says false broken bad (Err fault.CannotExport) none kind found = refl
  refusal_says true broken bad (Err fault.CannotExport) none kind found = cc (kind refl)
  refusal_says false broken bad (Err (fault.BadRecord index place)) none kind found = cc (none refl)
  refusal_says true broken bad (Err (fault.BadRecord index place)) none kind found =
      let is = found index place refl in rw (is.0, is.1) refl
  refusal_says held broken bad (Err fault.NoMemory) none kind found = tt

-- the same of a text and a first bad record by the privacy that the call was given
pub refusal_says_by : {T : Type 0} (bytes : T → List ℕ) (text : Privacy → List ℕ) (bad : Privacy → Option BadItem) (held : Bool) (given wanted : Privacy)
    (told asked : BrokenRecords) (result : Result T ExportFault) → given ≡ wanted → told ≡ asked
    → (held ≡ false → result ≡ Err fault.CannotExport) → (result ≡ Err fault.CannotExport → held ≡ false)
    → ((index place : ℕ) → result ≡ Err (fault.BadRecord index place)
    → (told ≡ Refused) × (bad given ≡ Some (record { index = index; place = place })))
    → IfErr result (SaysNoText (if_held held (unless_bad asked (bad wanted) (text wanted))))
refusal_says_by bytes text bad held given wanted told asked result is_wanted is_asked none kind found =
    rw (← is_wanted, ← is_asked) (refusal_says bytes (text given) held told (bad given) result none kind found)
