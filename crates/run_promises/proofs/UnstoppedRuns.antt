-- A run that is refused was not stopped by its line.
use Rattle.std.proofs.lemmas.Grind.{common_steps}
use Rattle.std.proofs.Common.{inl, inr, sym, subst, arith}
use Rattle.handheld_files.specs.declared.fault.OpenFault.{OpenFault}
use Rattle.desk_store.specs.declared.fault.DeskOpenFault.{DeskOpenFault}
use Rattle.run_words.specs.Runs.{Run}
use Rattle.run_promises.specs.Clean.{IsLineStop}
use Rattle.call_parts.specs.Refusals.{IsDesktopFailure, IsHandheldFailure}
use Rattle.cmd_session.specs.Runs.{RunRefuses}
use Rattle.cmd_status.specs.FolderFaults.{desktop_status, handheld_status}
use Rattle.call_parts.specs.Scripts.{IsScriptRefusal}
use Rattle.call_parts.specs.Told.{CallTold}
use Rattle.cmd_status.specs.declared.status.Status.{Status}

-- by what refuses it
script_not_stopped : (refusal : Status) → IsScriptRefusal refusal → ¬ IsLineStop refusal
script_not_stopped refusal is = grind (arith, common_steps)

handheld_not_stopped : (fault : OpenFault) → ¬ IsLineStop (handheld_status fault)
handheld_not_stopped fault = grind (arith, common_steps)

handheld_failed_not_stopped : (refusal : Status) → IsHandheldFailure refusal → ¬ IsLineStop refusal
handheld_failed_not_stopped refusal is = grind (arith, common_steps)

desktop_failed_not_stopped : (refusal : Status) → IsDesktopFailure refusal → ¬ IsLineStop refusal
desktop_failed_not_stopped refusal is = grind (arith, common_steps)

desktop_not_stopped : (fault : DeskOpenFault) → ¬ IsLineStop (desktop_status fault)
desktop_not_stopped fault = grind (arith, common_steps)

module _ (run : Run) (before : CallTold) (status : Status) where
  pub refused_not_stopped : RunRefuses run before status → ¬ IsLineStop status
  refused_not_stopped (inl script) = script_not_stopped status script.is
  refused_not_stopped (inr (_, inl (inl failed))) = handheld_failed_not_stopped status failed
  refused_not_stopped (inr (_, inl (inr (inl wrong)))) = subst (λ (s : Status). ¬ IsLineStop s) (sym wrong.is) (λ no. no)
  refused_not_stopped (inr (_, inl (inr (inr handheld)))) =
      subst (λ (s : Status). ¬ IsLineStop s) (sym handheld.is) (handheld_not_stopped handheld.fault)
  refused_not_stopped (inr (_, inr (_, inl (inl failed)))) = desktop_failed_not_stopped status failed
  refused_not_stopped (inr (_, inr (_, inl (inr (inl wrong))))) = subst (λ (s : Status). ¬ IsLineStop s) (sym wrong.is) (λ no. no)
  refused_not_stopped (inr (_, inr (_, inl (inr (inr desktop))))) =
      subst (λ (s : Status). ¬ IsLineStop s) (sym desktop.is) (desktop_not_stopped desktop.fault)
  refused_not_stopped (inr (_, inr (_, inr (_, trace)))) =
      elim trace.is [
        | inl is ↦ subst (λ (s : Status). ¬ IsLineStop s) (sym is) (λ no. no)
        | inr is ↦ subst (λ (s : Status). ¬ IsLineStop s) (sym is) (λ no. no)
      ]
