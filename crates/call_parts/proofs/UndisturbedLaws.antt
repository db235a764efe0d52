-- Good objects refuse nothing, and a kind line goes on.
use Rattle.std.proofs.lemmas.Grind.{common_steps}
use Rattle.std.proofs.Common.{◌≡◌, ◌⊎◌, ◌∙◌, ◌+◌, ℕ, List, [], ◌∷◌, ◌++◌, inl, inr, refl, subst, arith, Ok, Err, zero, suc, true, false}
use Rattle.std.specs.Prelude.{IfSome, None, Option, Some, IsSome, string_bytes}
use Rattle.hs_folders.specs.FileMaps.{FileMap}
use Rattle.desk_journal.specs.Overlays.{finished}
use Rattle.cmd_status.specs.declared.status.Status.{Status}
use Rattle.std.specs.declared.alloc.Global.{Global}
use Rattle.handheld_files.specs.declared.fault.OpenFault.{OpenFault}
use Rattle.trace_text.specs.Fates.{FateValue, is_stop}
use Rattle.trace_text.specs.Proper.{AreNumbered}
use Rattle.trace_text.specs.TraceLines.{FrameValue}
use Rattle.line_script.specs.Rules.{RuleValue}
use Rattle.line_script.specs.Scripts.{fate_by}
use Rattle.line_script.proofs.ScriptLaws.{one_reading}
use Rattle.line_world.specs.Stops.{EndsBy}
use Rattle.desk_store.specs.declared.fault.DeskOpenFault.{DeskOpenFault}
use Rattle.call_parts.specs.Causes.{ByEnd}
use Rattle.cmd_status.specs.FolderFaults.{desktop_status, handheld_status}
use Rattle.call_parts.specs.Refusals.{DesktopRefuses, HandheldRefuses, IsDesktopFailure, IsHandheldFailure, is_desktop, is_handheld}
use Rattle.call_parts.specs.Scripts.{IsScript, IsScriptRefusal, ScriptRefuses, ScriptShows}
use Rattle.call_parts.specs.Undisturbed.{IsGoodDesktop, IsGoodHandheld, IsGoodScript}
use Rattle.call_parts.specs.declared.report.SessionEnd.{SessionEnd}
use Rattle.cmd_status.specs.declared.status.Status.TheVariants.{BadScript, TooLong, HandheldFolder, DesktopFolder, SourceRead, TraceWrite, OutWrite, NoMemory, InUse}
use Rattle.handheld_files.specs.Openings as handheld
use Rattle.handheld_files.specs.declared.fault.OpenFault.TheVariants as opening
use Rattle.line_script.specs.declared.fault.ScriptFault.TheVariants as script
use Rattle.line_steps.specs.declared.harm.Stop.TheVariants as stop
use Rattle.desk_store.specs.Desks as desktop
use Rattle.trace_text.specs.declared.frame.End.TheVariants as line_end
use Rattle.trace_text.specs.Tallies.{IsFairUpTo, faults_from}

pub none_is_some : {A : Type 0} {a : A} → None ≡ Some a → ⊥
none_is_some e = cc

none_holds : (A : Type 0) → IsSome {T = A} None → ⊥
none_holds A e = cc

-- bytes that are a script show no fault of one
unshown_script : {bytes : List ℕ} {rules : List RuleValue} (refusal : Status) → IsScript bytes rules → IsScriptRefusal refusal
    → ScriptShows refusal bytes → (refusal ≡ SourceRead) ⊎ (refusal ≡ NoMemory)
unshown_script SourceRead is refuses shown = inl refl
unshown_script NoMemory is refuses shown = inr refl
unshown_script TooLong is refuses (inl long) = let short = is.short in absurd (omega (arith, short, long))
unshown_script {bytes} {rules} TooLong is refuses (inr shown) =
    let same = one_reading bytes (Ok rules) (Err script.TooLong) is.reads shown.1 (λ e. cc) (λ e. cc) in cc
unshown_script {bytes} {rules} (BadScript line) is refuses shown =
    let same = one_reading bytes (Ok rules) (Err (script.BadLine line)) is.reads shown.1 (λ e. cc) (λ e. cc) in cc
unshown_script _ is refuses shown = absurd shown

-- nor does a source that told them
pub judged_script : (path left : Option (List ℕ)) {refusal : Status} → IsGoodScript path left → ScriptRefuses path left refusal
    → (refusal ≡ SourceRead) ⊎ (refusal ≡ NoMemory)
judged_script None left good refuses = absurd (none_is_some refuses.named)
judged_script (Some name) None good refuses = absurd (none_holds (List ℕ) (good.told refl))
judged_script (Some name) (Some bytes) {refusal} good refuses = unshown_script refusal good.scripted refuses.is refuses.shown

-- good files of a handheld show no fault of theirs
unshown_handheld : {told : Option FileMap} (fault : OpenFault) → IsGoodHandheld told → IfSome told (handheld.ShowsOpenFault fault)
    → (handheld_status fault ≡ HandheldFolder) ⊎ (handheld_status fault ≡ NoMemory)
unshown_handheld opening.Keeper good shown = inl refl
unshown_handheld opening.NoMemory good shown = inr refl
unshown_handheld opening.TooMany good shown = grind arith
unshown_handheld (opening.BadFile name kind place) good shown =
    let bad = subst (λ (t : Option FileMap). IfSome t (handheld.ShowsOpenFault (opening.BadFile name kind place))) good.is shown in
    absurd (good.good (string_bytes {Z = Global} name) kind place bad.1)

right_handheld : {told : Option FileMap} → IsGoodHandheld told → IfSome told (λ files. is_desktop files ≡ true) → ⊥
right_handheld good wrong = let both = subst (λ (t : Option FileMap). IfSome t (λ files. is_desktop files ≡ true)) good.is wrong in
    let right = good.side in cc

pub judged_handheld : {told : Option FileMap} {refusal : Status} → IsGoodHandheld told → HandheldRefuses told refusal → IsHandheldFailure refusal
judged_handheld good (inl failed) = failed
judged_handheld good (inr (inl wrong)) = absurd (right_handheld good wrong.side)
judged_handheld good (inr (inr refuses)) = elim (unshown_handheld refuses.fault good refuses.shown) [
  | inl e ↦ inl (refuses.is ∙ e)
  | inr e ↦ inr (inr (refuses.is ∙ e))
]

-- nor do those of a desktop
unshown_desktop : {told : Option FileMap} (fault : DeskOpenFault) → IsGoodDesktop told → IfSome told (λ files. desktop.ShowsDeskFault (finished files) fault)
    → (desktop_status fault ≡ DesktopFolder) ⊎ (desktop_status fault ≡ NoMemory)
unshown_desktop fault good shown = grind (arith, common_steps)

right_desktop : {told : Option FileMap} → IsGoodDesktop told → IfSome told (λ files. is_handheld files ≡ true) → ⊥
right_desktop good wrong = let both = subst (λ (t : Option FileMap). IfSome t (λ files. is_handheld files ≡ true)) good.is wrong in
    let right = good.side in cc

pub judged_desktop : {told : Option FileMap} {refusal : Status} → IsGoodDesktop told → DesktopRefuses told refusal → IsDesktopFailure refusal
judged_desktop good (inl failed) = failed
judged_desktop good (inr (inl wrong)) = absurd (right_desktop good wrong.side)
judged_desktop good (inr (inr refuses)) = elim (unshown_desktop refuses.fault good refuses.shown) [
  | inl e ↦ inl (refuses.is ∙ e)
  | inr e ↦ inr (inr (refuses.is ∙ e))
]

-- no object is blamed
pub record BlamesNone (status : Status) : Type 0 where
  pub source : status ≡ SourceRead → ⊥
  pub handheld : status ≡ HandheldFolder → ⊥
  pub desktop : status ≡ DesktopFolder → ⊥
  pub handheld_in_use : status ≡ InUse line_end.Handheld → ⊥
  pub desktop_in_use : status ≡ InUse line_end.Desktop → ⊥
  pub trace : status ≡ TraceWrite → ⊥
  pub out : status ≡ OutWrite → ⊥

pub failed_handheld : {status : Status} → BlamesNone status → IsHandheldFailure status → status ≡ NoMemory
failed_handheld blames (inl e) = absurd (blames.handheld e)
failed_handheld blames (inr (inl e)) = absurd (blames.handheld_in_use e)
failed_handheld blames (inr (inr e)) = e

pub failed_desktop : {status : Status} → BlamesNone status → IsDesktopFailure status → status ≡ NoMemory
failed_desktop blames (inl e) = absurd (blames.desktop e)
failed_desktop blames (inr (inl e)) = absurd (blames.desktop_in_use e)
failed_desktop blames (inr (inr e)) = e

-- the last frame has a fate of the script
pub last_fate : (number : ℕ) (script : ℕ → FateValue) (before : List FrameValue) (last : FrameValue) → AreNumbered number script (before ++ last ∷ [])
    → (m : ℕ) × (last.fate ≡ script m)
last_fate number script [] last are = (number, are.1)
last_fate number script (frame ∷ before) last are = last_fate (number + 1) script before last are.3

-- a line that goes on under its script ends with no frame that is unplugged or aborted
pub never_unplugged : (script : ℕ → FateValue) (frames : List FrameValue) → AreNumbered 1 script frames → ((number : ℕ) → is_stop (script number) ≡ false)
    → EndsBy stop.Unplugged frames → ⊥
never_unplugged script frames are goes_on ends = grind (arith, last_fate 1 script ends.before ends.last (subst (AreNumbered 1 script) ends.is are))

pub never_aborted : (script : ℕ → FateValue) (frames : List FrameValue) → AreNumbered 1 script frames → ((number : ℕ) → is_stop (script number) ≡ false)
    → EndsBy stop.Aborted frames → ⊥
never_aborted script frames are goes_on ends = grind (arith, last_fate 1 script ends.before ends.last (subst (AreNumbered 1 script) ends.is are))

pub by_end_well : (end : SessionEnd) (Not Began Well : Type 0) → (Not → Well) → (Began → Well) → ByEnd end Not Began → Well
by_end_well end Not Began Well not began shown = grind (arith, common_steps)

no_faults : (number count : ℕ) → faults_from (fate_by []) number count ≡ 0
no_faults number zero = refl
no_faults number (suc count) = let rest = no_faults (number + 1) count in omega (arith, rest)

pub always_fair : (last : ℕ) → IsFairUpTo last (fate_by [])
always_fair last number count some short near = let none = no_faults number count in omega (arith, none)
