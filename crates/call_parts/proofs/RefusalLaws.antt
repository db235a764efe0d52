-- A refusal before a session is that of one object, and what was not touched stays.
use Rattle.std.proofs.lemmas.Grind.{common_steps}
use Rattle.std.proofs.Common.{◌≡◌, inl, inr, refl, sym, subst, arith}
use Rattle.std.specs.Prelude.{Option}
use Rattle.hs_folders.specs.FileMaps.{FileMap}
use Rattle.hs_folders.proofs.MomentLaws.{no_moment}
use Rattle.handheld_files.specs.declared.fault.OpenFault.{OpenFault}
use Rattle.desk_journal.specs.Overlays.{FinishesAs}
use Rattle.desk_store.specs.declared.fault.DeskOpenFault.{DeskOpenFault}
use Rattle.trace_text.specs.declared.frame.End.{End}
use Rattle.call_parts.specs.Refusals.{BlamesHandheld, BlamesSource, DesktopRefuses, HandheldRefuses, IsDesktopFailure, IsHandheldFailure, IsTraceRefusal, LeavesDesktopUnread}
use Rattle.cmd_status.specs.FolderFaults.{desktop_status, handheld_status}
use Rattle.call_parts.specs.Stays.{StandsAsItDid, StaysAsItWas}
use Rattle.call_parts.specs.Scripts.{IsScriptRefusal}
use Rattle.call_parts.specs.Told.{FolderTold}
use Rattle.cmd_status.specs.declared.status.Status.{Status}
use Rattle.cmd_status.specs.declared.status.Status.TheVariants.{Done, HandheldFolder, DesktopFolder, SourceRead, TraceWrite, OutWrite, WrongSide, InUse}
use Rattle.trace_text.specs.declared.frame.End.TheVariants as line_end

-- a refusal of a script is no other one
pub record IsScriptAlone (refusal : Status) : Type 0 where
  pub handheld : refusal ≡ HandheldFolder → ⊥
  pub desktop : refusal ≡ DesktopFolder → ⊥
  pub trace : refusal ≡ TraceWrite → ⊥
  pub done : refusal ≡ Done → ⊥
  pub out : refusal ≡ OutWrite → ⊥
  pub in_use : (end : End) → refusal ≡ InUse end → ⊥
  pub unread : LeavesDesktopUnread refusal → ⊥

pub script_alone : (refusal : Status) → IsScriptRefusal refusal → IsScriptAlone refusal
script_alone refusal is = grind arith

-- a refusal of the handheld's folder is no other one
pub record IsHandheldAlone (refusal : Status) : Type 0 where
  pub source : refusal ≡ SourceRead → ⊥
  pub desktop : refusal ≡ DesktopFolder → ⊥
  pub trace : refusal ≡ TraceWrite → ⊥
  pub done : refusal ≡ Done → ⊥
  pub out : refusal ≡ OutWrite → ⊥
  pub script : BlamesSource refusal → ⊥
  pub in_use : refusal ≡ InUse line_end.Desktop → ⊥
  pub unread : LeavesDesktopUnread refusal → ⊥

handheld_cases : (fault : OpenFault) → IsHandheldAlone (handheld_status fault)
handheld_cases fault = grind (arith, common_steps)

handheld_failed : (refusal : Status) → IsHandheldFailure refusal → IsHandheldAlone refusal
handheld_failed refusal is = grind (arith, common_steps)

handheld_wrong : IsHandheldAlone (WrongSide line_end.Handheld)
handheld_wrong = grind (arith, common_steps)

pub handheld_alone : {held : Option FileMap} {refusal : Status} → HandheldRefuses held refusal → IsHandheldAlone refusal
handheld_alone {refusal = refusal} (inl failed) = handheld_failed refusal failed
handheld_alone (inr (inl wrong)) = subst IsHandheldAlone (sym wrong.is) handheld_wrong
handheld_alone (inr (inr refuses)) = subst IsHandheldAlone (sym refuses.is) (handheld_cases refuses.fault)

-- a refusal of the desktop's folder is no other one
pub record IsDesktopAlone (refusal : Status) : Type 0 where
  pub source : refusal ≡ SourceRead → ⊥
  pub handheld : refusal ≡ HandheldFolder → ⊥
  pub trace : refusal ≡ TraceWrite → ⊥
  pub done : refusal ≡ Done → ⊥
  pub out : refusal ≡ OutWrite → ⊥
  pub script : BlamesSource refusal → ⊥
  pub palm : BlamesHandheld refusal → ⊥
  pub in_use : refusal ≡ InUse line_end.Handheld → ⊥

desktop_cases : (fault : DeskOpenFault) → IsDesktopAlone (desktop_status fault)
desktop_cases fault = grind (arith, common_steps)

pub desktop_failed : (refusal : Status) → IsDesktopFailure refusal → IsDesktopAlone refusal
desktop_failed refusal is = grind (arith, common_steps)

desktop_wrong : IsDesktopAlone (WrongSide line_end.Desktop)
desktop_wrong = grind (arith, common_steps)

pub desktop_alone : {kept : Option FileMap} {refusal : Status} → DesktopRefuses kept refusal → IsDesktopAlone refusal
desktop_alone {refusal = refusal} (inl failed) = desktop_failed refusal failed
desktop_alone (inr (inl wrong)) = subst IsDesktopAlone (sym wrong.is) desktop_wrong
desktop_alone (inr (inr refuses)) = subst IsDesktopAlone (sym refuses.is) (desktop_cases refuses.fault)

-- a refusal of the trace is no other one
pub record IsTraceAlone (refusal : Status) : Type 0 where
  pub source : refusal ≡ SourceRead → ⊥
  pub handheld : refusal ≡ HandheldFolder → ⊥
  pub desktop : refusal ≡ DesktopFolder → ⊥
  pub done : refusal ≡ Done → ⊥
  pub out : refusal ≡ OutWrite → ⊥
  pub script : BlamesSource refusal → ⊥
  pub palm : BlamesHandheld refusal → ⊥
  pub in_use : (end : End) → refusal ≡ InUse end → ⊥
  pub unread : LeavesDesktopUnread refusal → ⊥

pub trace_alone : (refusal : Status) → IsTraceRefusal refusal → IsTraceAlone refusal
trace_alone refusal e = grind (arith, common_steps)

-- a folder that was not touched
pub stays_same : {before after : FolderTold} → after ≡ before → StaysAsItWas before after
stays_same {before} same = subst (StaysAsItWas before) (sym same) (record { contents = refl; moments = refl })

pub stands_same : {before after : FolderTold} → after ≡ before → StandsAsItDid before after
stands_same {before} same = grind (arith, no_moment (FinishesAs before.contents) before.moments before.moments refl)
