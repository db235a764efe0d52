-- What a trace takes, and whom a session over a line doesn't blame.
use Rattle.std.proofs.lemmas.Grind.{common_steps}
use Rattle.std.proofs.Common.{arith, ◌≡◌, ◌∙◌, ◌≤◌, ◌++◌, ◌^◌, ap, subst, List, ℕ}
use Rattle.std.specs.Option.{option_map}
use Rattle.std.specs.Prelude.{◌-◌, Option}
use Rattle.hs_folders.specs.Appends.{AppendsPrefix}
use Rattle.hs_folders.proofs.Prefixes.{all_taken}
use Rattle.folder_copies.proofs.CopyLaws.{rose_before}
use Rattle.trace_text.specs.declared.frame.End.{End}
use Rattle.call_parts.specs.Causes.{EndsAs, IsUnsaid}
use Rattle.call_parts.specs.Refusals.{BlamesHandheld, BlamesSource}
use Rattle.call_parts.specs.Sessions.{IsTalk, KeptSilent}
use Rattle.cmd_status.specs.Told.{SinkTold}
use Rattle.call_parts.specs.Told.{SidesTold}
use Rattle.call_parts.specs.Traces.{TakesTrace, TracesText}
use Rattle.call_parts.specs.declared.report.Report.{Report}
use Rattle.call_parts.specs.declared.report.SessionEnd.{SessionEnd}
use Rattle.call_parts.specs.declared.report.SessionEnd.TheVariants.{NotStarted}
use Rattle.cmd_status.specs.declared.status.Status.{Status}
use Rattle.cmd_status.specs.declared.status.Status.TheVariants.{NoMemory, InUse}
use Rattle.call_parts.proofs.RetoldLaws.{by_end_both}

-- ---- the trace

-- a text that was taken
pub text_written : (text : List ℕ) (before after : SinkTold) (status : Status) → IsUnsaid status
    → after.taken ≡ option_map (λ taken. taken ++ text) before.taken → after.paths ≡ before.paths → before.faults ≤ after.faults
    → TracesText text before after status status
text_written text before after status unsaid taken paths later = grind (arith, all_taken before.taken after.taken text taken)

-- told from an earlier moment on
pub traced_from : {path : Option (List ℕ)} {text : List ℕ} (first : SinkTold) {before after : SinkTold} {status : Status} → before.taken ≡ first.taken
    → first.faults ≤ before.faults → TakesTrace path text before after status → TakesTrace path text first after status
traced_from {text} first {before} {after} same later traced =
    let whole : option_map (λ taken. taken ++ text) before.taken ≡ option_map (λ taken. taken ++ text) first.taken =
    ap (λ (told : Option (List ℕ)). option_map (λ taken. taken ++ text) told) same in
    record {
      part = subst (λ (told : Option (List ℕ)). AppendsPrefix told after.taken text) same traced.part;
      done = λ named done. traced.done named done ∙ whole;
      whole = λ named calm is.
          traced.whole named (λ rose. calm (rose_before (2 ^ 64 - 1) first.faults before.faults after.faults later rose)) is ∙ whole;
    }

-- ---- whom it doesn't blame

-- a session's status doesn't blame the source
ends_not_source : (status : Status) (end : SessionEnd) → EndsAs status end → BlamesSource status → ⊥
ends_not_source status end ends blames = grind (arith, common_steps)

memory_not_source : (status : Status) → status ≡ NoMemory → BlamesSource status → ⊥
memory_not_source status is blames = subst BlamesSource is blames

memory_not_handheld : (status : Status) → status ≡ NoMemory → BlamesHandheld status → ⊥
memory_not_handheld status is blames = subst BlamesHandheld is blames

-- by what is known of it once it began
module _ {Had : Status → Report → Type 0} {before after : SidesTold} {status : Status} {report : Report}
    (talk : IsTalk Had before after status report) (ends : Had status report → EndsAs status report.end) where
  pub talk_not_source : BlamesSource status → ⊥
  talk_not_source blames =
      by_end_both report.end {A = KeptSilent before after status report} {B = Had status report} {C = ⊥}
      (λ kept. memory_not_source status kept.memory blames) (λ had. ends_not_source status report.end (ends had) blames) talk.shown

  pub talk_not_in_use : (end : End) → status ≡ InUse end → ⊥
  talk_not_in_use end is =
      by_end_both report.end {A = KeptSilent before after status report} {B = Had status report} {C = ⊥}
      (λ kept. cc) (λ had. subst (λ (s : Status). EndsAs s report.end) is (ends had)) talk.shown

  pub talk_not_handheld : report.end ≡ NotStarted → BlamesHandheld status → ⊥
  talk_not_handheld is blames = grind (arith, memory_not_handheld status)
