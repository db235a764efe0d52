-- What is known of a call stays, whatever is printed of it.
use Rattle.std.proofs.lemmas.Grind.{common_steps}
use Rattle.std.proofs.Common.{◌≡◌, ◌≢◌, ℕ, List, inl, inr, sym, subst, arith}
use Rattle.std.specs.Prelude.{Option}
use Rattle.cmd_status.specs.Printed.{IsPrintedStatus}
use Rattle.cmd_status.specs.Told.{SinkTold}
use Rattle.call_parts.specs.Told.{CallTold}
use Rattle.call_parts.specs.Traces.{TakesTrace}
use Rattle.call_parts.proofs.RetoldLaws.{IsRetold}
use Rattle.cmd_status.specs.declared.status.Status.{Status}
use Rattle.cmd_status.specs.declared.status.Status.TheVariants.{Done, NoMemory}
use Rattle.call_parts.specs.SessionCalls.{BlamesByCount}

pub traced_as : {path : Option (List ℕ)} {text : List ℕ} {before after : SinkTold} {status : Status} (other : Status)
    → (other ≡ Done → status ≡ Done) → (other ≢ NoMemory → status ≢ NoMemory) → TakesTrace path text before after status
    → TakesTrace path text before after other
traced_as other was_done served traced = record {
  part = traced.part;
  done = λ named done. traced.done named (was_done done);
  whole = λ named calm other_is. traced.whole named calm (served other_is);
}

pub retold_done : {status : Status} (other : Status) → IsRetold status other → other ≡ Done → status ≡ Done
retold_done other e done = grind (arith, common_steps)

pub retold_served : {status : Status} (other : Status) → IsRetold status other → other ≢ NoMemory → status ≢ NoMemory
retold_served other e served = grind (arith, common_steps)

pub still_blames : {before after : CallTold} {status : Status} (printed : Status) → IsPrintedStatus status printed → BlamesByCount before after status
    → BlamesByCount before after printed
still_blames {before} {after} printed (inl same) blames = subst (λ (s : Status). BlamesByCount before after s) (sym same) blames
still_blames {before} {after} printed (inr (inl memory)) blames = subst (λ (s : Status). BlamesByCount before after s) (sym memory) (record {
  source = λ e. cc;
  folders = record { handheld = λ e. cc; desktop = λ e. cc };
  handheld_in_use = λ e. cc;
  desktop_in_use = λ e. cc;
  trace = λ e. cc;
})
still_blames {before} {after} printed (inr (inr unsaid)) blames = subst (λ (s : Status). BlamesByCount before after s) (sym unsaid.1) (record {
  source = λ e. cc;
  folders = record { handheld = λ e. cc; desktop = λ e. cc };
  handheld_in_use = λ e. cc;
  desktop_in_use = λ e. cc;
  trace = λ e. cc;
})
