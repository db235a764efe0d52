use Rattle.std.proofs.Common.{◌∙◌, inl, inr, refl}
use Rattle.std.specs.Prelude.{None}
use Rattle.cmd_status.specs.Told.{sink_told}
use Rattle.call_parts.specs.Told.{CallTold, FolderTold}
use Rattle.hotsync_run.proofs.CallLaws.{only_memory}
use Rattle.hotsync_run.proofs.program.say_no_memory.Goals as goal

pub returns-clause-no_memory : goal.returns-clause-no_memory
returns-clause-no_memory g c = c.not_started.ensures.status ∙ only_memory c.print_refusal-status.ensures.status

pub returns-clause-call : goal.returns-clause-call
returns-clause-call g c =
    let folder : FolderTold = record { contents = None; moments = None; paths = None; faults = 0 } in
    let told : CallTold = record {
      palm = folder;
      desk = folder;
      source = record { left = None; paths = None; faults = 0 };
      trace = record { taken = None; paths = None; faults = 0 };
    } in
    rw c.not_started.ensures.status (record {
      before = told;
      after = told;
      out = sink_told g.O.Sink c.args.out.now;
      out_after = sink_told g.O.Sink c.print_refusal-status.new.out;
      err = sink_told g.O.Sink c.args.out.now;
      err_after = sink_told g.O.Sink c.args.out.now;
      untold = record { palm = refl; desk = refl; source = refl; trace = refl; printed = c.requires };
      called = record { ended = inr (only_memory c.print_refusal-status.ensures.status); printed = inl (c.print_refusal-status.ensures.printed, refl) };
    })
