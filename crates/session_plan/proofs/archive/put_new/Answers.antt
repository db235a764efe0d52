use Rattle.std.proofs.Common.{◌∙◌, ap, sym}
use Rattle.session_plan.specs.Archives.{with_entry}
use Rattle.session_plan.proofs.ArchiveLaws.{new_more}
use Rattle.session_plan.proofs.archive.put_new.Goals as goal

pub loop-entry-preserved : goal.loop-entry-preserved
loop-entry-preserved c = (
  c.in_ok-put_entry.ensures.notes,
  c.in_ok-put_entry.ensures.entry ∙ ap (with_entry c.entry-item.result) c.loop-entry.invariant.1
      ∙ sym (new_more c.args.new.now c.loop-entry.entry-index c.entry-item.result c.args.archive.now.items c.loop-entry-test.true c.entry-item.is),
)
