use Rattle.std.proofs.Common.{◌∙◌, ap, sym}
use Rattle.session_plan.specs.Archives.{with_entry}
use Rattle.session_plan.proofs.ArchiveLaws.{old_more}
use Rattle.session_plan.proofs.archive.put_old.Goals as goal

pub loop-entry-preserved : goal.loop-entry-preserved
loop-entry-preserved c = (
  c.in_ok-put_entry.ensures.notes,
  c.in_ok-put_entry.ensures.entry ∙ ap (with_entry (c.entry-item.result.id, c.entry-item.result.content)) c.loop-entry.invariant.1
      ∙ sym (old_more c.args.old.now c.loop-entry.entry-index c.entry-item.result c.args.archive.now.items c.loop-entry-test.true c.entry-item.is),
)
