use Rattle.std.proofs.Common.{subst}
use Rattle.calendar_export.specs.Components.{IsOrigin}
use Rattle.calendar_export.specs.Exports.{content_in}
use Rattle.calendar_export.specs.Items.{IsContent}
use Rattle.calendar_export.proofs.export.push_item.Goals as goal

pub returns-clause-item : goal.returns-clause-item
returns-clause-item c exported = record {
  origin = subst IsOrigin c.origin_of-origin.ensures.value c.origin_of-origin.ensures.form;
  content = subst (λ b. IsContent c.args.kind (content_in c.args.kind b)) c.bytes.ensures.bytes c.in_ok-push_content.ensures.form;
}
