use Rattle.padp_link.proofs.TextLaws.{text_is_read}
use Rattle.padp_link.proofs.fragment.read_fragment.Goals as goal

pub returns-clause-only : goal.returns-clause-only
returns-clause-only c = text_is_read {bytes = c.args.body.now} c.read_fields.result c.read_fields.ensures.fault c.read_fields.ensures.fragment
