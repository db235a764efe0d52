use Rattle.std.proofs.Common.{◌∙◌, ap}
use Rattle.std.specs.Prelude.{chars}
use Rattle.content_lines.proofs.ByteLaws.{chars-plain}
use Rattle.content_lines.proofs.text.Text.new.Goals as goal

pub returns : goal.returns
returns c = ap chars c.in_ok-from_str.ensures.ok ∙ chars-plain c.args.text.now c.requires
