use Rattle.std.proofs.Common.{◌∙◌, ap}
use Rattle.std.specs.Prelude.{chars}
use Rattle.content_lines.proofs.text.Text.as_str.Goals as goal

pub returns : goal.returns
returns c = ap chars c.as_str.ensures.value ∙ c.self.view_is
