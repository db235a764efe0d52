use Rattle.content_lines.proofs.LineLaws.{fits-folded}
use Rattle.content_lines.proofs.laws.physical_lines_are_short.Goals as goal

pub returns : goal.returns
returns c = fits-folded
