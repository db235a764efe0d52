use Rattle.content_lines.proofs.LineLaws.{unfolded-folded}
use Rattle.content_lines.proofs.laws.lines_are_read_again.Goals as goal

pub returns : goal.returns
returns c = unfolded-folded
