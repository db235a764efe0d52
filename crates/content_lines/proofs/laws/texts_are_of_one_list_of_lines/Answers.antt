use Rattle.content_lines.proofs.TextLaws.{lines_text_injective}
use Rattle.content_lines.proofs.laws.texts_are_of_one_list_of_lines.Goals as goal

pub returns : goal.returns
returns c = lines_text_injective
