use Rattle.content_lines.proofs.PropertyLaws.{properties_text_injective}
use Rattle.content_lines.proofs.laws.texts_are_of_one_list_of_properties.Goals as goal

pub returns : goal.returns
returns c = properties_text_injective
