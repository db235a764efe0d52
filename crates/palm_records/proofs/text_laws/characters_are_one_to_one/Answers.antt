use Rattle.palm_records.proofs.CharacterLaws.{char_of_injective}
use Rattle.palm_records.proofs.text_laws.characters_are_one_to_one.Goals as goal

pub returns : goal.returns
returns c = char_of_injective
