use Rattle.palm_records.proofs.CharacterLaws.{char_text_front}
use Rattle.palm_records.proofs.text_laws.characters_are_told_by_the_front.Goals as goal

pub returns : goal.returns
returns c = char_text_front
