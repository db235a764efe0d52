use Rattle.std.proofs.Common.{refl}
use Rattle.palm_records.specs.Characters.{char_of}
use Rattle.palm_records.proofs.CharacterLaws.{char_of-feed, char_of-return}
use Rattle.palm_records.proofs.text_laws.lines_end_where_they_did.Goals as goal

pub returns-clause-feed : goal.returns-clause-feed
returns-clause-feed c = char_of-feed

pub returns-clause-itself : goal.returns-clause-itself
unfolding char_of
returns-clause-itself c = refl

pub returns-clause-return_not : goal.returns-clause-return_not
returns-clause-return_not c = char_of-return
