-- Where a handheld stands behind some of a session's requests.
use Rattle.category_mirror.proofs.TurnLaws.{front_stands}
use Rattle.category_mirror.proofs.laws.blocks_are_written_in_turn.Goals as goal

pub returns : goal.returns
returns c = λ filing after writes given rests front. front_stands filing rests writes given after front
