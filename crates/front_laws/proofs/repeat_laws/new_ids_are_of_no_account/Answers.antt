use Rattle.front_laws.proofs.RenamingLaws.{renamed}
use Rattle.front_laws.proofs.repeat_laws.new_ids_are_of_no_account.Goals as goal

pub returns : goal.returns
returns c = λ a x given other read one two. renamed a x given other read one.got two.got one.unknown two.unknown
