-- Resources that are put one after another.
use Rattle.install_backup.proofs.ResourceLaws.{put_each-installed}
use Rattle.install_backup.proofs.laws.resources_are_put_in_turn.Goals as goal

pub returns : goal.returns
returns c = put_each-installed
