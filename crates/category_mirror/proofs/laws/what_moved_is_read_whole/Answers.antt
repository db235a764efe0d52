-- A handheld that knows no desktop agrees with none.
use Rattle.category_mirror.proofs.MarkLaws.{never-agreed}
use Rattle.category_mirror.specs.Sides.{filed_device, filing_changes}
use Rattle.category_mirror.proofs.laws.what_moved_is_read_whole.Goals as goal

pub returns : goal.returns
unfolding filed_device
returns c = λ filing marks some known. never-agreed (filing_changes filing) filing.device.user marks some known
