use Rattle.made_folders.proofs.MergeLaws.{made_merge}
use Rattle.made_folders.proofs.laws.made_folders_merge_by_kinds.Goals as goal

-- src/laws.rt:8:1
pub returns : goal.returns
returns c = made_merge
