use Rattle.std.proofs.Common.{ap}
use Rattle.std.specs.FinMap.{from_entries}
use Rattle.hs_folders.proofs.FileTrees.{named-clone}
use Rattle.hs_folders.proofs.file_tree.copy_files.Goals as goal

pub returns : goal.returns
returns c = ap from_entries (named-clone _ _ c.in_ok-clone.ensures.cases)
