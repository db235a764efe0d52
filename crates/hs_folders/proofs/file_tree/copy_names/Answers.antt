use Rattle.std.proofs.Common.{arith}
use Rattle.std.proofs.lemmas.Grind.{common_steps}
use Rattle.hs_folders.proofs.FileTrees.{keys-file_map}
use Rattle.hs_folders.proofs.file_tree.copy_names.Goals as goal

pub returns : goal.returns
returns c = grind (arith, common_steps, keys-file_map c.args.files.now c.keys-name-items.ensures.ordered)
