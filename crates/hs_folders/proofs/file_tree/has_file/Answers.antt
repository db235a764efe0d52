use Rattle.hs_folders.proofs.FileTrees.{contains_key-file_map}
use Rattle.hs_folders.proofs.file_tree.has_file.Goals as goal

pub returns : goal.returns
returns c = cc (contains_key-file_map c.args.files.now c.args.name.now)
