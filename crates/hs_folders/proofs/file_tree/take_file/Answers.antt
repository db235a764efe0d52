use Rattle.hs_folders.proofs.FileTrees.{file_map-remove, contains_key-file_map}
use Rattle.hs_folders.proofs.file_tree.take_file.Goals as goal

pub returns-clause-taken : goal.returns-clause-taken
returns-clause-taken c = file_map-remove c.args.files.now c.remove.new.self c.args.name.now c.remove.ensures.updates

pub returns-clause-found : goal.returns-clause-found
returns-clause-found c = cc (contains_key-file_map c.args.files.now c.args.name.now)
