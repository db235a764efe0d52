use Rattle.std.proofs.Common.{rules, arith, ◌≡◌}
use Rattle.hs_folders.proofs.FileTrees.{get-file_map}
use Rattle.hs_folders.proofs.file_tree.copy_file.Goals as goal

pub returns-in-None : goal.returns-in-None
returns-in-None c = grind (arith, get-file_map c.args.files.now c.args.name.now, c.in-None.ensures.value)

pub returns-in_ok-to_vec-in-Some : goal.returns-in_ok-to_vec-in-Some
returns-in_ok-to_vec-in-Some c =
    let same : c.in_ok-to_vec-in-Some.field-0.items ≡ c.deref.result.now = search rules in
    grind (arith, get-file_map c.args.files.now c.args.name.now, c.in-Some.ensures.value, same)
