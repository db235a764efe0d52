use Rattle.std.proofs.Common.{rules, ◌≡◌}
use Rattle.hs_folders.proofs.FileTrees.{file_map-insert}
use Rattle.hs_folders.proofs.file_tree.put_file.Goals as goal

pub returns-clause-ok : goal.returns-clause-ok
returns-clause-ok c =
    let same : c.in_ok-bytes.bytes.items ≡ c.args.bytes.now = search rules in
    let put = file_map-insert c.args.files.now c.insert.new.self c.in_ok-name.name c.in_ok-bytes.bytes c.in_ok-insert.ensures.updates in
    cc (put, same, c.in_ok-name.ensures.ok)
