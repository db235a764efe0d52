use Rattle.std.proofs.Common.{sym, subst, arith, ◌≤◌, rules}
use Rattle.pdb_files.specs.Files.{FitsHeader, IsFileText, entry_count, file_text}
use Rattle.pdb_files.proofs.WriteLaws.{blocks_behind, canonical_is_text}
use Rattle.pdb_files.proofs.writer.write_database.Goals as goal

pub returns-clause-canonical : goal.returns-clause-canonical
unfolding file_text
returns-clause-canonical c = search (rules, blocks_behind)

pub returns-clause-text : goal.returns-clause-text
returns-clause-text c =
    let database = c.args.database.now in
    let head = subst FitsHeader c.head-head.ensures.head c.in_ok-push_header.ensures.fits in
    let few : entry_count database ≤ 65535 = omega (arith, c.entry_count-count.ensures.bound, c.entry_count-count.ensures.count) in
    subst (λ bytes. IsFileText database bytes) (sym (returns-clause-canonical c)) (canonical_is_text database
    c.head-head.ensures.database head few c.in_ok-data_end.ensures.records c.in_ok-data_end.ensures.resources c.in_ok-data_end.ensures.short)
