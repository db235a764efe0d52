use Rattle.std.proofs.Common.{arith, rules}
use Rattle.std.proofs.lemmas.List.{length-take}
use Rattle.pdb_files.proofs.ReadLaws.{name_accepted, ok_without_fault}
use Rattle.pdb_files.proofs.header.read_name.Goals as goal

pub slice_bounds-new-end : goal.slice_bounds-new-end
slice_bounds-new-end c = omega (arith, length-take c.in-Some.length c.args.bytes.now, length-take 32 c.args.bytes.now, c.in-Some.ensures.within)

pub unwrap-requires : goal.unwrap-requires
unwrap-requires c = search (rules, ok_without_fault, name_accepted)
