use Rattle.std.proofs.Common.{rules}
use Rattle.pdb_files.proofs.ReadLaws.{no_more_begins, one_more_begin, one_more_fits, place_fits}
use Rattle.pdb_files.proofs.blocks.push_begins.Goals as goal

pub u32_at-requires : goal.u32_at-requires
u32_at-requires c = search (rules, place_fits, one_more_fits)

pub split_at-requires : goal.split_at-requires
split_at-requires c = search (rules, one_more_fits)

pub loop-preserved : goal.loop-preserved
loop-preserved c = search (rules, one_more_begin, one_more_fits)

pub returns : goal.returns
returns c = search (rules, no_more_begins)
