use Rattle.std.proofs.Common.{sym, ◌∙◌, arith}
use Rattle.pdb_files.proofs.BlockLaws.{in_order_from_none, in_order_earlier}
use Rattle.pdb_files.proofs.blocks.check_blocks.Goals as goal

pub first_oversized-requires : goal.first_oversized-requires
first_oversized-requires c =
    in_order_earlier 0 c.args.end c.args.first c.args.begins.now
    (omega arith) (in_order_from_none c.args.first c.args.end c.args.begins.now (sym c.first_misplaced.ensures.place ∙ c.in_default.is))
