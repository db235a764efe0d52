use Rattle.std.proofs.Common.{◌≡◌, ◌+◌, ◌*◌, ◌++◌, length, take}
use Rattle.std.specs.Prelude.{codes}
use Rattle.memo_texts.proofs.BlockLaws.{fields}
use Rattle.memo_texts.proofs.app_block.push_fields.Given as goal

abbrev pub invariant-loop-label : goal.invariant-loop-label
invariant-loop-label l = record {
  fields : l.block.items ≡ l.fn.block.items ++ fields (codes "Unfiled") (take l.label-index l.labels);
  length : length l.block.items ≡ 18 + 16 * l.label-index;
}
