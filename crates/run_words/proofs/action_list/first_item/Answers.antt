use Rattle.std.proofs.Common.{arith}
use Rattle.run_words.proofs.SplitLaws.{slice_split-comma, slice_split-alone}
use Rattle.run_words.proofs.action_list.first_item.Goals as goal

pub returns-in-Some-clause-items : goal.returns-in-Some-clause-items
returns-in-Some-clause-items c =
    let cut = c.in-Some.ensures.byte (omega arith) (λ w o h. h) in
    slice_split-comma c.args.items.now cut.0 cut.1 cut.2

pub returns-in-None-clause-items : goal.returns-in-None-clause-items
returns-in-None-clause-items c = slice_split-alone c.args.items.now (c.in-None.ensures.byte (omega arith) (λ w o h. h))
