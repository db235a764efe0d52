use Rattle.record_merge.proofs.CountLaws.{sum-rows, new-free}
use Rattle.record_merge.proofs.laws.each_row_is_kept_or_added.Goals as goal

pub returns : goal.returns
returns c = λ ch handheld given records shows free w. sum-rows w ch given (new-free ch handheld given records shows free)
