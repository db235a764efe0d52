-- Base rows in a database of their own.
use Rattle.std.proofs.Common.{◌≡◌, ◌∙◌, ap, map}
use Rattle.category_mirror.specs.Refiled.{refiled_base as made_of, refiled_base_row}
use Rattle.category_mirror.proofs.refiling.refiled_base.Goals as goal

pub returns : goal.returns
unfolding made_of
returns c =
    let same : c.in_ok-records.records.items ≡ map (refiled_base_row c.args.merge.now.numbers) c.args.base.now.records =
    c.in_ok-records.ensures ∙ ap (map (refiled_base_row c.args.merge.now.numbers)) c.records.ensures.records in
    rw same at c.refilled.ensures
