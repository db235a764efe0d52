use Rattle.std.proofs.lemmas.List.{take_rest}
use Rattle.std.proofs.Common.{◌≡◌, ◌+◌, add-one, Some, None, arith}
use Rattle.std.specs.Prelude.{position}
use Rattle.memo_texts.proofs.LineLaws.{is_feed, lines_in-nil, lines_in-one, lines_in-position}
use Rattle.memo_texts.proofs.line.split_line.Goals as goal

pub returns-in-Some-clause-lines : goal.returns-in-Some-clause-lines
returns-in-Some-clause-lines c =
    let text = c.args.text.now in
    let place = c.in-Some.place in
    let is : position is_feed text ≡ Some place = cc in
    rw (take_rest text (place + 1), add-one) (lines_in-position text place is)

pub returns-in-None-clause-lines : goal.returns-in-None-clause-lines
returns-in-None-clause-lines c =
    let is : position is_feed c.args.text.now ≡ None = cc in
    rw lines_in-nil (lines_in-one c.args.text.now (omega arith) is)
