use Rattle.std.proofs.Common.{◌∙◌, sym, ap}
use Rattle.std.specs.Result.{result_ok}
use Rattle.run_words.proofs.NumberLaws.{parse-number}
use Rattle.run_words.proofs.number.number_in.Goals as goal

pub returns-in-Err : goal.returns-in-Err
returns-in-Err c =
    let digits = rw c.as_bytes.ensures.value at (sym c.if-not-is_number.ensures) in
    ap result_ok (sym c.in-Err.is) ∙ parse-number c.args.word.now c.parse.result c.parse.ensures.value.0 digits
