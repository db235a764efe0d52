use Rattle.std.proofs.lemmas.Bool.Decides.{nat_tests}
use Rattle.std.proofs.Common.{◌≡◌, ◌∙◌, ◌==◌, arith, length, true, false}
use Rattle.run_words.proofs.HexLaws.{count_ends, count_goes_on, count_is_whole}
use Rattle.run_words.proofs.hexadecimal.byte_count.Goals as goal

pub returns-in_err-bytes : goal.returns-in_err-bytes
returns-in_err-bytes c =
    let some : (length c.loop-rest.rest.now == 0) ≡ false = grind (arith, nat_tests) in
    c.from_residual.ensures ∙ count_ends c.args.text.now c.loop-rest.rest.now c.loop-rest.count c.loop-rest.invariant.count some c.in_err-bytes.ensures.value

pub loop-rest-preserved : goal.loop-rest-preserved
loop-rest-preserved c =
    let some : (length c.loop-rest.rest.now == 0) ≡ false = grind (arith, nat_tests) in
    record {
      count =
          count_goes_on c.args.text.now c.loop-rest.rest.now c.loop-rest.count c.loop-rest.invariant.count some c.in_ok-bytes.bytes c.in_ok-bytes.more.now
          c.in_ok-bytes.ensures.value;
      few = omega (arith, c.loop-rest.invariant.few, c.in_ok-bytes.ensures.few);
    }

pub returns : goal.returns
returns c =
    let none : (length c.loop-rest.rest.now == 0) ≡ true = grind (arith, nat_tests) in
    count_is_whole c.args.text.now c.loop-rest.rest.now c.loop-rest.count c.loop-rest.invariant.count none
