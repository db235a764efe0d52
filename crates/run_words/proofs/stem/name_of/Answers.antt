use Rattle.std.proofs.Common.{◌≡◌, ◌∙◌, ◌==◌, ap, arith, length, true, false, [], ◌∷◌, ◌++◌}
use Rattle.run_words.specs.StemNames.{as_name}
use Rattle.std.proofs.lemmas.Bool.Decides.{nat_tests}
use Rattle.run_words.proofs.StemLaws.{OnErr-at_err, OnOk-at_ok, stem_ends, stem_goes_on, stem_is_long, stem_is_read}
use Rattle.run_words.proofs.stem.name_of.Goals as goal

pub returns-in_err-byte : goal.returns-in_err-byte
returns-in_err-byte c =
    let some : (length c.loop-rest.rest.now == 0) ≡ false = grind (arith, nat_tests) in
    c.from_residual.ensures ∙ stem_ends c.args.stem.now c.loop-rest.rest.now c.loop-rest.bytes.items c.loop-rest.invariant some c.in_err-byte.ensures.value

pub returns-then-is_err : goal.returns-then-is_err
returns-then-is_err c =
    let some : (length c.loop-rest.rest.now == 0) ≡ false = grind (arith, nat_tests) in
    let full : length c.loop-rest.bytes.items ≡ 31 = OnErr-at_err c.try_push.result _ c.if-is_err.ensures.value c.try_push.ensures.full in
    stem_is_long c.args.stem.now c.loop-rest.rest.now c.loop-rest.bytes.items c.loop-rest.invariant some c.in_ok-byte.byte c.in_ok-byte.more.now
    c.in_ok-byte.ensures.value full

pub loop-rest-preserved : goal.loop-rest-preserved
loop-rest-preserved c =
    let some : (length c.loop-rest.rest.now == 0) ≡ false = grind (arith, nat_tests) in
    let step = stem_goes_on c.args.stem.now c.loop-rest.rest.now c.loop-rest.bytes.items c.loop-rest.invariant some c.in_ok-byte.byte c.in_ok-byte.more.now
    c.in_ok-byte.ensures.value in
    let pushed : c.try_push.new.self.items ≡ c.loop-rest.bytes.items ++ c.in_ok-byte.byte ∷ [] = OnOk-at_ok c.try_push.result _
    c.if-is_err.ensures.value c.try_push.ensures.ok in
    rw pushed step

pub returns : goal.returns
returns c =
    let none : (length c.loop-rest.rest.now == 0) ≡ true = grind (arith, nat_tests) in
    let read = stem_is_read c.args.stem.now c.loop-rest.rest.now c.loop-rest.bytes.items c.loop-rest.invariant none in
    c.valid_name.ensures ∙ ap as_name c.as_slice.ensures.value ∙ read
