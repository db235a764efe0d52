-- One field after the other, as the definition reads them.
use Rattle.std.proofs.Common.{◌≡◌, ◌∙◌, [], ◌∷◌, ◌++◌, ◌+◌, Ok, ◌<◌, length, map, option_copied, slice_set, take, sym, ap, refl, arith}
use Rattle.std.proofs.lemmas.List.{length-set, map_push, take_all, take_more_set}
use Rattle.palm_records.proofs.AddressLaws.{goes_on, is_done, stops}
use Rattle.palm_records.proofs.address.read_fields.Goals as goal

pub loop-number-init : goal.loop-number-init
loop-number-init c = record { fields = refl; size = refl; shorter = omega arith }

pub returns-in_default-clause-fields : goal.returns-in_default-clause-fields
returns-in_default-clause-fields c =
    stops 19 c.loop-number.number c.loop-number.bits (map option_copied (take c.loop-number.number c.loop-number.all)) c.loop-number.rest.now
    c.loop-number-test.true (sym c.in_default.ensures.field) c.loop-number.invariant.fields

pub loop-number-preserved : goal.loop-number-preserved
loop-number-preserved c =
    let room : c.loop-number.number < length c.loop-number.all = omega (arith, c.loop-number.invariant.size) in
    let set : take (c.loop-number.number + 1) (slice_set c.loop-number.all c.loop-number.number c.in-Some.lent.field)
    ≡ take c.loop-number.number c.loop-number.all ++ c.in-Some.lent.field ∷ [] = take_more_set c.loop-number.all c.loop-number.number
    c.in-Some.lent.field room in
    let grown : map option_copied (take (c.loop-number.number + 1) (slice_set c.loop-number.all c.loop-number.number c.in-Some.lent.field))
    ≡ map option_copied (take c.loop-number.number c.loop-number.all) ++ option_copied c.in-Some.lent.field ∷ [] = ap (map option_copied) set
    ∙ map_push option_copied (take c.loop-number.number c.loop-number.all) c.in-Some.lent.field in
    record {
      fields = rw grown (goes_on 19 c.loop-number.number c.loop-number.bits (map option_copied (take c.loop-number.number c.loop-number.all))
          c.loop-number.rest.now (option_copied c.in-Some.lent.field) c.in-Some.lent.rest.now c.loop-number-test.true (sym c.in-Some.ensures.field)
          c.loop-number.invariant.fields);
      shorter = omega (arith, c.in-Some.ensures.shorter, c.loop-number.invariant.shorter);
      size = length-set c.loop-number.all c.loop-number.number c.in-Some.lent.field ∙ c.loop-number.invariant.size;
    }

pub returns-clause-fields : goal.returns-clause-fields
returns-clause-fields c =
    let whole : take c.loop-number.number c.loop-number.all ≡ c.loop-number.all = take_all c.loop-number.number c.loop-number.all
    (omega (arith, c.loop-number.invariant.size, c.loop-number-test.false)) in
    is_done 19 c.loop-number.number c.loop-number.bits (map option_copied (take c.loop-number.number c.loop-number.all)) c.loop-number.rest.now
    (omega (arith, c.loop-number-test.false)) c.loop-number.invariant.fields ∙ ap (λ all. Ok (map option_copied all)) whole
