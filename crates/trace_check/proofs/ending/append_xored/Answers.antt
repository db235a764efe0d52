-- One byte more with its mask.
use Rattle.std.proofs.Common.{◌≡◌, ◌∷◌, [], ◌++◌, length, take, get_or, bit_xor, sym, ap, ◌∙◌, arith}
use Rattle.std.proofs.lemmas.List.{append-nil, length-append, length-take}
use Rattle.std.specs.Option.{unwrap_or}
use Rattle.trace_text.specs.Fates.{xored}
use Rattle.trace_check.proofs.XorLaws.{none_left, length-xored, xored_more}
use Rattle.trace_check.proofs.ending.append_xored.Goals as goal

pub loop-place-init : goal.loop-place-init
loop-place-init c = sym (ap (λ s. c.args.out.now.items ++ s) (none_left c.args.mask.now) ∙ append-nil c.args.out.now.items)

pub push-requires : goal.push-requires
push-requires c =
    let len = ap length c.loop-place.invariant in
    let parts = length-append c.args.out.now.items (xored c.args.mask.now (take c.loop-place.place c.args.bytes.now)) in (
      omega arith,
      omega (
        arith,
        len,
        parts,
        length-xored c.args.mask.now (take c.loop-place.place c.args.bytes.now),
        length-take c.loop-place.place c.args.bytes.now,
        c.requires,
        c.loop-place-test.true,
      ),
    )

pub loop-place-preserved : goal.loop-place-preserved
loop-place-preserved c =
    let mask = c.args.mask.now in
    let place = c.loop-place.place in
    let over : c.unwrap_or-over.result ≡ get_or mask place 0 =
    c.unwrap_or-over.ensures ∙ ap (λ o. unwrap_or o 0) c.copied.ensures ∙ c.get.ensures.lookup.4 (omega arith) 0 in
    let byte = bit_xor (get_or c.args.bytes.now place 0) c.unwrap_or-over.result in
    c.push.ensures.items ∙ ap (λ s. s ++ byte ∷ []) c.loop-place.invariant ∙ xored_more c.args.out.now.items mask c.args.bytes.now c.loop-place-test.true
    (ap (λ n. bit_xor (get_or c.args.bytes.now place 0) n) over)
