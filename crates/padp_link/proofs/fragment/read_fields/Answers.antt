use Rattle.std.proofs.Common.{◌≡◌, ◌-◌, ℕ, true, List, length, take, drop, slice_index, sym, ap, subst, ◌∙◌, arith}
use Rattle.std.proofs.lemmas.List.{take_rest, length-drop}
use Rattle.byteorder.specs.Endian.{big_number}
use Rattle.padp_link.specs.FragmentText.{fits_size, FragmentText}
use Rattle.padp_link.proofs.TextLaws.{text_of_fields}
use Rattle.padp_link.proofs.fragment.read_fields.Goals as goal

pub returns-clause-fragment : goal.returns-clause-fragment
returns-clause-fragment c =
    let body = c.args.body.now in
    let kind = c.in-Some.kind in
    let size : c.read_u16-size.result ≡ big_number 2 (drop 2 body) = rw take_rest at c.read_u16-size.ensures in
    let rest : take (length body - 4) (drop 4 body) ≡ drop 4 body = take_rest body 4 in
    let len : length (take (length body - 4) (drop 4 body)) ≡ length body - 4 = ap (λ (s : List ℕ). length s) rest ∙ length-drop 4 body in
    let fits : fits_size kind (slice_index body 1) (big_number 2 (drop 2 body)) (length body - 4) ≡ true = ap
    (λ (n : ℕ). fits_size kind (slice_index body 1) n (length body - 4)) (sym size)
    ∙ ap (λ (n : ℕ). fits_size kind (slice_index body 1) c.read_u16-size.result n) (sym len) ∙ sym c.size_fits.ensures ∙ c.if-not-size_fits.false in
    let text = text_of_fields kind body (omega arith) (λ i. omega (arith, c.type_inv.body i)) c.in-Some.ensures.there.0
    (sym c.may_bear.ensures ∙ c.if-not-may_bear.false) fits in
    subst (λ (s : List ℕ). FragmentText (record { kind = kind; flags = slice_index body 1; size = c.read_u16-size.result; bytes = s }) body) (sym rest)
    (subst (λ (n : ℕ). FragmentText (record { kind = kind; flags = slice_index body 1; size = n; bytes = drop 4 body }) body) (sym size) text)
