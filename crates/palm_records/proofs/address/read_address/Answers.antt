use Rattle.std.proofs.Common.{◌≡◌, sym, arith}
use Rattle.palm_records.specs.Addresses.{field_bits, kinds_of, phone_word}
use Rattle.palm_records.proofs.AddressLaws.{all_behind, is_address, no_kind}
use Rattle.palm_records.proofs.address.read_address.Goals as goal

pub returns-then-not-are_kinds : goal.returns-then-not-are_kinds
returns-then-not-are_kinds c =
    let bits : c.read_u32-bits.result ≡ field_bits c.args.bytes.now = rw (all_behind 4 c.args.bytes.now) at c.read_u32-bits.ensures in
    let word : c.read_u32-word.result ≡ phone_word c.args.bytes.now = c.read_u32-word.ensures in
    no_kind c.args.bytes.now (omega (arith, c.if-bytes-lt-HEAD.false)) (rw bits at c.if-bits-ge524288.false)
    (rw (bits, all_behind 9 c.args.bytes.now) at c.in-Ok.ensures.fields) (sym (rw (bits, word) at c.if-not-are_kinds.ensures))

pub returns : goal.returns
returns c =
    let bits : c.read_u32-bits.result ≡ field_bits c.args.bytes.now = rw (all_behind 4 c.args.bytes.now) at c.read_u32-bits.ensures in
    let word : c.read_u32-word.result ≡ phone_word c.args.bytes.now = c.read_u32-word.ensures in
    let kinds : c.kinds_of.result ≡ kinds_of (phone_word c.args.bytes.now) = rw word at c.kinds_of.ensures in
    rw (kinds, word) (is_address c.args.bytes.now (omega (arith, c.if-bytes-lt-HEAD.false)) (rw bits at c.if-bits-ge524288.false)
    (rw (bits, all_behind 9 c.args.bytes.now) at c.in-Ok.ensures.fields) (sym (rw (bits, word) at c.if-not-are_kinds.ensures)))
