use Rattle.std.proofs.Common.{◌≡◌, length, ap, arith}
use Rattle.dlp_replies.proofs.EntryWritten.{entry_text_len}
use Rattle.dlp_replies.proofs.list_frame.entry_len.Goals as goal

pub returns-clause-len : goal.returns-clause-len
returns-clause-len c = λ index.
    let kind : length c.args.head.now.kind.0 ≡ 4 = omega arith in
    let creator : length c.args.head.now.creator.0 ≡ 4 = omega arith in
    let name = ap length c.as_bytes.ensures.bytes in
    let len = entry_text_len (index, c.args.head.now) kind creator in
    omega (arith, len, name)
