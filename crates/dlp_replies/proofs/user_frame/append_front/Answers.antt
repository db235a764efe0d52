use Rattle.std.proofs.Common.{append_assoc, arith}
use Rattle.std.proofs.lemmas.List.{length-append}
use Rattle.pdb_values.specs.PalmDates.{wire_date}
use Rattle.dlp_replies.proofs.EntryWritten.{date_len}
use Rattle.dlp_replies.proofs.user_frame.append_front.Goals as goal

pub returns-clause-len : goal.returns-clause-len
returns-clause-len c = omega (arith, length-append (wire_date c.args.good) (wire_date c.args.last), date_len c.args.good, date_len c.args.last)

pub returns-clause-bytes : goal.returns-clause-bytes
returns-clause-bytes c =
    rw (
      c.append-5.ensures,
      c.append-4.ensures,
      c.append-3.ensures,
      c.append-2.ensures,
      c.append.ensures,
      c.to_be_bytes.ensures,
      c.to_be_bytes-2.ensures,
      c.to_be_bytes-3.ensures,
      c.to_wire.ensures.wire,
      c.to_wire-2.ensures.wire,
    )
    (simp append_assoc)
