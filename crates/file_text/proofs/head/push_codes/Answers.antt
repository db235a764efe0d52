use Rattle.std.proofs.Common.{append_assoc, string_bytes}
use Rattle.std.specs.Prelude.{codes}
use Rattle.file_text.specs.Fields.{hex_text}
use Rattle.file_text.proofs.head.push_codes.Goals as goal

pub returns : goal.returns
returns c =
    let head = c.args.head.now in
    rw (c.in_ok-push_hex-2.ensures, c.in_ok-push_hex.ensures)
    (append_assoc (string_bytes c.args.text.now) (hex_text (codes "type ") head.kind.0) (hex_text (codes " creator ") head.creator.0))
