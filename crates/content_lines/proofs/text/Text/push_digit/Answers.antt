use Rattle.std.proofs.Common.{arith, string_bytes}
use Rattle.std.proofs.lemmas.Str.{IsUtf8-string_bytes}
use Rattle.content_lines.proofs.ByteLaws.{chars-digit}
use Rattle.content_lines.proofs.text.Text.push_digit.Goals as goal

pub returns : goal.returns
returns c =
    cc (chars-digit (string_bytes c.self.inside.text) (string_bytes c.push.new.self) c.from.result c.args.number (IsUtf8-string_bytes c.self.inside.text)
    (omega arith) c.in_ok-push.ensures.bytes)
