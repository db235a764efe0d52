use Rattle.std.proofs.Common.{string_bytes}
use Rattle.std.proofs.lemmas.Str.{IsUtf8-string_bytes}
use Rattle.content_lines.proofs.ByteLaws.{chars-grown}
use Rattle.content_lines.proofs.text.Text.push_plain.Goals as goal

pub returns : goal.returns
returns c =
    cc (chars-grown (string_bytes c.self.inside.text) (string_bytes c.push_str.new.self) c.args.text.now (IsUtf8-string_bytes c.self.inside.text) c.requires
    c.in_ok-push_str.ensures.bytes)
