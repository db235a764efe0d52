use Rattle.std.proofs.Common.{◌∙◌, ◌++◌, ap, string_bytes}
use Rattle.std.specs.Prelude.{codes}
use Rattle.cmd_status.specs.Commands.{command_name}
use Rattle.cmd_status.proofs.UsageLaws.{three_parts}
use Rattle.cmd_status.proofs.usage.push_more.Goals as goal

pub returns : goal.returns
returns c =
    three_parts (string_bytes c.args.lines.now) (string_bytes c.push_str.new.self) (string_bytes c.push_str-2.new.self) (string_bytes c.push_str-3.new.self)
    (codes "more: hotsync help ") (command_name c.args.command) (codes "\n")
    c.in_ok-push_str.ensures.bytes (c.in_ok-push_str-2.ensures.bytes ∙ ap (λ x. string_bytes c.push_str.new.self ++ x) c.command_name.ensures.word)
    c.in_ok-push_str-3.ensures.bytes
