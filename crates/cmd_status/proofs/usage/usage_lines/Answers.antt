use Rattle.std.proofs.Common.{◌∙◌, ◌++◌, ap, string_bytes}
use Rattle.std.specs.Prelude.{codes}
use Rattle.std.specs.List.{flat_map}
use Rattle.cmd_status.specs.Commands.{command_row, commands}
use Rattle.cmd_status.specs.Usages.{usage_line, usage_lines}
use Rattle.cmd_status.proofs.UsageLaws.{three_parts}
use Rattle.cmd_status.proofs.usage.usage_lines.Goals as goal

pub returns : goal.returns
unfolding usage_lines command_row
returns c =
    three_parts usage_line (string_bytes c.push_str.new.self) (string_bytes c.push_str-2.new.self) (string_bytes c.push_str-3.new.self)
    (codes "commands:\n") (flat_map command_row commands) (codes "more: hotsync help COMMAND\n")
    (c.in_ok-push_str.ensures.bytes ∙ ap (λ x. x ++ codes "commands:\n") c.in_ok-text.ensures.ok)
    (c.in_ok-push_str-2.ensures.bytes ∙ ap (λ x. string_bytes c.push_str.new.self ++ x) (c.as_str.ensures.value ∙ c.in_ok-rows.ensures))
    c.in_ok-push_str-3.ensures.bytes
