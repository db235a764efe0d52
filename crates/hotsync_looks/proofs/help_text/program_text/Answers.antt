use Rattle.std.proofs.Common.{◌∙◌, ◌++◌, ap, string_bytes}
use Rattle.std.specs.Prelude.{codes}
use Rattle.std.specs.List.{flat_map}
use Rattle.cmd_status.specs.Commands.{commands}
use Rattle.hotsync_looks.specs.HelpTexts.{command_lines, program_help}
use Rattle.hotsync_looks.proofs.HelpLaws.{four_parts}
use Rattle.hotsync_looks.proofs.help_text.program_text.Goals as goal

pub returns : goal.returns
unfolding program_help command_lines
returns c =
    four_parts (string_bytes c.in_ok-text.text) (string_bytes c.push_str.new.self) (string_bytes c.push_str-2.new.self) (string_bytes c.push_str-3.new.self)
    (codes "usage:\n") (flat_map command_lines commands) (codes "  hotsync help [COMMAND]\n") (codes "  hotsync --version\n")
    c.in_ok-text.ensures.ok
    (c.in_ok-push_str.ensures.bytes ∙ ap (λ x. string_bytes c.in_ok-text.text ++ x) (c.as_str.ensures.value ∙ c.in_ok-commands.ensures))
    c.in_ok-push_str-2.ensures.bytes c.in_ok-push_str-3.ensures.bytes
