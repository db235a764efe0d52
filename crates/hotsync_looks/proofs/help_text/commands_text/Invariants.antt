use Rattle.std.proofs.Common.{◌≡◌, take}
use Rattle.std.specs.Prelude.{string_bytes}
use Rattle.std.specs.List.{flat_map}
use Rattle.hotsync_looks.specs.HelpTexts.{command_lines}
use Rattle.hotsync_looks.proofs.help_text.commands_text.Given as goal

abbrev pub invariant-loop-command : goal.invariant-loop-command
invariant-loop-command l = string_bytes l.text ≡ flat_map command_lines (take l.command-index l.commands)
